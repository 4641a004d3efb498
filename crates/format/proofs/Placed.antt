-- A byte's refusal names its place: any number but 12 has the place of the byte itself, and tells what document 01 says; the loans are zeroed.
use mathlib.Core.Path.{◌≡◌}
use mathlib.Core.Bool.{◌&&◌}
use mathlib.Core.List.{List}
use Prim.Native.Nat.{ℕ}
use lib.Dec.{T, leb}
use Rattle.rows.specs.declared.Cursor.{Cursor}
use Rattle.rows.specs.Memory.{Memory, zeroed, loan_rows, loan_names}
use Rattle.format.specs.declared.Frame.{Frame}
use Rattle.format.specs.Step.{Mode, State, wait, over, act}
use Rattle.format.specs.Reading.{finished, refused}
use Rattle.format.proofs.Reasons.{Lacks, no_row, no_store, no_string, no_object, no_trait, no_name, reasons_act}
use Rattle.format.proofs.Reasons as reasons
pub use Rattle.format.specs.Byte.{RefusedBy, unknown, absent, unfinished, external, undated, invalid, deep, full, astrays}

-- a state after it
pub data Placed (b p : ℕ) : State → Type 0 where
  waits : {x : Mode} {ts : List Frame} {c : Cursor} {m : Memory} → c.at ≡ p → Placed b p (wait x ts c m)
  finishes : {c : Cursor} {m : Memory} → c.at ≡ p → Placed b p (over (finished c m))
  declines : {n told place : ℕ} {m : Memory} (k : Memory) → RefusedBy b p n told place → m ≡ zeroed k → Placed b p (over (refused n told place m))

-- ---- the reasons left out

-- a loan that lacks room is one of a reading's
lacks-loan : {c : Cursor} {m : Memory} {b loan : ℕ} {x : Mode} → Lacks c m b x loan → T (leb loan_rows loan && leb loan loan_names)
lacks-loan (no_row h l) = tt
lacks-loan (no_store h i l) = tt
lacks-loan (no_string h l) = tt
lacks-loan (no_object h i l) = tt
lacks-loan (no_trait h i j l) = tt
lacks-loan (no_name h i l) = tt

module _ {D : Type 0} {E : ℕ → Type 0} (loans : (loan : ℕ) → E loan → T (leb loan_rows loan && leb loan loan_names)) {b p : ℕ} where
  refusal-of : {n told place : ℕ} → reasons.Refusal D E b p n told place → RefusedBy b p n told place
  refusal-of (reasons.unknown h e) = unknown h e
  refusal-of (reasons.absent e) = absent e
  refusal-of (reasons.unfinished e) = unfinished e
  refusal-of (reasons.external e) = external e
  refusal-of (reasons.undated e) = undated e
  refusal-of (reasons.malformed e) = invalid e
  refusal-of (reasons.deep d e) = deep e
  refusal-of (reasons.full d e) = full (loans _ d) e
  refusal-of reasons.astrays = astrays

  placed_of : {s : State} → reasons.Placed D E b p s → Placed b p s
  placed_of (reasons.waits e) = waits e
  placed_of (reasons.finishes e) = finishes e
  placed_of (reasons.declines k r z) = declines k (refusal-of r) z

-- what byte b makes of a mode, the cursor already past it
pub placed-act : {b p : ℕ} (x : Mode) (ts : List Frame) (c : Cursor) (m : Memory) → c.at ≡ p → Placed b p (act x b ts c m)
placed-act {b = b} x ts c m e = placed_of (λ loan. lacks-loan) (reasons_act {b = b} ts c m e x)
