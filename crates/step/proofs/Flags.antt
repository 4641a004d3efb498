-- A flag, by the purpose of its work: what it is in the row, and what comes after it.
use mathlib.Core.Path.{◌≡◌, refl}
use mathlib.Core.Bool.{cond}
use mathlib.Core.List.{List}
use Prim.Native.Nat.{ℕ}
use native.Mathlib.Omega.{arith}
use lib.Dec.{eqb}
use borrow.Author.Tests.{ne_eqb}
use Rattle.rows.specs.declared.Cursor.{Cursor}
use Rattle.rows.specs.Memory.{Memory}
use Rattle.format.specs.declared.Frame.{Frame}
use Rattle.format.specs.declared.Work.{Work}
use Rattle.format.specs.Decide.{on_rows, flagged, fixed, weak}
use Rattle.format.specs.Step.{State, wait, on, broken, onward, keys_of, at_string, for_vector, filling, flag_done}
use Rattle.format.specs.Numbers.{with_flag, with_raw}
use Rattle.format.specs.Codes.{purpose_object_vector, purpose_dictionary}
use Rattle.states.specs.Purposes.{IsFlag}
use Rattle.states.proofs.Purposes.{between, purposed}

-- what comes after a fixed flag: a vector's class, or the bytes of a raw vector
abbrev pub after_fixed : Work → List Frame → Unit {0} → Cursor → Memory → State
after_fixed w ts x c m =
    cond (eqb w.purpose purpose_object_vector) (wait (at_string (for_vector w.row w.count)) ts c m)
    (with_raw (broken m) w.purpose w.row (λ r. filling ts r w.span w.span.size c m))

module _ (w : Work) where
  pub dictionary-flag : (b : ℕ) → w.purpose ≡ purpose_dictionary → (ts : List Frame) (c : Cursor) (m : Memory)
      → with_flag (broken m) w (λ x. flag_done ts x b c m) ≡ on (on_rows (flagged w.row (weak b)) m c) m (λ x. onward ts (keys_of w.row w.count 0))
  unfolding flag_done
  dictionary-flag b e ts c m = rw e

  pub fixed-flag : (b : ℕ) → IsFlag w → (w.purpose ≡ purpose_dictionary → ⊥) → (ts : List Frame) (c : Cursor) (m : Memory)
      → with_flag (broken m) w (λ x. flag_done ts x b c m) ≡ on (on_rows (flagged w.row (fixed b)) m c) m (after_fixed w ts)
  unfolding flag_done
  fixed-flag b h d ts c m =
      between
      (λ p. with_flag (broken m) (purposed w p) (λ x. flag_done ts x b c m) ≡ on (on_rows (flagged w.row (fixed b)) m c) m (after_fixed (purposed w p) ts))
      7 3 (refl, (refl, (refl, tt))) w.purpose (omega arith) (omega arith)

  pub objects_after : w.purpose ≡ purpose_object_vector → (ts : List Frame) (c : Cursor) (m : Memory)
      → after_fixed w ts tt c m ≡ wait (at_string (for_vector w.row w.count)) ts c m
  objects_after e ts c m = rw e

  pub raw_after : (w.purpose ≡ purpose_object_vector → ⊥) → (ts : List Frame) (c : Cursor) (m : Memory)
      → after_fixed w ts tt c m ≡ with_raw (broken m) w.purpose w.row (λ r. filling ts r w.span w.span.size c m)
  raw_after n ts c m = rw (ne_eqb w.purpose purpose_object_vector n)
