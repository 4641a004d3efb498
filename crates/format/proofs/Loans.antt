-- What refusal 1 leaves of the lengths of loans.
use mathlib.Core.Path.{◌≡◌, refl}
use mathlib.Core.Bool.{Bool, true, false, cond}
use Prim.Native.Nat.{ℕ, suc, ◌*◌, ◌/◌, ◌≤◌}
use native.Mathlib.Omega.{arith}
use borrow.Author.Tests.{ltb-false}
use lib.Dec.{ltb}
use lib.ListN.{length}
use Rattle.rows.specs.Memory.{Memory, row_width, span_width, trait_width, faulty, loan_fault, fault_of}
use Rattle.format.proofs.Tests.{neither}
use Rattle.rows.specs.Memory.{names_most, objects_most, rows_most, store_most, strings_most, traits_most}

-- entries of each loan
pub record Lent (m : Memory) : Type 0 where
  pub rows : length m.rows / row_width ≤ rows_most
  pub store : length m.store ≤ store_most
  pub strings : length m.strings / span_width ≤ strings_most
  pub objects : length m.objects ≤ objects_most
  pub traits : length m.traits / trait_width ≤ traits_most
  pub names : length m.names / span_width ≤ names_most

-- the first test passed, and the others after it
passed : (t : Bool) (n rest : ℕ) → cond t (suc n) rest ≡ 0 → (t ≡ false) × (rest ≡ 0)
passed true n rest e = absurd (omega arith)
passed false n rest e = (refl, e)

fits : (most w n : ℕ) → faulty most w n ≡ false → n ≤ most * w
fits most w n e = ltb-false (most * w) n (neither (ltb (most * w) n) _ e).0

pub lent : (m : Memory) → fault_of m ≡ 0 → Lent m
unfolding loan_fault
lent m e =
    let a = passed (faulty rows_most row_width (length m.rows)) 0 _ e in
    let b = passed (faulty store_most 1 (length m.store)) 1 _ a.1 in
    let c = passed (faulty strings_most span_width (length m.strings)) 2 _ b.1 in
    let d = passed (faulty objects_most 1 (length m.objects)) 3 _ c.1 in
    let f = passed (faulty traits_most trait_width (length m.traits)) 4 _ d.1 in
    let g = passed (faulty names_most span_width (length m.names)) 5 _ f.1 in
    record {
      rows = omega (arith, fits rows_most row_width (length m.rows) a.0);
      store = omega (arith, fits store_most 1 (length m.store) b.0);
      strings = omega (arith, fits strings_most span_width (length m.strings) c.0);
      objects = omega (arith, fits objects_most 1 (length m.objects) d.0);
      traits = omega (arith, fits traits_most trait_width (length m.traits) f.0);
      names = omega (arith, fits names_most span_width (length m.names) g.0);
    }
