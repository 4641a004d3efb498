-- What the definition makes of eight bytes, by the purpose of their work.
use mathlib.Core.Path.{◌≡◌}
use mathlib.Core.List.{List}
use Prim.Native.Nat.{ℕ}
use native.Mathlib.Omega.{arith}
use Rattle.rows.specs.declared.Cursor.{Cursor}
use Rattle.rows.specs.Memory.{Memory}
use Rattle.format.specs.declared.Frame.{Frame}
use Rattle.format.specs.declared.Work.{Work}
use Rattle.format.specs.Decide.{on_rows, numbered, date_end}
use Rattle.format.specs.Step.{on, broken, pop, number_done}
use Rattle.format.specs.Numbers.{with_number}
use Rattle.format.specs.Codes.{purpose_double}
use Rattle.states.specs.Purposes.{IsNumber}

module _ (w : Work) (bits : ℕ) where
  pub double-done : w.purpose ≡ purpose_double → (ts : List Frame) (c : Cursor) (m : Memory)
      → with_number (broken m) w (λ x. number_done ts x bits c m) ≡ on (on_rows (numbered w.row bits) m c) m (λ x. pop ts)
  unfolding number_done
  double-done e ts c m = rw e

  pub date-done : IsNumber w → (w.purpose ≡ purpose_double → ⊥) → (ts : List Frame) (c : Cursor) (m : Memory)
      → with_number (broken m) w (λ x. number_done ts x bits c m) ≡ on (on_rows (date_end w.row bits) m c) m (λ x. pop ts)
  unfolding number_done
  date-done h n ts c m = let e : w.purpose ≡ 2 = omega arith in rw e
