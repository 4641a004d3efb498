-- A byte of a raw body, for the one body that its work has.
use mathlib.Core.Path.{◌≡◌, refl}
use mathlib.Core.List.{List}
use Prim.Native.Nat.{ℕ}
use native.Mathlib.Omega.{arith}
use Rattle.rows.specs.declared.Cursor.{Cursor}
use Rattle.rows.specs.Memory.{Memory}
use Rattle.format.specs.declared.Frame.{Frame}
use Rattle.format.specs.declared.Work.{Work}
use Rattle.format.specs.Decide.{on_store, stored}
use Rattle.format.specs.Step.{State, on, broken, at_raw, raw_grown, filling, act}
use Rattle.format.specs.Numbers.{with_raw}
use Rattle.states.specs.Purposes.{IsRaw}
use Rattle.states.proofs.Purposes.{between, purposed}
use Rattle.resume.specs.Steps.{grown_by}

-- what comes after the count, and after the byte
abbrev pub after_count : Work → List Frame → Unit {0} → Cursor → Memory → State
after_count w ts x c m = with_raw (broken m) w.purpose w.row (λ r. filling ts r w.span w.left c m)

abbrev pub after_byte : Work → List Frame → Unit {0} → Cursor → Memory → State
after_byte w ts x c m = on (grown_by w m c) m (after_count w ts)

pub raw-stored : (w : Work) (b : ℕ) → IsRaw w.purpose → (ts : List Frame) (c : Cursor) (m : Memory)
    → with_raw (broken m) w.purpose w.row (λ r. act (at_raw r w.span w.left) b ts c m) ≡ on (on_store (stored w.span w.left b) m c) m (after_byte w ts)
unfolding act raw_grown
raw-stored w b h ts c m =
    between
    (λ p. with_raw (broken m) p w.row (λ r. act (at_raw r w.span w.left) b ts c m) ≡ on (on_store (stored w.span w.left b) m c) m (after_byte (purposed w p) ts))
    6 3 (refl, (refl, (refl, tt))) w.purpose (omega arith) (omega arith)
