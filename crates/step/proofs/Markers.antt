-- A marker that gave a row: one more value may be open.
use mathlib.Core.Path.{◌≡◌}
use mathlib.Core.Bool.{Bool, true, false, cond}
use mathlib.Core.List.{List}
use Prim.Native.Nat.{ℕ, zero, suc, ◌-◌, ◌/◌, ◌<◌}
use native.Mathlib.Omega.{arith}
use lib.Dec.{ltb}
use lib.ListN.{length}
use Rattle.std.specs.Prelude.{Ok}
use Rattle.rows.specs.declared.Cursor.{Cursor}
use Rattle.rows.specs.declared.Key.{Key}
use Rattle.rows.specs.Memory.{Memory, memory, row_width, open_limit}
use Rattle.format.specs.declared.Frame.{Frame}
use Rattle.format.specs.Decide.{give, marker, lost, refuse, on_rows, lift, kind_of}
use Rattle.format.specs.Step.{at_marker, on, shown, begun, act}
use Rattle.format.specs.Refusals as refusals
use Rattle.resume.specs.declared.Feeding.{Feeding}
use Rattle.resume.specs.Steps.{loans_of, Decides}

marker_open : (key : Key) (left b row : ℕ) (m m' : Memory) (c c' : Cursor) → give row m' c' ≡ on_rows (marker key left b) m c → 0 < left
unfolding marker
marker_open key zero b row m m' c c' e = by (ltb (length m.rows / row_width) c.rows) (ltb 17 b) e
  where
    by : (t u : Bool) → give row m' c' ≡ lift (λ R. memory R m.store m.strings m.objects m.traits m.names) (cond t lost (cond u (refuse 3 b c) (refuse refusals.too_deep 0 c))) → 0 < zero
    by true u e = let z : ◌≡◌ {A = ℕ} 0 1 = cc in omega arith
    by false true e = let z : ◌≡◌ {A = ℕ} 0 1 = cc in omega arith
    by false false e = let z : ◌≡◌ {A = ℕ} 0 1 = cc in omega arith
marker_open key (suc left) b row m m' c c' e = omega arith

-- what may still open goes down by one
pub marker_room : {f g : Feeding} {left row : ℕ} (key : Key) (b : ℕ) → Decides (Ok row) f g (on_rows (marker key left b)) → 0 < left
marker_room {f} {g} {left} {row} key b D = marker_open key left b row (loans_of f) (loans_of g) f.cursor g.cursor D.gave

-- the definition, with so many values open
pub marks : (k key : Key) (b d : ℕ) (ts : List Frame) (c : Cursor) (m : Memory) → length ts ≡ d → key ≡ shown k
    → act (at_marker k) b ts c m ≡ on (on_rows (marker key (open_limit - d) b) m c) m (λ row. begun ts row (kind_of b))
unfolding act
marks k key b d ts c m e q = rw (e, q)
