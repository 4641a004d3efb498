-- The rows that follow a row.
use mathlib.Core.Path.{◌≡◌}
use mathlib.Core.List.{List}
use Prim.Native.Nat.{ℕ, suc, ◌+◌, ◌-◌, ◌<◌, ◌≤◌}
use native.Mathlib.Omega.{arith}
use Rattle.rows.specs.Memory.{col, col_end}
use Rattle.format.specs.Unfold.{after}

-- ---- after i of n

pub after_none : (R : List ℕ) (k i n : ℕ) {x : ℕ} → after R k (n - i) ≡ x → n ≤ i → k ≡ x
unfolding after
after_none R k i n e h = let z : n - i ≡ 0 = omega arith in rw z at e

pub after_one : (R : List ℕ) (k i n : ℕ) {x e : ℕ} → after R k (n - i) ≡ x → i < n → e ≡ col R k col_end → after R e (n - (i + 1)) ≡ x
unfolding after
after_one R k i n g h q = let z : n - i ≡ suc (n - (i + 1)) = omega arith in rw q (rw z at g)
