-- The names of a trait, one after the other.
use mathlib.Core.Path.{◌≡◌, ap}
use mathlib.Core.List.{List}
use Prim.Native.Nat.{ℕ, suc, ◌+◌, ◌-◌, ◌≤◌, ◌<◌}
use native.Mathlib.Omega.{arith}
use Rattle.rows.specs.declared.Cursor.{Cursor}
use Rattle.rows.specs.Memory.{Memory}
use Rattle.format.specs.Decide.{on_names, named}
use Rattle.format.specs.Reading as r
use Rattle.format.specs.Reading.{Reader, ◌>>=◌, ◌>>◌, by, text, plain, ret}
use Rattle.scan.specs.Reads.{reads}

-- a name, and those left
abbrev pub one_more : ℕ → Reader Unit
one_more left = do
  s ← text plain
  by (on_names (named s)) >> r.names left

module _ (n : ℕ) where
  pub names-all : (m : Memory) (c : Cursor) (s : List ℕ) → reads (r.names (n - 0)) m c s ≡ reads (r.names n) m c s
  names-all m c s = let e : n - 0 ≡ n = omega arith in rw e

  pub names_more : (i : ℕ) → i < n → (m : Memory) (c : Cursor) (s : List ℕ) → reads (one_more (n - (i + 1))) m c s ≡ reads (r.names (n - i)) m c s
  unfolding r.names
  names_more i h m c s = let e : n - i ≡ suc (n - (i + 1)) = omega arith in rw e

  pub names-none : (i : ℕ) → n ≤ i → (m : Memory) (c : Cursor) (s : List ℕ) → reads (ret tt) m c s ≡ reads (r.names (n - i)) m c s
  unfolding r.names
  names-none i h m c s = let e : n - i ≡ 0 = omega arith in rw e
