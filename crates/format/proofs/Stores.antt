-- The bytes of a span go one by one to their places in the store.
use mathlib.Core.Path.{◌≡◌}
use mathlib.Core.List.{List}
use Prim.Native.Nat.{ℕ, suc, ◌+◌, ◌-◌, ◌≤◌, ◌<◌}
use native.Mathlib.Omega.{arith}
use borrow.Author.Tests.{le-leb, lt-leb, le-ltb}
use lib.ListN.{length, set}
use Rattle.rows.specs.declared.Cursor.{Cursor}
use Rattle.rows.specs.declared.Span.{Span}
use Rattle.format.specs.Decide.{give, stored}

-- the place in the store of a byte after which n more come
abbrev pub place : Span → ℕ → ℕ
place s n = s.begin + (s.size - suc n)

-- a byte of a span that is used
pub stored_there : (s : Span) (n b : ℕ) (B : List ℕ) (c : Cursor) → s.begin + s.size ≤ c.store → c.store ≤ length B → n < s.size
    → stored s n b B c ≡ give tt (set B (place s n) b) c
unfolding stored
stored_there s n b B c h g l =
    let e : n + 1 ≡ suc n = omega arith in
    rw (le-ltb (length B) c.store g, lt-leb s.size n l, le-leb (s.begin + s.size) c.store h, e)
