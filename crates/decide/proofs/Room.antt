-- What the test of a room tells: that so many fit behind a place.
use mathlib.Core.Path.{◌≡◌, sym, ◌∙◌}
use mathlib.Core.Bool.{Bool, true, false}
use Prim.Native.Nat.{ℕ, ◌+◌, ◌≤◌}
use borrow.Author.Tests.{leb-true, leb-false, le-ltb, lt-ltb}
use lib.Dec.{leb, ltb}

module _ (at count len : ℕ) {r : Bool} (e : r ≡ leb (at + count) len) where
  pub within : r ≡ true → at + count ≤ len
  within t = leb-true (at + count) len (sym e ∙ t)

  -- the same test, asked the other way round
  pub fits-room : r ≡ true → ltb len (at + count) ≡ false
  fits-room t = le-ltb len (at + count) (within t)

  pub fits-full : r ≡ false → ltb len (at + count) ≡ true
  fits-full t = lt-ltb len (at + count) (leb-false (at + count) len (sym e ∙ t))
