-- What is counted, or is a name, is less than what is used.
use mathlib.Core.Path.{◌≡◌, refl, sym, ap, ◌∙◌, subst}
use mathlib.Core.Bool.{Bool, true, false, cond}
use mathlib.Core.List.{List}
use Prim.Native.Nat.{ℕ, ◌+◌, ◌/◌, ◌^◌, ◌<◌}
use lib.Dec.{ltb, leb}
use lib.ListN.{length}
use borrow.Author.Tests.{leb-false}
use native.Mathlib.Omega.{arith}
use Rattle.std.specs.Prelude.{Result as Answer, Ok, Err, IfOk}
use Rattle.format.specs.declared.Refusal.{Refusal}
use Rattle.rows.specs.declared.Cursor.{Cursor}
use Rattle.rows.specs.declared.Key.{Key}
use Rattle.rows.specs.Memory.{span_width, span_at, span_used, key_of, row_used, put}
use Rattle.wire.specs.Put.{With1, with1}
use Rattle.decide.specs.Outcomes.{leaving, answer_in}
use Rattle.format.specs.Decide.{Out, stop, give, lost, counted, sealed_key}

abbrev Below : ℕ → Out Unit Key → Type 0
Below i (stop n told place) = Unit
Below i (give k x c) = i < c.names

below-tests : (i : ℕ) (k : Key) (c : Cursor) (x y z : Bool) → (y ≡ false → i < c.names) → Below i (cond x lost (cond y lost (cond z (give k tt c) lost)))
below-tests i k c true y z h = tt
below-tests i k c false true z h = tt
below-tests i k c false false true h = h refl
below-tests i k c false false false h = tt

below : (i : ℕ) (N : List ℕ) (c : Cursor) → Below i (sealed_key i N c)
unfolding sealed_key
below i N c = below-tests i (key_of (span_at N i)) c (ltb (length N / span_width) c.names) (leb c.names i) (span_used c (span_at N i)) (leb-false c.names i)

-- a name that is there is among those used, so there is a number behind its own
pub name-fits : (i : ℕ) (N : List ℕ) (c : Cursor) (x : Answer Key Refusal) → answer_in x c ≡ sealed_key i N c → c.names < 2 ^ 64 → IfOk x (λ k. i + 1 < 2 ^ 64)
name-fits i N c (Ok k) e h = let p : i < c.names = subst (Below i) (sym e) (below i N c) in omega arith
name-fits i N c (Err r) e h = tt

abbrev Under : ℕ → With1 (Out Unit Unit) → Type 0
Under i (with1 (stop n told place) R) = Unit
Under i (with1 (give a x c) R) = i < c.rows

under-tests : (i : ℕ) (R R' : List ℕ) (c : Cursor) (x y : Bool) → (x ≡ false → i < c.rows) → Under i (leaving R (cond x lost (cond y (give tt R' c) lost)))
under-tests i R R' c true y h = tt
under-tests i R R' c false true h = h refl
under-tests i R R' c false false h = tt

under : (row col i : ℕ) (R : List ℕ) (c : Cursor) → Under i (leaving R (counted row col i R c))
unfolding counted
under row col i R c = under-tests i R (put R row col (i + 1)) c (leb c.rows i) (row_used R c row) (leb-false c.rows i)

-- an entry that is counted comes after fewer than there are rows
pub rows_above : (row col i : ℕ) (R R' : List ℕ) (c c' : Cursor) (o : Out Unit Unit) → with1 o R' ≡ leaving R (counted row col i R c) → o ≡ give tt tt c' → i < c'.rows
rows_above row col i R R' c c' o e p = subst (Under i) (sym e ∙ ap (λ o. with1 o R') p) (under row col i R c)
