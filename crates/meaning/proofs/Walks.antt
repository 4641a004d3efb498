-- What a row is given, by the walks of all earlier rows over their children, the last that comes to it: where these close, it is what its parent gives.
use mathlib.Core.Path.{◌≡◌, refl, sym, ap, ◌∙◌}
use mathlib.Core.Bool.{cond}
use mathlib.Core.List.{List}
use mathlib.Core.Logic.{◌≢◌}
use mathlib.Core.Option.{Option, none, some}
use Prim.Native.Nat.{ℕ, zero, suc, ◌+◌, ◌<◌}
use native.Mathlib.Omega.{arith}
use native.Mathlib.Decide.{dec_lt}
use borrow.Author.Tests.{ltb-true, eqb-true, eqb-false}
use lib.Dec.{ltb, eqb}
use Rattle.rows.specs.Memory.{col_end, col}
use Rattle.format.specs.Unfold.{after}
use Rattle.format.specs.RowTest.{children, Given, keyless, gives, parent_in, given}
use Rattle.format.proofs.Tests.{on_bool, clash}
use Rattle.format.proofs.Tested.{after_one, Shut, parent, child-given}

-- to row i, if it is among n children of row p, from row k, the first of them number j; else as before
unfoldable pub given_in : Given → List ℕ → ℕ → ℕ → ℕ → ℕ → ℕ → Given
given_in before R p i k j zero = before
given_in before R p i k j (suc n) = cond (eqb k i) (gives R p j) (given_in before R p i (col R k col_end) (suc j) n)

-- by the first p rows; a root is given none
unfoldable pub given_last : List ℕ → ℕ → ℕ → Given
given_last R zero i = keyless
given_last R (suc p) i = given_in (given_last R p i) R p i (suc p) 0 (children R p)

module _ (R : List ℕ) where
  -- what a row is given by the first q rows: nothing, where it is no child of them; or what one of them gives to its child
  data Giving (q i : ℕ) : Given → Type 0 where
    orphan : ((p j : ℕ) → p < q → j < children R p → i ≢ after R (suc p) j) → Giving q i keyless
    child : (p j : ℕ) → p < q → j < children R p → i ≡ after R (suc p) j → Giving q i (gives R p j)

  -- by the walk over the children of row p, and by all walks
  giving_in : (p i : ℕ) (g : Given) → Giving p i g → (n k j : ℕ) → j + n ≡ children R p → k ≡ after R (suc p) j → ((l : ℕ) → l < j → i ≢ after R (suc p) l)
      → Giving (suc p) i (given_in g R p i k j n)
  unfolding given_in
  giving_in p i g (orphan o) zero k j e f old = orphan (λ r l a b. elim (dec_lt r p) [
    | yes c ↦ o r l c b
    | no c ↦ (let q : r ≡ p = omega arith in let d : l < children R p = rw (← q) b in rw q (old l (omega arith)))
  ])
  giving_in p i g (child r l a b c) zero k j e f old = child r l (omega arith) b c
  giving_in p i g h (suc n) k j e f old = on_bool (eqb k i)
      (λ t. rw t (child p j (omega arith) (omega arith) (sym (eqb-true k i t) ∙ f)))
      (λ t. rw t (giving_in p i g h n (col R k col_end) (suc j) (omega arith) (ap (λ x. col R x col_end) f ∙ sym (after_one R (suc p) j))
      (λ l a. elim (dec_lt l j) [
        | yes c ↦ old l c
        | no c ↦ (let q : l ≡ j = omega arith in λ d. eqb-false k i t (f ∙ sym (d ∙ ap (λ x. after R (suc p) x) q)))
      ])))

  giving : (q i : ℕ) → Giving q i (given_last R q i)
  unfolding given_last after
  giving zero i = orphan (λ p j a b. absurd (omega arith))
  giving (suc p) i = giving_in p i (given_last R p i) (giving p i) (children R p) (suc p) 0 (omega arith) refl (λ l a. absurd (omega arith))

  -- a parent is one of the rows, and ends past its child
  parent-past : (m i p : ℕ) → parent_in R m i ≡ some p → (p < m) × (i < col R p col_end)
  unfolding parent_in
  parent-past zero i p e = clash cc
  parent-past (suc m) i p e = on_bool (ltb i (col R m col_end))
      (λ t. let q : some m ≡ some p = rw t at e in let r : m ≡ p = cc in rw (← r) (omega arith, ltb-true i (col R m col_end) t))
      (λ t. let (a, b) = parent-past m i p (rw t at e) in (omega arith, b))

-- where the children of each earlier row end with it, both are the same
pub given-last : (R : List ℕ) (i : ℕ) → Shut R i → given_last R i i ≡ given R i
unfolding given
given-last R i closed = by (giving R i i)
  where
    alone : ((p j : ℕ) → p < i → j < children R p → i ≢ after R (suc p) j) → (x : Option ℕ) → parent_in R i i ≡ x → keyless ≡ given R i
    alone o none e = rw e
    alone o (some p) e =
        let (a, b) = parent-past R i i p e in
        let r = parent R i p i (omega arith) closed a b in
        absurd (o r.row r.number r.before r.few (sym r.is))

    by : {g : Given} → Giving R i i g → g ≡ given R i
    by (child p j a b c) = sym (child-given R i closed p j a b (sym c))
    by (orphan o) = alone o (parent_in R i i) refl
