-- Orders one after the other: equal bytes are equal trees, no order begins another, and joined bytes are those of one list.
use mathlib.Core.Path.{◌≡◌, refl, ap, sym, ◌∙◌}
use mathlib.Core.List.{List, [], ◌∷◌, ◌++◌, map, append-nil}
use Prim.Native.Nat.{ℕ}
use lib.ListN.{length}
use Rattle.format.specs.Reading.{ok}
use Rattle.format.specs.Standard.{encode, byte, value, standard}
use Rattle.format.specs.Writing.{written, writing}
use Rattle.format.specs.Writable.{Writable}
use Rattle.format.specs.Endings.{Accepted}
use Rattle.format.proofs.Tests.{clash}
use Rattle.format.proofs.Unfolded.{unfolded-fits}
use Rattle.meaning.proofs.Round.{standard-round, prefix_free}
use Rattle.meaning.proofs.Writes.{call-wrote, accepted, reported}
pub use Rattle.format.specs.Orders.{Order, order_bytes, order_tree, back_to_back}

-- ---- one order

module _ (o : Order) where
  pub order-written : writing o.rows o.store o.out ≡ written o.size o.out_after
  order-written = call-wrote o.rows o.store o.out o.out_after o.size o.accepted

  pub order-accepted : Accepted o.rows o.store o.out o.size o.out_after
  order-accepted = accepted o.rows o.store o.out o.out_after o.size order-written

  -- its bytes are those of its tree
  pub order-bytes : order_bytes o ≡ encode (order_tree o)
  order-bytes = (reported o.rows o.store o.out o.out_after o.size order-accepted).0

  pub order-writable : Writable (order_tree o)
  order-writable = unfolded-fits o.rows o.store order-accepted.passes.lent order-accepted.passes.rows o.wide

  -- it has a byte, so a list of none is no other list
  some_byte : (x : List ℕ) → order_bytes o ++ x ≡ [] → ⊥
  unfolding standard value byte
  some_byte x e =
      let (s, r) = standard-round (order_tree o) order-writable x in
      let q : standard [] ≡ ok (order_tree o) s (length (encode (order_tree o))) x = sym (ap standard (ap (λ (l : List ℕ). l ++ x) (sym order-bytes) ∙ e)) ∙ r in
      clash cc

-- ---- two

module _ (o p : Order) where
  pub same_bytes : order_tree o ≡ order_tree p → order_bytes o ≡ order_bytes p
  same_bytes t = order-bytes o ∙ ap encode t ∙ sym (order-bytes p)

  -- where both begin the same bytes they are of one tree, and the same is behind them
  pub same-order : (x y : List ℕ) → order_bytes o ++ x ≡ order_bytes p ++ y → (order_tree o ≡ order_tree p) × (order_bytes o ≡ order_bytes p) × (x ≡ y)
  same-order x y e =
      let (t, r) = prefix_free (order_tree o) (order_tree p) (order-writable o) (order-writable p) x y (rw (order-bytes o, order-bytes p) at e) in
      (t, same_bytes t, r)

  pub same-tree : order_bytes o ≡ order_bytes p → order_tree o ≡ order_tree p
  same-tree e = (same-order [] [] (ap (λ (l : List ℕ). l ++ []) e)).0

  pub no_beginning : (x : List ℕ) → order_bytes o ++ x ≡ order_bytes p → x ≡ []
  no_beginning x e = (same-order x [] (e ∙ sym (append-nil (order_bytes p)))).2

-- ---- lists

pub one_list : (os ps : List Order) → back_to_back os ≡ back_to_back ps → (map order_bytes os ≡ map order_bytes ps) × (map order_tree os ≡ map order_tree ps)
one_list [] [] e = (refl, refl)
one_list [] (p ∷ ps) e = absurd (some_byte p (back_to_back ps) (sym e))
one_list (o ∷ os) [] e = absurd (some_byte o (back_to_back os) e)
one_list (o ∷ os) (p ∷ ps) e =
    let (t, b, r) = same-order o p (back_to_back os) (back_to_back ps) e in
    let (bs, ts) = one_list os ps r in
    (rw (b, bs), rw (t, ts))
