-- Numbers that a word or eight bytes have in the making are those of which the next byte doesn't go astray.
use mathlib.Core.Path.{◌≡◌, refl}
use mathlib.Core.Bool.{Bool, true, false, cond}
use Prim.Native.Nat.{ℕ, ◌*◌, ◌-◌, ◌^◌}
use lib.Dec.{leb, ltb}
use borrow.Author.Tests.{leb-true, leb-false, ltb-true, ltb-false, le-leb, lt-leb, lt-ltb, le-ltb}
use Rattle.std.specs.Prelude.{Option, None}
use Rattle.std.specs.Option.{is_some}
use Rattle.wire.specs.declared.Part.{Part}
use Rattle.wire.specs.U29.{part_of, word_more, word_bits}
use Rattle.wire.specs.Big.{digit_of, number_more, number_bits}
use Rattle.format.specs.Numbers.{part_fits}
use Rattle.format.proofs.Tests.{on_bool}

some_cond : (t : Bool) (x y : Option Part) → is_some (cond t x y) ≡ cond t (is_some x) (is_some y)
some_cond true x y = refl
some_cond false x y = refl

cond_same : (t : Bool) → cond t true true ≡ true
cond_same true = refl
cond_same false = refl

-- two tests that send astray, and then what doesn't
tracked : (most bits left n : ℕ) (x : Option Part) → is_some x ≡ true
    → is_some (cond (ltb most left) None (cond (leb (2 ^ (bits * (most - left))) n) None x)) ≡ part_fits most bits left n
tracked most bits left n x e = on_bool (ltb most left)
    (λ t. rw (t, lt-leb left most (ltb-true most left t)))
    (λ t. on_bool (leb (2 ^ (bits * (most - left))) n)
    (λ u. rw (t, u, le-leb left most (ltb-false most left t), le-ltb n (2 ^ (bits * (most - left))) (leb-true (2 ^ (bits * (most - left))) n u)))
    (λ u. rw (t, u, le-leb left most (ltb-false most left t), lt-ltb n (2 ^ (bits * (most - left))) (leb-false (2 ^ (bits * (most - left))) n u)) e))

pub word_tracked : (left n b : ℕ) → is_some (part_of left n b) ≡ part_fits word_more word_bits left n
unfolding part_of
word_tracked left n b = tracked word_more word_bits left n _ (simp (some_cond, cond_same))

pub number_tracked : (left n b : ℕ) → is_some (digit_of left n b) ≡ part_fits number_more number_bits left n
unfolding digit_of
number_tracked left n b = tracked number_more number_bits left n _ (simp (some_cond, cond_same))
