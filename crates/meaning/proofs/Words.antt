-- The standard reads a U29 as wire defines it; and what the words that are written say.
use Rattle.std.proofs.Common.{Option, Some}
use Rattle.std.proofs.lemmas.Option.{some_pair_parts}
use mathlib.Core.Path.{◌≡◌, refl, ap, sym, ◌∙◌}
use mathlib.Core.List.{List, [], ◌∷◌, ◌++◌}
use Prim.Native.Nat.{ℕ, zero, suc, ◌+◌, ◌*◌, ◌-◌, ◌^◌, ◌/◌, ◌<◌, ◌%◌}
use native.Mathlib.Omega.{arith}
use native.Mathlib.Numerals.{add-one}
use borrow.Author.Tests.{le-ltb, lt-ltb, ne_eqb}
use lib.Dec.{lit<}
use lib.ListN.{length, drop}
use lib.Seq.{drop-append_seam}
use Rattle.wire.specs.declared.Part.{Part}
use Rattle.wire.specs.declared.Size.TheVariants.{New}
use Rattle.wire.specs.declared.Shape.TheVariants.{Inline}
use Rattle.wire.specs.U29.{rest_of, go_on, u29}
use Rattle.format.specs.Standard.{size_says, object_says}
use Rattle.wire.proofs.U29.{Step, step, astray, fourth, last, more}
use Rattle.wire.proofs.Round.{u29-round}
use Rattle.format.specs.Reading.{ok}
use Rattle.format.specs.Standard.{Tables, Std, byte, word, Pairs, no_pairs, pair, count_pairs, trait_word}
use Rattle.format.proofs.Tests.{clash}

-- the word of k bytes
record Word (at q : ℕ) (g : Std ℕ) (v : ℕ) (bs : List ℕ) : Type 0 where
  size : ℕ
  place : q ≡ at + size
  reads : (s : Tables) (p : ℕ) → g s p bs ≡ ok v s (p + size) (drop size bs)

word_byte : (left n b at v q : ℕ) (bs : List ℕ) {x : Option Part} → Step left n b x
    → ((m : ℕ) → rest_of (left - 1) m bs (at + 1) ≡ Some (v, q) → Word (at + 1) q (word (left - 1) m) v bs)
    → go_on (λ m. rest_of (left - 1) m bs (at + 1)) (at + 1) x ≡ Some (v, q) → Word at q (word left n) v (b ∷ bs)
unfolding word byte
word_byte left n b at v q bs (astray a) go e = clash cc
word_byte zero n b at v q bs (fourth z f) go e =
    let (w, r) = some_pair_parts (n * 2 ^ 8 + b) v (at + 1) q e in
    record { size = 1; place = sym r; reads = λ s p. rw (w, add-one p) }
word_byte (suc left) n b at v q bs (fourth z f) go e = absurd (omega arith)
word_byte zero n b at v q bs (last l h f g) go e = absurd (omega arith)
word_byte (suc left) n b at v q bs (last l h f g) go e =
    let (w, r) = some_pair_parts (n * 2 ^ 7 + b) v (at + 1) q e in
    record { size = 1; place = sym r; reads = λ s p. rw (lt-ltb b (2 ^ 7) g, w, add-one p) }
word_byte zero n b at v q bs (more l h f g) go e = absurd (omega arith)
word_byte (suc left) n b at v q bs (more l h f g) go e =
    let k : suc left - 1 ≡ left = omega arith in
    let w : Word (at + 1) q (word left (n * 2 ^ 7 + (b - 2 ^ 7))) v bs = rw k at (go (n * 2 ^ 7 + (b - 2 ^ 7)) e) in
    record {
      size = suc w.size;
      place = omega (arith, w.place);
      reads = λ s p. rw (le-ltb b (2 ^ 7) g) (w.reads s (suc p) ∙ ap (λ (k : ℕ). ok v s k (drop w.size bs)) (omega arith));
    }

word-rest : (bs : List ℕ) (left n at v q : ℕ) → rest_of left n bs at ≡ Some (v, q) → Word at q (word left n) v bs
unfolding rest_of
word-rest [] left n at v q e = clash cc
word-rest (b ∷ bs) left n at v q e = word_byte left n b at v q bs (step left n b) (λ m. word-rest bs (left - 1) m (at + 1) v q) e

-- a U29 that was written is read
pub word-round : (n : ℕ) → n < 2 ^ 29 → (s : Tables) (p : ℕ) (rest : List ℕ) → word 3 0 s p (u29 n ++ rest) ≡ ok n s (p + length (u29 n)) rest
word-round n h s p rest =
    let w : Word 0 (0 + length (u29 n)) (word 3 0) n (u29 n ++ rest) = word-rest (u29 n ++ rest) 3 0 0 n _ (u29-round n 0 rest h) in
    let e : length (u29 n) ≡ w.size = omega (arith, w.place) in
    w.reads s p ∙ rw (← e, drop-append_seam (u29 n) rest)

pub size-new : (n : ℕ) → size_says (n * 2 + 1) ≡ New n
unfolding size_says
size-new n = rw (ne_eqb ((n * 2 + 1) % 2) 0 (λ z. omega arith)) (ap New (omega arith))

shape_inline : (n dynamic w : ℕ) → dynamic < 2 → w ≡ n * 16 + (dynamic * 8 + 3) → object_says w ≡ Inline n dynamic
unfolding object_says
shape_inline n dynamic w h e =
    let a : w / 16 ≡ n = omega arith in
    let b : w / 8 % 2 ≡ dynamic = omega arith in
    rw (ne_eqb (w % 2) 0 (λ z. omega arith), ne_eqb (w % 4) 1 (λ z. omega arith), ne_eqb (w % 8) 7 (λ z. omega arith), a, b)

-- the word of an object: whether it has dynamic members, and how many sealed ones
abbrev pub dynamic_of : Pairs → ℕ
dynamic_of no_pairs = 0
dynamic_of (pair x t ps) = 1

trait-word : (xs ys : Pairs) → trait_word xs ys ≡ count_pairs xs * 16 + (dynamic_of ys * 8 + 3)
unfolding trait_word
trait-word xs no_pairs = refl
trait-word xs (pair x t ps) = refl

dynamic-two : (ys : Pairs) → dynamic_of ys < 2
dynamic-two no_pairs = lit< tt
dynamic-two (pair x t ps) = lit< tt

pub trait_shape : (xs ys : Pairs) → object_says (trait_word xs ys) ≡ Inline (count_pairs xs) (dynamic_of ys)
trait_shape xs ys = shape_inline (count_pairs xs) (dynamic_of ys) (trait_word xs ys) (dynamic-two ys) (trait-word xs ys)

pub trait_below : (xs ys : Pairs) → count_pairs xs < 2 ^ 25 → trait_word xs ys < 2 ^ 29
trait_below xs ys h = omega (arith, trait-word xs ys, dynamic-two ys)
