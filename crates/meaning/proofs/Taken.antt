-- The numbers, words and texts of a reading, with the room that each takes on the bytes that are written for it.
use Rattle.std.proofs.Common.{Option, Some, None}
use Rattle.std.proofs.lemmas.Option.{some_pair_parts}
use mathlib.Core.Path.{◌≡◌, refl, ap, ◌∙◌}
use mathlib.Core.Bool.{Bool, true, false, cond}
use mathlib.Core.List.{List, [], ◌∷◌, append-nil}
use Prim.Native.Nat.{ℕ, zero, suc, ◌+◌, ◌*◌, ◌-◌, ◌^◌, ◌<◌}
use native.Mathlib.Omega.{arith}
use lib.Dec.{leb, ltb, eqb-suc-zero}
use lib.ListN.{length}
use Rattle.rows.specs.declared.Span.{Span}
use Rattle.wire.specs.declared.Part.{Part}
use Rattle.wire.specs.declared.Part.TheVariants.{More, Whole}
use Rattle.wire.specs.U29 as w
use Rattle.wire.specs.U29.{rest_of, go_on}
use Rattle.wire.specs.Big.{digit_of}
use Rattle.wire.proofs.U29.{Step, step, astray, fourth, last, more}
use Rattle.wire.proofs.Round.{u29-round}
use Rattle.utf8.specs.States.{step_of}
use Rattle.wire.specs.declared.Size.TheVariants.{New}
use Rattle.format.specs.Decide.{lost}
use Rattle.format.specs.Standard.{text_bytes}
use Rattle.format.specs.Reading as r
use Rattle.format.specs.Reading.{Reader, by, on_part, u29, number, chars, fill, text_of, text, filled, chars_of}
use Rattle.format.specs.Holds.{room, nothing, of_text}
use Rattle.format.proofs.Tests.{clash}
use Rattle.meaning.proofs.Holds.{Any, Goes, goes-ret, goes-more, goes-seq, goes-free, goes_end, goes_last, goes-byte, goes-lost}
use Rattle.meaning.proofs.Enough.{goes-reserved, goes-stored, goes-text-end, goes-bodied}
use Rattle.meaning.proofs.Own.{size-read}

-- ---- numbers

none_left : (xs : List ℕ) → length xs ≡ 0 → xs ≡ []
none_left [] e = refl
none_left (b ∷ xs) e = absurd (omega arith)

-- the parts of a U29 that ends with these bytes
module _ (v : ℕ) where
  whole-goes : (at x : ℕ) (xs : List ℕ) (f : ℕ → Reader ℕ) → ◌≡◌ {A = Option (ℕ × ℕ)} (Some (x, at + 1)) (Some (v, at + suc (length xs)))
      → Goes (λ (y : ℕ). y ≡ v) (on_part f (Some (Whole x))) xs nothing
  whole-goes at x xs f e =
      let (p, q) = some_pair_parts x v (at + 1) (at + suc (length xs)) e in
      rw (none_left xs (omega arith)) (goes-ret p)

  part-goes : (left n b at : ℕ) {x : Option Part} (xs : List ℕ) (f : ℕ → Reader ℕ) → Step left n b x
      → ((m : ℕ) → 0 < left → rest_of (left - 1) m xs (at + 1) ≡ Some (v, at + 1 + length xs) → Goes (λ (y : ℕ). y ≡ v) (f m) xs nothing)
      → go_on (λ m. rest_of (left - 1) m xs (at + 1)) (at + 1) x ≡ Some (v, at + suc (length xs)) → Goes (λ (y : ℕ). y ≡ v) (on_part f x) xs nothing
  part-goes left n b at xs f (astray a) go e = clash cc
  part-goes left n b at xs f (fourth z g) go e = whole-goes at (n * 2 ^ 8 + b) xs f e
  part-goes left n b at xs f (last l h g i) go e = whole-goes at (n * 2 ^ 7 + b) xs f e
  part-goes left n b at xs f (more l h g i) go e = go (n * 2 ^ 7 + (b - 2 ^ 7)) l (e ∙ ap (λ (p : ℕ). Some (v, p)) (omega arith))

  word-goes : (xs : List ℕ) (left n at : ℕ) → rest_of left n xs at ≡ Some (v, at + length xs) → Goes (λ (y : ℕ). y ≡ v) (u29 left n) xs nothing
  unfolding rest_of u29
  word-goes [] left n at e = clash cc
  word-goes (b ∷ xs) zero n at e =
      goes-free _ (goes-byte b) (λ x p. rw p (part-goes 0 n b at xs (λ m. by (λ m c. lost)) (step 0 n b) (λ m l q. goes-lost) e))
  word-goes (b ∷ xs) (suc left) n at e =
      let k : suc left - 1 ≡ left = omega arith in
      goes-free _ (goes-byte b)
      (λ x p. rw p (part-goes (suc left) n b at xs (u29 left) (step (suc left) n b) (λ m l q. word-goes xs left m (at + 1) (rw k at q)) e))

pub goes-word : (n : ℕ) → n < 2 ^ 29 → Goes (λ (x : ℕ). x ≡ n) (u29 3 0) (w.u29 n) nothing
goes-word n h = word-goes n (w.u29 n) 3 0 0 (rw (append-nil (w.u29 n)) at (u29-round n 0 [] h))

-- so many bytes, whatever number they give
pub goes_number : (left n : ℕ) (xs : List ℕ) → length xs ≡ suc left → Goes Any (number left n) xs nothing
unfolding number digit_of
goes_number left n [] e = absurd (omega arith)
goes_number zero n (b ∷ xs) e = goes-free _ (goes-byte b) (λ x p. rw (none_left xs (omega arith)) (part (leb (2 ^ (8 * (7 - 0))) n) (n * 2 ^ 8 + x)))
  where
    part : (t : Bool) (k : ℕ) → Goes Any (on_part (λ n. by (λ m c. lost)) (cond t None (Some (Whole k)))) [] nothing
    part true k = goes-lost
    part false k = goes-ret tt
goes_number (suc left) n (b ∷ xs) e =
    goes-free _ (goes-byte b) (λ x p. rw (eqb-suc-zero left)
    (part (ltb 7 (suc left)) (leb (2 ^ (8 * (7 - suc left))) n) (n * 2 ^ 8 + x) (goes_number left (n * 2 ^ 8 + x) xs (omega arith))))
  where
    part : (t u : Bool) (k : ℕ) → Goes Any (number left k) xs nothing → Goes Any (on_part (number left) (cond t None (cond u None (Some (More k))))) xs nothing
    part true u k h = goes-lost
    part false true k h = goes-lost
    part false false k h = h

-- ---- texts and raw bytes

pub goes-chars : (s : Span) (n t : ℕ) (xs : List ℕ) → length xs ≡ suc n → Goes Any (chars s n t) xs nothing
unfolding chars
goes-chars s n t [] e = absurd (omega arith)
goes-chars s zero t (b ∷ xs) e =
    goes-free _ (goes-byte b) (λ x p. rw (none_left xs (omega arith)) (goes-free _ (goes-stored s zero x) (λ a q. goes-ret tt)))
goes-chars s (suc n) t (b ∷ xs) e =
    goes-free _ (goes-byte b) (λ x p. goes-free _ (goes-stored s (suc n) x) (λ a q. goes-chars s n (step_of t x) xs (omega arith)))

module _ (grow : ℕ → Reader Unit) (grows : (n : ℕ) → Goes Any (grow n) [] nothing) where
  pub goes-fill : (s : Span) (n : ℕ) (xs : List ℕ) → length xs ≡ suc n → Goes Any (fill grow s n) xs nothing
  unfolding fill
  goes-fill s n [] e = absurd (omega arith)
  goes-fill s zero (b ∷ xs) e =
      goes-free _ (goes-byte b) (λ x p. rw (none_left xs (omega arith)) (goes-free _ (goes-stored s zero x) (λ a q. grows zero)))
  goes-fill s (suc n) (b ∷ xs) e =
      goes-free _ (goes-byte b) (λ x p. goes-free _ (goes-free _ (goes-stored s (suc n) x) (λ a q. grows (suc n))) (λ a q. goes-fill s n xs (omega arith)))

  pub goes-filled : (s : Span) (n : ℕ) (xs : List ℕ) → length xs ≡ n → Goes Any (filled grow s n) xs nothing
  unfolding filled
  goes-filled s zero xs e = rw (none_left xs e) (goes-ret tt)
  goes-filled s (suc n) xs e = goes-fill s n xs e

pub goes-chars-of : (s : Span) (n : ℕ) (xs : List ℕ) → length xs ≡ n → Goes Any (chars_of s n) xs nothing
unfolding chars_of
goes-chars-of s zero xs e = rw (none_left xs e) (goes-ret tt)
goes-chars-of s (suc n) xs e = goes-chars s n 0 xs e

pub goes-room : (row n : ℕ) → Goes (λ (s : Span). s.size ≡ n) (r.room row n) [] (room 0 n 0 0 0 0)
unfolding r.room
goes-room row zero = goes-more (omega arith) (goes-ret refl)
goes-room row (suc n) = goes_last _ (goes-reserved (suc n)) (λ s p. goes-free _ (goes-bodied row s) (λ a q. goes-ret p))

module _ (at : Span → Reader Unit) (free : (s : Span) → Goes Any (at s) [] nothing) where
  new-text : (t : List ℕ) → Goes (λ (s : Span). s.size ≡ length t) (text_of at (New (length t))) t (of_text t)
  unfolding text_of of_text
  new-text [] = goes-ret refl
  new-text (b ∷ t) =
      goes-seq (room 0 (suc (length t)) 0 0 0 0) (room 0 0 1 0 0 0) (rw (eqb-suc-zero (length t)) (omega arith)) _ (goes-reserved (suc (length t)))
      (λ s p. goes_end nothing (room 0 0 1 0 0 0) (omega arith) _ (goes-free _ (free s) (λ a q. goes-chars s (length t) 0 (b ∷ t) refl))
      (λ valid q. goes-text-end s valid (suc (length t)) p))

  pub goes-text : (t : List ℕ) → length t < 2 ^ 28 → Goes (λ (s : Span). s.size ≡ length t) (text at) (text_bytes t) (of_text t)
  unfolding text
  goes-text t h =
      goes-free _ (goes-word (length t * 2 + 1) (omega arith)) (λ x p. rw (p, size-read (length t)) (new-text t))
