-- The reading over the loans and the standard's, side by side: when two results are alike, and that bytes, words and numbers are read alike.
use mathlib.Core.Path.{◌≡◌, refl, ◌∙◌}
use mathlib.Core.Bool.{Bool, true, false, cond}
use mathlib.Core.List.{List, [], ◌∷◌}
use Prim.Native.Nat.{ℕ, zero, suc, ◌+◌, ◌-◌, ◌*◌, ◌^◌, ◌<◌, ◌≤◌}
use native.Mathlib.Omega.{arith}
use native.Mathlib.Decide.{dec_lt}
use borrow.Author.Tests.{lt-ltb, le-ltb, leb-false}
use lib.Dec.{leb, lit≤}
use lib.ListN.{length, get_or, drop, drop_of_length-le, length-drop}
use lib.Seq.{drop-cons}
use Rattle.rows.specs.declared.Cursor.{Cursor}
use Rattle.rows.specs.Memory.{Memory, message_limit}
use Rattle.wire.specs.Big.{number_of}
use Rattle.wire.proofs.Octets.{Bytes}
use Rattle.wire.proofs.Digits.{one_more}
use Rattle.wire.proofs.U29.{part-fourth, part-last, part-more}
use Rattle.wire.proofs.Big.{digit-last, digit-more}
use Rattle.format.specs.Reading.{ResultOf, ok, bad, bind, ret, Result, Reader, taken}
use Rattle.format.specs.Reading as our
use Rattle.format.specs.Standard as std
use Rattle.format.specs.Standard.{Tables, Std}
use Rattle.format.proofs.Tests.{clash}
use Rattle.format.proofs.Memories.{at_to}
use Rattle.format.specs.Refusals as refusals

-- ---- the bytes left

-- after `at` bytes of the whole message
pub record Left (whole : List ℕ) (at : ℕ) (bs : List ℕ) : Type 0 where
  pub rest : bs ≡ drop at whole
  pub within : at ≤ length whole

pub left-byte : {whole : List ℕ} {at b : ℕ} {bs : List ℕ} → Bytes whole → Left whole at (b ∷ bs) → Left whole (suc at) bs × (b < 2 ^ 8)
left-byte {whole} {at} {b} {bs} h l = by (dec_lt at (length whole))
  where
    by : Dec (at < length whole) → Left whole (suc at) bs × (b < 2 ^ 8)
    by (yes k) =
        let e : (b ∷ bs) ≡ (get_or whole at 0 ∷ drop (suc at) whole) = l.rest ∙ drop-cons whole at 0 k in
        let f : b ≡ get_or whole at 0 = cc in
        let g : bs ≡ drop (suc at) whole = cc in
        (record { rest = g; within = k }, rw f (h at))
    by (no k) = let e : (b ∷ bs) ≡ [] = l.rest ∙ drop_of_length-le whole {i = at} (omega arith) in clash cc

-- one more than the bytes left, with those before them, is more than the whole
pub left-enough : {whole : List ℕ} {at : ℕ} {bs : List ℕ} → Left whole at bs → length whole < suc (length bs) + at
left-enough {whole} {at} {bs} l = let w = l.within in rw (l.rest, length-drop) (omega arith)

-- ---- two results alike

-- both gave, and Q holds; both refuse alike, by a number of the standard's; or only the loans and the limits refuse
pub data Agree (whole : List ℕ) {A B : Type 0} (Q : A → Memory → Cursor → B → Tables → Type 0) : Result A → ResultOf Tables ℕ B → Type 0 where
  fine : {a : A} {m : Memory} {c : Cursor} {b : B} {s : Tables} {bs : List ℕ} → Left whole c.at bs → Q a m c b s
      → Agree whole Q (ok a m c bs) (ok b s c.at bs)
  both : {n t p : ℕ} {m : Memory} {s : Tables} → 2 ≤ n → n ≤ 8 → Agree whole Q (bad n t p m) (bad n t p s)
  ours : {n t p : ℕ} {m : Memory} {y : ResultOf Tables ℕ B} → refusals.too_deep ≤ n → n ≤ refusals.too_long → Agree whole Q (bad n t p m) y

module _ {whole : List ℕ} {A B C D : Type 0} {R : A → Memory → Cursor → B → Tables → Type 0} {Q : C → Memory → Cursor → D → Tables → Type 0} where
  -- one after the other
  pub then : {x : Result A} {y : ResultOf Tables ℕ B} (f : A → Reader C) (g : B → Std D) → Agree whole R x y
      → ((a : A) (m : Memory) (c : Cursor) (b : B) (s : Tables) (bs : List ℕ) → Left whole c.at bs → R a m c b s
      → Agree whole Q (f a m c bs) (g b s c.at bs)) → Agree whole Q (bind x f) (bind y g)
  then f g (fine {a = a} {m = m} {c = c} {b = b} {s = s} {bs = bs} l h) k = k a m c b s bs l h
  then f g (both h i) k = both h i
  then f g (ours h i) k = ours h i

module _ {whole : List ℕ} {A B C : Type 0} {R : A → Memory → Cursor → B → Tables → Type 0} {Q : A → Memory → Cursor → C → Tables → Type 0} where
  -- the standard makes something of its result
  pub made : {x : Result A} {y : ResultOf Tables ℕ B} (g : B → C) → Agree whole R x y
      → ((a : A) (m : Memory) (c : Cursor) (b : B) (s : Tables) → R a m c b s → Q a m c (g b) s) → Agree whole Q x (bind y (λ b. ret (g b)))
  made g (fine {a = a} {m = m} {c = c} {b = b} {s = s} l h) k = fine l (k a m c b s h)
  made g (both h i) k = both h i
  made g (ours h i) k = ours h i

-- what follows from what holds
pub weaken : {whole : List ℕ} {A B : Type 0} {R Q : A → Memory → Cursor → B → Tables → Type 0} {x : Result A} {y : ResultOf Tables ℕ B}
    → Agree whole R x y → ((a : A) (m : Memory) (c : Cursor) (b : B) (s : Tables) → R a m c b s → Q a m c b s) → Agree whole Q x y
weaken (fine {a = a} {m = m} {c = c} {b = b} {s = s} l h) k = fine l (k a m c b s h)
weaken (both h i) k = both h i
weaken (ours h i) k = ours h i

pub flat : {S P A B C : Type 0} (v : ResultOf S P A) (f : A → S → P → List ℕ → ResultOf S P B) (g : B → S → P → List ℕ → ResultOf S P C)
    → bind (bind v f) g ≡ bind v (λ a m p bs. bind (f a m p bs) g)
flat (ok a m p bs) f g = refl
flat (bad n t p m) f g = refl

-- ---- bytes and numbers

module _ (whole : List ℕ) (octets : Bytes whole) {C D : Type 0} {Q : C → Memory → Cursor → D → Tables → Type 0} (m : Memory) (s : Tables) where
  pub byte-then : (c : Cursor) (bs : List ℕ) (f : ℕ → Reader C) (g : ℕ → Std D) → Left whole c.at bs
      → ((b : ℕ) (bs : List ℕ) → Left whole (suc c.at) bs → b < 2 ^ 8 → suc c.at ≤ message_limit
      → Agree whole Q (f b m (taken c) bs) (g b s (suc c.at) bs)) → Agree whole Q (bind (our.byte m c bs) f) (bind (std.byte s c.at bs) g)
  unfolding our.byte std.byte
  byte-then c [] f g l k = both (lit≤ tt) (lit≤ tt)
  byte-then c (b ∷ bs) f g l k = test (leb message_limit c.at) refl
    where
      test : (t : Bool) → leb message_limit c.at ≡ t → Agree whole Q (bind (cond t (bad refusals.too_long 0 c.at m) (ok b m (taken c) bs)) f)
          (g b s (suc c.at) bs)
      test true e = ours (lit≤ tt) (lit≤ tt)
      test false e = let h = left-byte octets l in k b bs h.0 h.1 (leb-false message_limit c.at e)

  -- one byte of a word, at most `left` more
  pub word-then : (left n : ℕ) (c : Cursor) (bs : List ℕ) (f : ℕ → Reader C) (g : ℕ → Std D) → left ≤ 3 → n < 2 ^ (7 * (3 - left))
      → Left whole c.at bs → ((w n : ℕ) (bs : List ℕ) → Left whole n bs → c.at < n → n ≤ message_limit
      → Agree whole Q (f w m (at_to c n) bs) (g w s n bs)) → Agree whole Q (bind (our.u29 left n m c bs) f) (bind (std.word left n s c.at bs) g)
  unfolding our.u29 std.word
  word-then zero n c bs f g h e l k =
      rw (flat, flat) (byte-then c bs _ _ l (λ b bs l o i. rw (part-fourth 0 n b h e refl) (k (n * 2 ^ 8 + b) (suc c.at) bs l (omega arith) i)))
  word-then (suc left) n c bs f g h e l k = rw (flat, flat) (byte-then c bs _ _ l (λ b bs l o i. elim (dec_lt b (2 ^ 7)) [
    | yes t ↦ rw (part-last (suc left) n b h e (omega arith) t, lt-ltb b (2 ^ 7) t) (k (n * 2 ^ 7 + b) (suc c.at) bs l (omega arith) i)
    | no t ↦
        (let u : 2 ^ 7 ≤ b = omega arith in
        let z : suc left - 1 ≡ left = omega arith in
        let v : n * 2 ^ 7 + (b - 2 ^ 7) < 2 ^ (7 * (3 - left)) = rw z at (one_more 7 3 (suc left) n (b - 2 ^ 7) (omega arith) h e (omega arith)) in
        rw (part-more (suc left) n b h e (omega arith) u, le-ltb b (2 ^ 7) u)
        (word-then left (n * 2 ^ 7 + (b - 2 ^ 7)) (taken c) bs f g (omega arith) v l (λ w p bs l j i. k w p bs l (omega arith) i)))
  ]))

  -- one byte of a number, `left` more; the standard reads them and makes a number of them
  pub number-then : (left n : ℕ) (c : Cursor) (bs : List ℕ) (f : ℕ → Reader C) (g : ℕ → Std D) → left ≤ 7 → n < 2 ^ (8 * (7 - left))
      → Left whole c.at bs → ((w p : ℕ) (bs : List ℕ) → Left whole p bs → c.at < p → p ≤ message_limit
      → Agree whole Q (f w m (at_to c p) bs) (g w s p bs))
      → Agree whole Q (bind (our.number left n m c bs) f) (bind (std.bytes (suc left) s c.at bs) (λ t. g (number_of n t)))
  unfolding our.number std.bytes number_of
  number-then zero n c bs f g h e l k =
      rw (flat, flat) (byte-then c bs _ _ l (λ b bs l o i. rw (digit-last 0 n b h e refl) (k (n * 2 ^ 8 + b) (suc c.at) bs l (omega arith) i)))
  number-then (suc left) n c bs f g h e l k = rw (flat, flat) (byte-then c bs _ _ l (λ b bs l o i.
      let z : suc left - 1 ≡ left = omega arith in
      let v : n * 2 ^ 8 + b < 2 ^ (8 * (7 - left)) = rw z at (one_more 8 7 (suc left) n b (omega arith) h e o) in
      rw (digit-more (suc left) n b h e (omega arith), flat)
      (number-then left (n * 2 ^ 8 + b) (taken c) bs f g (omega arith) v l (λ w p bs l j i. k w p bs l (omega arith) i))))
