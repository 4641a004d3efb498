-- Big-endian numbers, once over the width: the round trips, the number from shifted bytes, and the bytes put one by one.
use Rattle.std.proofs.Common.{Option, Some, None}
use mathlib.Core.Path.{◌≡◌, refl, ap, sym, ◌∙◌}
use mathlib.Core.Bool.{Bool, true, false, cond}
use mathlib.Core.List.{List, [], ◌∷◌, ◌++◌}
use Prim.Native.Nat.{ℕ, zero, suc, ◌+◌, ◌*◌, ◌-◌, ◌^◌, ◌/◌, ◌%◌, ◌≤◌, ◌<◌}
use native.Mathlib.Omega.{arith}
use native.Mathlib.Decide.{dec_lt}
use native.Mathlib.Nat.{mod-lt}
use borrow.Author.Tests.{leb-true, le-leb, lt-leb, eq-eqb, ne_eqb}
use lib.Pow.{shr-shr, high, low}
use lib.Dec.{leb, eqb, lit<}
use lib.ListN.{length, get_or, take, drop, drop_of_length-le}
use lib.Seq.{take-nil, drop-cons, slice, length-slice}
use Rattle.std.specs.Int.{w32, w64, from_be_bytes, to_be_bytes}
use Rattle.std.proofs.lemmas.Option.{cond_some, some_pair_parts}
use Rattle.wire.specs.Big.{number_of, bytes_at, number_at, bytes_of, digit_of}
use Rattle.wire.specs.declared.Part.{Part}
use Rattle.wire.specs.declared.Part.TheVariants.{More, Whole}
use Rattle.wire.proofs.Digits.{digit-below, one_more, given, can, cannot, guard, row-length, row-bytes}
use Rattle.wire.proofs.Octets.{Bytes}
use Rattle.wire.proofs.Shift.{shifted-out}

-- ---- the round trips

number-bytes-behind : (k a n : ℕ) → number_of a (bytes_of k n) ≡ a * 2 ^ (8 * k) + n % 2 ^ (8 * k)
unfolding number_of bytes_of
number-bytes-behind zero a n = omega arith
number-bytes-behind (suc k) a n = number-bytes-behind k (a * 256 + n / 2 ^ (8 * k) % 256) n ∙ digit-below 8 a n k

pub number-bytes : (k n : ℕ) → number_of 0 (bytes_of k n) ≡ n % 2 ^ (8 * k)
number-bytes k n = number-bytes-behind k 0 n ∙ omega arith

pub bytes-length : (k n : ℕ) → length (bytes_of k n) ≡ k
unfolding bytes_of
bytes-length k n = row-length (λ j. bytes_of j n) _ (λ j. refl) k ∙ omega arith

pub bytes_below : (k n : ℕ) → Bytes (bytes_of k n)
unfolding bytes_of
bytes_below k n = row-bytes (λ j. bytes_of j n) _ (λ j. refl) (λ j. mod-lt (n / 2 ^ (8 * j)) (lit< tt)) (λ i. lit< tt) k

-- the bytes s stand below the number before them
number-high : (a : ℕ) (s : List ℕ) → Bytes s → number_of a s / 2 ^ (8 * length s) ≡ a
unfolding number_of
number-high a [] h = omega arith
number-high a (b ∷ s) h =
    let e : 8 * suc (length s) ≡ 8 * length s + 8 = omega arith in
    rw (e, ← shr-shr (number_of (a * 256 + b) s) (8 * length s) 8, number-high (a * 256 + b) s (λ i. h (suc i))) (high a 8 (h 0))

number_lt : (s : List ℕ) → Bytes s → number_of 0 s < 2 ^ (8 * length s)
number_lt s h = shifted-out (number_of 0 s) (8 * length s) (number-high 0 s h)

number_append : (a : ℕ) (s : List ℕ) (b : ℕ) → number_of a (s ++ (b ∷ [])) ≡ number_of a s * 2 ^ 8 + b
unfolding number_of
number_append a [] b = refl
number_append a (c ∷ s) b = number_append (a * 2 ^ 8 + c) s b

bytes-number-behind : (a : ℕ) (s : List ℕ) → Bytes s → bytes_of (length s) (number_of a s) ≡ s
unfolding number_of bytes_of
bytes-number-behind a [] h = refl
bytes-number-behind a (b ∷ s) h =
    rw (number-high (a * 256 + b) s (λ i. h (suc i)), low a 8 (h 0), bytes-number-behind (a * 256 + b) s (λ i. h (suc i)))

pub bytes-number : (s : List ℕ) → Bytes s → bytes_of (length s) (number_of 0 s) ≡ s
bytes-number s h = bytes-number-behind 0 s h

-- ---- reading

-- k elements of a list from i on
abbrev pub elements : ℕ → ℕ → List ℕ → List ℕ
elements zero i l = []
elements (suc k) i l = get_or l i 0 ∷ elements k (suc i) l

elements_are : (k i : ℕ) (l : List ℕ) → i + k ≡ length l → elements k i l ≡ drop i l
elements_are zero i l e = sym (drop_of_length-le l {i = i} (omega arith))
elements_are (suc k) i l e = rw (drop-cons l i 0 (omega arith)) (ap (λ (s : List ℕ). get_or l i 0 ∷ s) (elements_are k (suc i) l (omega arith)))

-- std's sum of the bytes, each at its worth
pub number-of_eight : (l : List ℕ) → length l ≡ 8 → from_be_bytes w64 l ≡ number_of 0 l
unfolding number_of
number-of_eight l e = (let s : from_be_bytes w64 l ≡ number_of 0 (elements 8 0 l) = omega arith in s) ∙ ap (number_of 0) (elements_are 8 0 l (sym e))

pub number-of_four : (l : List ℕ) → length l ≡ 4 → from_be_bytes w32 l ≡ number_of 0 l
unfolding number_of
number-of_four l e = (let s : from_be_bytes w32 l ≡ number_of 0 (elements 4 0 l) = omega arith in s) ∙ ap (number_of 0) (elements_are 4 0 l (sym e))

-- a part `&l[f..t]` is a slice
part_slice : (f t : ℕ) (l : List ℕ) → take (t - f) (drop f l) ≡ slice f t l
part_slice zero t l = let e : t - 0 ≡ t = omega arith in rw e
part_slice (suc f) zero l = let e : 0 - suc f ≡ 0 = omega arith in rw e
part_slice (suc f) (suc t) [] = take-nil (suc t - suc f)
part_slice (suc f) (suc t) (x ∷ l) = let e : suc t - suc f ≡ t - f = omega arith in rw e (part_slice f t l)

pub first_slice : (k at : ℕ) (l : List ℕ) → take k (drop at l) ≡ slice at (at + k) l
first_slice k at l = let e : k ≡ at + k - at = omega arith in ap (λ (n : ℕ). take n (drop at l)) e ∙ part_slice at (at + k) l

-- the bytes are there, or not
module _ (k at : ℕ) (s : List ℕ) where
  pub bytes-there : at + k ≤ length s → bytes_at k s at ≡ Some (slice at (at + k) s, at + k)
  unfolding bytes_at
  bytes-there h = rw (le-leb (at + k) (length s) h)

  pub bytes-short : length s < at + k → bytes_at k s at ≡ None
  unfolding bytes_at
  bytes-short h = rw (lt-leb (at + k) (length s) h)

  by-room : (t : Bool) (a : List ℕ × ℕ) (b : ℕ × ℕ) → cond t (Some a) None ≡ None → cond t (Some b) None ≡ None
  by-room true a b e = let z : ◌≡◌ {A = ℕ} 0 1 = cc in absurd (omega arith)
  by-room false a b e = refl

  pub number-short : bytes_at k s at ≡ None → number_at k s at ≡ None
  unfolding bytes_at number_at
  number-short = by-room (leb (at + k) (length s)) _ _

  pub bytes-are : {l : List ℕ} {p : ℕ} → bytes_at k s at ≡ Some (l, p) → length l ≡ k
  unfolding bytes_at
  bytes-are {l} {p} e =
      let (t, q) = cond_some _ _ _ e in
      let (there, behind) = some_pair_parts _ _ _ _ (ap Some q) in
      sym (ap length there) ∙ length-slice at (at + k) s (leb-true _ _ t) ∙ omega arith

  pub number-there : {l : List ℕ} {p n : ℕ} → bytes_at k s at ≡ Some (l, p) → n ≡ number_of 0 l → Some (n, p) ≡ number_at k s at
  unfolding bytes_at number_at
  number-there {l} {p} {n} e f =
      let (t, q) = cond_some _ _ _ e in
      let (there, behind) = some_pair_parts _ _ _ _ (ap Some q) in
      rw (t, there, behind, f)

-- ---- putting

-- std's bytes of a number
pub bytes-of_eight : (n : ℕ) → to_be_bytes w64 n ≡ bytes_of 8 n
unfolding bytes_of
bytes-of_eight n = let e : n % 256 ≡ n / 1 % 256 = omega arith in rw e

pub bytes-of_four : (n : ℕ) → to_be_bytes w32 (n % 2 ^ 32) ≡ bytes_of 4 n
unfolding bytes_of
bytes-of_four n =
    let a : n % 2 ^ 32 / 2 ^ 24 % 256 ≡ n / 2 ^ 24 % 256 = omega arith in
    let b : n % 2 ^ 32 / 2 ^ 16 % 256 ≡ n / 2 ^ 16 % 256 = omega arith in
    let c : n % 2 ^ 32 / 2 ^ 8 % 256 ≡ n / 2 ^ 8 % 256 = omega arith in
    let d : n % 2 ^ 32 % 256 ≡ n / 1 % 256 = omega arith in
    rw (a, b, c, d)

-- ---- byte by byte

module _ (left n b : ℕ) (within : left ≤ 7) (small : n < 2 ^ (8 * (7 - left))) where
  pub digit-last : left ≡ 0 → digit_of left n b ≡ Some (Whole (n * 2 ^ 8 + b))
  unfolding digit_of
  digit-last z = given 8 7 left n _ within small ∙ simp (eq-eqb left 0 z)

  pub digit-more : 0 < left → digit_of left n b ≡ Some (More (n * 2 ^ 8 + b))
  unfolding digit_of
  digit-more l = given 8 7 left n _ within small ∙ simp (ne_eqb left 0 (λ z. omega arith))

-- a byte that says more is not the last, and leaves a number that bytes can give
pub digit-within : (left n b m : ℕ) → b < 256 → digit_of left n b ≡ Some (More m) → (0 < left) × (m < 2 ^ (8 * (7 - (left - 1))))
unfolding digit_of
digit-within left n b m hb e =
    elim (guard 8 7 left n) [
      | cannot a f ↦ (let d : digit_of left n b ≡ None = f _ in let z : ◌≡◌ {A = ℕ} 0 1 = cc in absurd (omega arith))
      | can h f ↦ elim (dec_lt 0 left) [
        | no l ↦ (let d = digit-last left n b h f (omega arith) in let z : ◌≡◌ {A = ℕ} 0 1 = cc in absurd (omega arith))
        | yes l ↦ (let d = digit-more left n b h f l in let v : n * 2 ^ 8 + b ≡ m = cc in (l, rw v at (one_more 8 7 left n b l h f hb)))
      ]
    ]

-- the byte b after the bytes s: a reader that holds their number goes on to that of s and b
pub digit-after : (left b : ℕ) (s : List ℕ) → length s + left ≡ 7 → Bytes s
    → digit_of left (number_of 0 s) b ≡ Some (cond (eqb left 0) Whole More (number_of 0 (s ++ (b ∷ []))))
digit-after left b s e g =
    let k : length s ≡ 7 - left = omega arith in
    let f : number_of 0 s < 2 ^ (8 * (7 - left)) = rw k at (number_lt s g) in
    rw (number_append 0 s b)
    (elim (dec_lt 0 left) [
      | no l ↦ simp (eq-eqb left 0 (omega arith)) (digit-last left (number_of 0 s) b (omega arith) f (omega arith))
      | yes l ↦ simp (ne_eqb left 0 (λ z. omega arith)) (digit-more left (number_of 0 s) b (omega arith) f l)
    ])

abbrev pub onward : (ℕ → Option Part) → Option Part → Option Part
onward more (Some (More n)) = more n
onward more (Some (Whole n)) = Some (Whole n)
onward more None = None

-- what bytes give one by one, after those that gave n; `left` come after the first
unfoldable pub digits_of : ℕ → ℕ → List ℕ → Option Part
digits_of left n [] = Some (More n)
digits_of left n (b ∷ s) = onward (λ m. digits_of (left - 1) m s) (digit_of left n b)

pub digits : (k n : ℕ) (s : List ℕ) → length s ≡ suc k → k ≤ 7 → n < 2 ^ (8 * (7 - k)) → Bytes s → digits_of k n s ≡ Some (Whole (number_of n s))
unfolding digits_of number_of
digits k n [] e h f g = absurd (omega arith)
digits zero n (b ∷ []) e h f g = rw (digit-last 0 n b h f refl)
digits zero n (b ∷ c ∷ s) e h f g = absurd (omega arith)
digits (suc k) n (b ∷ s) e h f g =
    let z : suc k - 1 ≡ k = omega arith in
    rw (digit-more (suc k) n b h f (omega arith), z)
    (digits k (n * 2 ^ 8 + b) s (omega arith) (omega arith) (rw z at (one_more 8 7 (suc k) n b (omega arith) h f (g 0))) (λ i. g (suc i)))
