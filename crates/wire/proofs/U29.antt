-- How the definition of a U29 goes on by one byte, and what bounds it.
use Rattle.std.proofs.Common.{Option, Some, None}
use mathlib.Core.Path.{◌≡◌, refl, ap, sym, ◌∙◌}
use mathlib.Core.Bool.{Bool, true, false, cond}
use mathlib.Core.List.{List, [], ◌∷◌, ◌++◌}
use Prim.Native.Nat.{ℕ, zero, suc, ◌+◌, ◌*◌, ◌-◌, ◌^◌, ◌/◌, ◌%◌, ◌≤◌, ◌<◌}
use native.Mathlib.Omega.{arith}
use native.Mathlib.Numerals.{add-one}
use native.Mathlib.Decide.{dec_lt}
use native.Mathlib.Nat.{lt_of_lt_of_le, mod-lt}
use borrow.Author.Tests.{le-ltb, lt-ltb, eq-eqb, ne_eqb}
use lib.Dec.{lit≤, lit<, eqb}
use lib.ListN.{length, drop, get_or, set, drop_of_length-le}
use lib.Pow.{pow_mono, pow_pos}
use lib.Seq.{drop-cons, sets}
use Rattle.wire.specs.declared.Part.{Part}
use Rattle.wire.specs.declared.Part.TheVariants.{More, Whole}
use Rattle.wire.specs.U29.{part_of, rest_of, go_on, groups, last_bits, more_of, u29}
use Rattle.wire.proofs.Digits.{one_more, before_small, given, can, cannot, guard, row-length, row-bytes, put_first}
use Rattle.wire.proofs.Octets.{Bytes}

-- ---- one byte

module _ (left n b : ℕ) (within : left ≤ 3) (small : n < 2 ^ (7 * (3 - left))) where
  pub part-fourth : left ≡ 0 → part_of left n b ≡ Some (Whole (n * 2 ^ 8 + b))
  unfolding part_of
  part-fourth z = given 7 3 left n _ within small ∙ simp (eq-eqb left 0 z)

  pub part-last : 0 < left → b < 2 ^ 7 → part_of left n b ≡ Some (Whole (n * 2 ^ 7 + b))
  unfolding part_of
  part-last l h = given 7 3 left n _ within small ∙ simp (ne_eqb left 0 (λ z. omega arith), lt-ltb b _ h)

  pub part-more : 0 < left → 2 ^ 7 ≤ b → part_of left n b ≡ Some (More (n * 2 ^ 7 + (b - 2 ^ 7)))
  unfolding part_of
  part-more l h = given 7 3 left n _ within small ∙ simp (ne_eqb left 0 (λ z. omega arith), le-ltb b _ h)

-- a byte is astray, or the fourth, or the last of fewer, or says more
pub data Step (left n b : ℕ) : Option Part → Type 0 where
  astray : (left ≤ 3 → n < 2 ^ (7 * (3 - left)) → ⊥) → Step left n b None
  fourth : left ≡ 0 → n < 2 ^ 21 → Step left n b (Some (Whole (n * 2 ^ 8 + b)))
  last : 0 < left → left ≤ 3 → n < 2 ^ (7 * (3 - left)) → b < 2 ^ 7 → Step left n b (Some (Whole (n * 2 ^ 7 + b)))
  more : 0 < left → left ≤ 3 → n < 2 ^ (7 * (3 - left)) → 2 ^ 7 ≤ b → Step left n b (Some (More (n * 2 ^ 7 + (b - 2 ^ 7))))

pub step : (left n b : ℕ) → Step left n b (part_of left n b)
unfolding part_of
step left n b =
    elim (guard 7 3 left n) [
      | cannot a e ↦ rw e (astray a)
      | can h f ↦ elim (dec_lt 0 left) [
        | no z ↦ let e : left ≡ 0 = omega arith in rw (part-fourth left n b h f e) (fourth e (before_small 7 3 left f))
        | yes l ↦ elim (dec_lt b (2 ^ 7)) [
          | yes g ↦ rw (part-last left n b h f l g) (last l h f g)
          | no g ↦ let g : 2 ^ 7 ≤ b = omega arith in rw (part-more left n b h f l g) (more l h f g)
        ]
      ]
    ]

-- a byte that says more is not the fourth, and leaves a number that bytes can give
pub part-within : (left n b m : ℕ) → b < 256 → part_of left n b ≡ Some (More m) → (0 < left) × (m < 2 ^ (7 * (3 - (left - 1))))
part-within left n b m hb = within (step left n b)
  where
    within : {x : Option Part} → Step left n b x → x ≡ Some (More m) → (0 < left) × (m < 2 ^ (7 * (3 - (left - 1))))
    within (astray a) e = let z : ◌≡◌ {A = ℕ} 0 1 = cc in absurd (omega arith)
    within (fourth z f) e = let z : ◌≡◌ {A = ℕ} 0 1 = cc in absurd (omega arith)
    within (last l h f g) e = let z : ◌≡◌ {A = ℕ} 0 1 = cc in absurd (omega arith)
    within (more l h f g) e =
        let v : n * 2 ^ 7 + (b - 2 ^ 7) ≡ m = cc in
        (l, rw v at (one_more 7 3 left n (b - 2 ^ 7) l h f (omega arith)))

-- ---- reading

module _ (s : List ℕ) (p left n : ℕ) where
  rest-byte : p < length s
      → rest_of left n (drop p s) p ≡ go_on (λ m. rest_of (left - 1) m (drop (p + 1) s) (p + 1)) (p + 1) (part_of left n (get_or s p 0))
  unfolding rest_of
  rest-byte h =
      rw (drop-cons s p 0)
      (ap (λ (k : ℕ). go_on (λ m. rest_of (left - 1) m (drop k s) (p + 1)) (p + 1) (part_of left n (get_or s p 0))) (sym (add-one p)))

  pub rest_end : length s ≤ p → rest_of left n (drop p s) p ≡ None
  unfolding rest_of
  rest_end h = rw (drop_of_length-le s h)

  -- by what the byte at p gives
  pub rest_part : (x y : Option Part) → p < length s → x ≡ part_of left n (get_or s p 0) → x ≡ y
      → rest_of left n (drop p s) p ≡ go_on (λ m. rest_of (left - 1) m (drop (p + 1) s) (p + 1)) (p + 1) y
  rest_part x y h e f = rest-byte h ∙ ap (go_on (λ m. rest_of (left - 1) m (drop (p + 1) s) (p + 1)) (p + 1)) (sym e ∙ f)

-- ---- putting

-- the bits of k + 1 bytes
abbrev pub room : ℕ → ℕ
room k = 7 * k + last_bits k

pub last_le : (k : ℕ) → last_bits k ≤ 8
last_le k = either (eqb k 3)
  where
    either : (t : Bool) → cond t 8 7 ≤ 8
    either true = lit≤ tt
    either false = lit≤ tt

-- what holds of each form, of n that need it, holds of the shortest
by-more : (P : ℕ → Type 0) (n : ℕ)
    → (n < 2 ^ 7 → P 0) → (2 ^ 7 ≤ n → n < 2 ^ 14 → P 1) → (2 ^ 14 ≤ n → n < 2 ^ 21 → P 2) → (2 ^ 21 ≤ n → P 3) → P (more_of n)
unfolding more_of
by-more P n p₀ p₁ p₂ p₃ =
    elim (dec_lt n (2 ^ 7)) [
      | yes a ↦ simp (lt-ltb n (2 ^ 7) a) (p₀ a)
      | no a ↦ elim (dec_lt n (2 ^ 14)) [
        | yes b ↦ simp (le-ltb n (2 ^ 7) (omega arith), lt-ltb n (2 ^ 14) b) (p₁ (omega arith) b)
        | no b ↦ elim (dec_lt n (2 ^ 21)) [
          | yes d ↦ simp (le-ltb n (2 ^ 7) (omega arith), le-ltb n (2 ^ 14) (omega arith), lt-ltb n (2 ^ 21) d) (p₂ (omega arith) d)
          | no d ↦ simp (le-ltb n (2 ^ 7) (omega arith), le-ltb n (2 ^ 14) (omega arith), le-ltb n (2 ^ 21) (omega arith)) (p₃ (omega arith))
        ]
      ]
    ]

pub more_le : (n : ℕ) → more_of n ≤ 3
more_le n = by-more (λ k. k ≤ 3) n (λ a. lit≤ tt) (λ a b. lit≤ tt) (λ a b. lit≤ tt) (λ a. lit≤ tt)

pub more-holds : (n : ℕ) → n < 2 ^ 29 → n < 2 ^ room (more_of n)
more-holds n h = by-more (λ k. n < 2 ^ room k) n (λ a. a) (λ a b. b) (λ a b. b) (λ a. h)

more_needs : (n : ℕ) → 0 < more_of n → 2 ^ (7 * more_of n) ≤ n
more_needs n = by-more (λ k. 0 < k → 2 ^ (7 * k) ≤ n) n (λ a z. absurd (omega arith)) (λ a b z. a) (λ a b z. a) (λ a z. a)

-- no fewer bytes hold n
pub more-least : (k n : ℕ) → k ≤ 3 → n < 2 ^ room k → more_of n ≤ k
more-least k n h f =
    elim (dec_lt k (more_of n)) [
      | no l ↦ omega arith
      | yes l ↦
          (let e : last_bits k ≡ 7 = simp (ne_eqb k 3 (λ z. omega (arith, more_le n))) in
          omega (arith, more_needs n (omega arith), pow_mono {i = room k} {j = 7 * more_of n} (omega arith)))
    ]

-- j groups of n, and the last byte after k
abbrev form : ℕ → ℕ → ℕ → List ℕ
form k n j = groups j (n / 2 ^ last_bits k) ++ (n % 2 ^ last_bits k ∷ [])

pub u29-length : (n : ℕ) → length (u29 n) ≡ more_of n + 1
unfolding u29 groups
u29-length n = row-length (form (more_of n) n) _ (λ j. refl) (more_of n)

last_byte : (k n : ℕ) → Bytes (n % 2 ^ last_bits k ∷ [])
last_byte k n zero = lt_of_lt_of_le (mod-lt n (pow_pos (last_bits k))) (pow_mono {j = 8} (last_le k))
last_byte k n (suc i) = lit< tt

pub u29-bytes : (n : ℕ) → Bytes (u29 n)
unfolding u29 groups
u29-bytes n = row-bytes (form (more_of n) n) _ (λ j. refl) (λ j. omega arith) (last_byte (more_of n) n) (more_of n)

pub put-group : (out : List ℕ) (p j m b : ℕ) (l : List ℕ) → 0 < j → b ≡ 2 ^ 7 + m / 2 ^ (7 * (j - 1)) % 2 ^ 7
    → sets out p (groups j m ++ l) ≡ sets (set out p b) (p + 1) (groups (j - 1) m ++ l)
unfolding groups
put-group out p j m b l = put_first (λ k. groups k m ++ l) (λ k. 2 ^ 7 + m / 2 ^ (7 * k) % 2 ^ 7) (λ k. refl) out p j b

pub put_last : (out : List ℕ) (p j m b : ℕ) → j ≡ 0 → sets out p (groups j m ++ (b ∷ [])) ≡ set out p b
unfolding groups
put_last out p j m b e = rw e
