-- Reading what was put gives it back, with anything after it; and no shorter form is read as the same number.
use Rattle.std.proofs.Common.{Option, Some, None}
use mathlib.Core.Path.{◌≡◌, ap, sym, ◌∙◌}
use mathlib.Core.List.{List, [], ◌∷◌, ◌++◌, append_assoc}
use Prim.Native.Nat.{ℕ, zero, suc, ◌+◌, ◌*◌, ◌-◌, ◌^◌, ◌/◌, ◌%◌, ◌≤◌, ◌<◌}
use native.Mathlib.Omega.{arith}
use native.Mathlib.Nat.{mod-lt, lt_of_lt_of_le}
use native.Mathlib.Decide.{dec_lt}
use lib.Dec.{lit≤, lit<}
use borrow.Author.Tests.{eq-eqb, ne_eqb}
use lib.Pow.{pow_pos, pow_mono, recompose}
use lib.ListN.{length, get_or}
use Rattle.std.proofs.lemmas.Option.{some_pair_parts}
use Rattle.wire.specs.declared.Part.{Part}
use Rattle.wire.specs.declared.Part.TheVariants.{More, Whole}
use Rattle.wire.specs.U29.{part_of, rest_of, go_on, groups, last_bits, form_of, more_of, u29}
use Rattle.wire.proofs.Digits.{digit-below, next_lt, one_more}
use Rattle.wire.proofs.Octets.{Bytes}
use Rattle.wire.proofs.U29.{part-fourth, part-last, part-more, Step, step, astray, fourth, last, more}
use Rattle.wire.proofs.U29.{room, last_le, more_le, more-holds, more-least, u29-length}

-- ---- what was put is read

-- a group's byte takes seven bits below acc
group-read : (left acc g : ℕ) → 0 < left → left ≤ 3 → acc < 2 ^ (7 * (3 - left)) → part_of left acc (2 ^ 7 + g) ≡ Some (More (acc * 2 ^ 7 + g))
group-read left acc g l h f =
    part-more left acc (2 ^ 7 + g) h f l (omega arith) ∙ ap (λ (x : ℕ). Some (More (acc * 2 ^ 7 + x))) (omega arith)

groups-read : (k left acc m at : ℕ) (rest : List ℕ) → k ≤ left → left ≤ 3 → acc < 2 ^ (7 * (3 - left))
    → rest_of left acc (groups k m ++ rest) at ≡ rest_of (left - k) (acc * 2 ^ (7 * k) + m % 2 ^ (7 * k)) rest (at + k)
unfolding groups rest_of
groups-read zero left acc m at rest l h f =
    let a : at + 0 ≡ at = omega arith in
    let b : left - 0 ≡ left = omega arith in
    let v : acc * 1 + m % 1 ≡ acc = omega arith in
    cc
groups-read (suc k) left acc m at rest l h f =
    let g : ℕ = m / 2 ^ (7 * k) % 2 ^ 7 in
    let r : acc * 2 ^ 7 + g < 2 ^ (7 * (3 - (left - 1))) = one_more 7 3 left acc g (omega arith) h f (omega arith) in
    let i : rest_of (left - 1) (acc * 2 ^ 7 + g) (groups k m ++ rest) (at + 1)
    ≡ rest_of (left - 1 - k) ((acc * 2 ^ 7 + g) * 2 ^ (7 * k) + m % 2 ^ (7 * k)) rest (at + 1 + k) =
    groups-read k (left - 1) (acc * 2 ^ 7 + g) m (at + 1) rest (omega arith) (omega arith) r in
    let a : at + 1 + k ≡ at + suc k = omega arith in
    let b : left - 1 - k ≡ left - suc k = omega arith in
    let v : (acc * 2 ^ 7 + g) * 2 ^ (7 * k) + m % 2 ^ (7 * k) ≡ acc * 2 ^ (7 * suc k) + m % 2 ^ (7 * suc k) = digit-below 7 acc m k in
    rw (group-read left acc g (omega arith) h f) (cc)

last-read : (k x n : ℕ) → k ≤ 3 → x < 2 ^ (7 * k)
    → part_of (3 - k) x (n % 2 ^ last_bits k) ≡ Some (Whole (x * 2 ^ last_bits k + n % 2 ^ last_bits k))
last-read k x n h f =
    let e : k ≡ 3 - (3 - k) = omega arith in
    let f : x < 2 ^ (7 * (3 - (3 - k))) = rw e at f in
    elim (dec_lt k 3) [
      | yes l ↦ simp (ne_eqb k 3 (λ z. omega arith)) (part-last (3 - k) x (n % 2 ^ 7) (omega arith) f (omega arith) (omega arith))
      | no l ↦ simp (eq-eqb k 3 (omega arith)) (part-fourth (3 - k) x (n % 2 ^ 8) (omega arith) f (omega arith))
    ]

-- each form is read, the shortest or not
pub form-read : (k n at : ℕ) (rest : List ℕ) → k ≤ 3 → n < 2 ^ room k → rest_of 3 0 (form_of k n ++ rest) at ≡ Some (n, at + (k + 1))
unfolding rest_of
form-read k n at rest h f =
    let w : ℕ = last_bits k in
    let m : ℕ = n / 2 ^ w in
    let x : ℕ = m % 2 ^ (7 * k) in
    let z : 0 * 2 ^ (7 * k) + x ≡ x = omega arith in
    let b : x * 2 ^ w + n % 2 ^ w ≡ n = recompose (7 * k) w f in
    let p : at + k + 1 ≡ at + (k + 1) = omega arith in
    rw (append_assoc (groups k m) (n % 2 ^ w ∷ []) rest, groups-read k 3 0 m at (n % 2 ^ w ∷ rest) h (lit≤ tt) (lit< tt), z)
    (rw (last-read k x n h (mod-lt m (pow_pos (7 * k))), b, p))

pub u29-round : (n at : ℕ) (rest : List ℕ) → n < 2 ^ 29 → rest_of 3 0 (u29 n ++ rest) at ≡ Some (n, at + length (u29 n))
unfolding u29
u29-round n at rest h =
    form-read (more_of n) n at rest (more_le n) (more-holds n h) ∙ ap (λ (k : ℕ). Some (n, at + k)) (sym (u29-length n))

-- ---- what is read

-- a value that was read: the bytes before its last, the place behind it, its bits
pub record Reading (left at v p : ℕ) : Type 0 where
  pub before : ℕ
  pub within : before ≤ 3
  pub place : p + (3 - left) ≡ at + (before + 1)
  pub small : v < 2 ^ room before

by_byte : {left n b at v p : ℕ} {x : Option Part} (rest : ℕ → Option (ℕ × ℕ)) → b < 256
    → ((m : ℕ) → rest m ≡ Some (v, p) → Reading (left - 1) (at + 1) v p)
    → Step left n b x → go_on rest (at + 1) x ≡ Some (v, p) → Reading left at v p
by_byte rest hb go (astray a) e = let z : ◌≡◌ {A = ℕ} 0 1 = cc in absurd (omega arith)
by_byte {left} {n} {b} {at} {v} {p} rest hb go (fourth z f) e =
    let (q, r) = some_pair_parts (n * 2 ^ 8 + b) v (at + 1) p e in
    record { before = 3; within = lit≤ tt; place = omega arith; small = omega arith }
by_byte {left} {n} {b} {at} {v} {p} rest hb go (last l h f g) e =
    let (q, r) = some_pair_parts (n * 2 ^ 7 + b) v (at + 1) p e in
    record {
      before = 3 - left;
      within = omega arith;
      place = omega arith;
      small = simp (ne_eqb (3 - left) 3 (λ z. omega arith), sym q) (next_lt 7 (7 * (3 - left)) n b f g);
    }
by_byte {left} {n} {b} {at} {v} {p} rest hb go (more l h f g) e =
    let r : Reading (left - 1) (at + 1) v p = go _ e in
    record { before = r.before; within = r.within; place = omega arith; small = r.small }

pub reading : (left n : ℕ) (s : List ℕ) (at v p : ℕ) → Bytes s → rest_of left n s at ≡ Some (v, p) → Reading left at v p
unfolding rest_of
reading left n [] at v p hs e = let z : ◌≡◌ {A = ℕ} 0 1 = cc in absurd (omega arith)
reading left n (b ∷ s) at v p hs e =
    by_byte (λ m. rest_of (left - 1) m s (at + 1)) (hs 0) (λ m. reading (left - 1) m s (at + 1) v p (λ i. hs (suc i))) (step left n b) e

-- a value that is read from the start has 29 bits at most
pub u29-below : (s : List ℕ) (at n p : ℕ) → Bytes s → rest_of 3 0 s at ≡ Some (n, p) → n < 2 ^ 29
u29-below s at n p hs e =
    let r : Reading 3 at n p = reading 3 0 s at n p hs e in
    lt_of_lt_of_le r.small (pow_mono {i = room r.before} {j = 29} (omega (arith, last_le r.before)))

-- no form that is read as n is shorter than n's
pub u29_shortest : (s : List ℕ) (at n p : ℕ) → Bytes s → rest_of 3 0 s at ≡ Some (n, p) → length (u29 n) ≤ p - at
u29_shortest s at n p hs e =
    let r : Reading 3 at n p = reading 3 0 s at n p hs e in
    omega (arith, u29-length n, more-least r.before n r.within r.small)

-- bytes that end too early: no more than may come, and each says more
pub record Ended (left : ℕ) (s : List ℕ) : Type 0 where
  pub few : length s ≤ left
  pub high : (i : ℕ) → i < length s → 2 ^ 7 ≤ get_or s i 0

one_ended : {left b : ℕ} {s : List ℕ} → 0 < left → 2 ^ 7 ≤ b → Ended (left - 1) s → Ended left (b ∷ s)
one_ended {left} {b} {s} l g r = record { few = omega arith; high = high }
  where
    high : (i : ℕ) → i < length (b ∷ s) → 2 ^ 7 ≤ get_or (b ∷ s) i 0
    high zero h = g
    high (suc i) h = r.high i (omega arith)

short-byte : {left n b : ℕ} {x : Option Part} {s : List ℕ} (rest : ℕ → Option (ℕ × ℕ)) (p : ℕ) → b < 256 → left ≤ 3 → n < 2 ^ (7 * (3 - left))
    → ((m : ℕ) → m < 2 ^ (7 * (3 - (left - 1))) → rest m ≡ None → Ended (left - 1) s)
    → Step left n b x → go_on rest p x ≡ None → Ended left (b ∷ s)
short-byte rest p hb h f go (astray a) e = absurd (a h f)
short-byte rest p hb h f go (fourth z q) e = let z : ◌≡◌ {A = ℕ} 0 1 = cc in absurd (omega arith)
short-byte rest p hb h f go (last l u q g) e = let z : ◌≡◌ {A = ℕ} 0 1 = cc in absurd (omega arith)
short-byte {left} {n} {b} rest p hb h f go (more l u q g) e = one_ended l g (go _ (one_more 7 3 left n (b - 2 ^ 7) l h f (omega arith)) e)

ended : (left n : ℕ) (s : List ℕ) (at : ℕ) → Bytes s → left ≤ 3 → n < 2 ^ (7 * (3 - left))
    → rest_of left n s at ≡ None → Ended left s
unfolding rest_of
ended left n [] at hs h f e = record { few = omega arith; high = λ i l. absurd (omega arith) }
ended left n (b ∷ s) at hs h f e =
    short-byte (λ m. rest_of (left - 1) m s (at + 1)) (at + 1) (hs 0) h f
    (λ m q. ended (left - 1) m s (at + 1) (λ i. hs (suc i)) (omega arith) q) (step left n b) e

-- none is read only where fewer than four bytes are left, and each says more: no byte goes astray
pub u29-short : (s : List ℕ) (at : ℕ) → Bytes s → rest_of 3 0 s at ≡ None → Ended 3 s
u29-short s at hs e = ended 3 0 s at hs (lit≤ tt) (lit< tt) e
