-- Digits of w bits each, the highest first: the number that one more gives and its bound, when one goes astray, and a row of digits to be put.
use Rattle.std.proofs.Common.{Option, None}
use mathlib.Core.Path.{◌≡◌, ap, sym, ◌∙◌}
use mathlib.Core.Bool.{cond}
use mathlib.Core.List.{List, ◌∷◌}
use Prim.Native.Nat.{ℕ, zero, suc, ◌+◌, ◌*◌, ◌-◌, ◌^◌, ◌/◌, ◌%◌, ◌≤◌, ◌<◌}
use native.Mathlib.Omega.{arith}
use native.Mathlib.Decide.{dec_le, dec_lt}
use native.Mathlib.Nat.{add-mul, mul_assoc, mul-suc, suc-mul, mul-le-mul_left, mul-le-mul_right, lt_of_lt_of_le}
use native.Mathlib.Numerals.{add-one}
use borrow.Author.Tests.{le-ltb, lt-ltb, le-leb, lt-leb}
use lib.Dec.{leb, ltb}
use lib.ListN.{length, set}
use lib.Pow.{pow-add, pow_mono, mod-pow-add}
use lib.Seq.{sets}
use Rattle.wire.specs.declared.Part.{Part}
use Rattle.wire.proofs.Octets.{Bytes}

-- ---- one digit more

places : (w k : ℕ) → w * suc k ≡ w + w * k
places w k = mul-suc w k ∙ omega arith

-- n and the digit b below it, before k digits
pub shift_up : (w n b k : ℕ) → (n * 2 ^ w + b) * 2 ^ (w * k) ≡ n * 2 ^ (w * suc k) + b * 2 ^ (w * k)
shift_up w n b k = rw (places w k, pow-add 2 w (w * k), add-mul, mul_assoc n (2 ^ w) (2 ^ (w * k)))

-- the digits of m, below a
pub digit-below : (w a m k : ℕ)
    → (a * 2 ^ w + m / 2 ^ (w * k) % 2 ^ w) * 2 ^ (w * k) + m % 2 ^ (w * k) ≡ a * 2 ^ (w * suc k) + m % 2 ^ (w * suc k)
digit-below w a m k = rw (shift_up w a (m / 2 ^ (w * k) % 2 ^ w) k, places w k, mod-pow-add m w (w * k)) (omega arith)

pub next_lt : (w j n b : ℕ) → n < 2 ^ j → b < 2 ^ w → n * 2 ^ w + b < 2 ^ (j + w)
next_lt w j n b hn hb = omega (arith, mul-le-mul_right (2 ^ w) hn, suc-mul n (2 ^ w), pow-add 2 j w)

-- `left` come after it, of `top` at most
pub one_more : (w top left n b : ℕ) → 0 < left → left ≤ top → n < 2 ^ (w * (top - left)) → b < 2 ^ w
    → n * 2 ^ w + b < 2 ^ (w * (top - (left - 1)))
one_more w top left n b l h hn hb =
    let e : w * (top - left) + w ≡ w * (top - (left - 1)) = sym (mul-suc w (top - left)) ∙ ap (λ (k : ℕ). w * k) (omega arith) in
    rw e at (next_lt w (w * (top - left)) n b hn hb)

-- those before it, whatever their number
pub before_small : (w top left : ℕ) {n : ℕ} → n < 2 ^ (w * (top - left)) → n < 2 ^ (w * top)
before_small w top left h = lt_of_lt_of_le h (pow_mono (mul-le-mul_left w (omega arith)))

-- ---- astray

-- what a digit gives, where those before it can give n
abbrev pub guarded : ℕ → ℕ → ℕ → ℕ → Option Part → Option Part
guarded w top left n x = cond (ltb top left) None (cond (leb (2 ^ (w * (top - left))) n) None x)

module _ (w top left n : ℕ) (x : Option Part) where
  pub too_many : top < left → guarded w top left n x ≡ None
  too_many h = simp (lt-ltb top left h)

  module _ (within : left ≤ top) where
    pub too_large : 2 ^ (w * (top - left)) ≤ n → guarded w top left n x ≡ None
    too_large h = simp (le-ltb top left within, le-leb _ n h)

    pub given : n < 2 ^ (w * (top - left)) → guarded w top left n x ≡ x
    given h = simp (le-ltb top left within, lt-leb _ n h)

-- those before it can give n, or it goes astray
pub data Before (w top left n : ℕ) : Type 0 where
  can : left ≤ top → n < 2 ^ (w * (top - left)) → Before w top left n
  cannot : (left ≤ top → n < 2 ^ (w * (top - left)) → ⊥) → ((x : Option Part) → guarded w top left n x ≡ None) → Before w top left n

pub guard : (w top left n : ℕ) → Before w top left n
guard w top left n =
    elim (dec_le left top) [
      | no h ↦ cannot (λ p q. omega arith) (λ x. too_many w top left n x (omega arith))
      | yes h ↦ elim (dec_lt n (2 ^ (w * (top - left)))) [
        | no f ↦ cannot (λ p q. omega arith) (λ x. too_large w top left n x h (omega arith))
        | yes f ↦ can h f
      ]
    ]

-- ---- a row of digits, made from its end: f k has the digits d (k - 1) to d 0, and f 0 behind them

module _ (f : ℕ → List ℕ) (d : ℕ → ℕ) (one : (k : ℕ) → f (suc k) ≡ d k ∷ f k) where
  pub row-length : (k : ℕ) → length (f k) ≡ k + length (f 0)
  row-length zero = omega arith
  row-length (suc k) = rw (one k) (omega (arith, row-length k))

  pub row-bytes : ((k : ℕ) → d k < 2 ^ 8) → Bytes (f 0) → (k : ℕ) → Bytes (f k)
  row-bytes g h zero i = h i
  row-bytes g h (suc k) zero = rw (one k) (g k)
  row-bytes g h (suc k) (suc i) = rw (one k) (row-bytes g h k i)

  -- one store takes the first off what is to be stored
  pub put_first : (out : List ℕ) (p j b : ℕ) → 0 < j → b ≡ d (j - 1) → sets out p (f j) ≡ sets (set out p b) (p + 1) (f (j - 1))
  put_first out p zero b h e = absurd (omega arith)
  put_first out p (suc i) b h e = let z : suc i - 1 ≡ i = omega arith in rw (add-one, e, z, one i)
