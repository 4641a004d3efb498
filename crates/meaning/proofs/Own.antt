-- The standard's own tables say what the reading's say: markers, size words, object words.
use mathlib.Core.Path.{◌≡◌, refl, sym, ◌∙◌}
use Prim.Native.Nat.{ℕ, zero, suc, ◌+◌, ◌*◌, ◌/◌, ◌%◌, ◌^◌, ◌<◌}
use native.Mathlib.Omega.{arith}
use Rattle.wire.specs.Word.{bit, size_of, shape_of}
use Rattle.format.specs.Decide.{kind_of}
use Rattle.wire.specs.declared.Size.TheVariants.{New}
use Rattle.wire.specs.declared.Shape.TheVariants.{Inline}
use Rattle.format.specs.Standard.{Pairs, count_pairs, trait_word, follows, size_says, object_says}
use Rattle.meaning.proofs.Words.{size-new, trait_shape, dynamic_of}

pub follows_is : (b : ℕ) → follows b ≡ kind_of b
unfolding follows kind_of
follows_is b = refl

low : (w : ℕ) → w % 2 ≡ bit 0 w
low w = omega arith

pub size_is : (w : ℕ) → size_says w ≡ size_of w
unfolding size_says size_of
size_is w = rw (low w)

-- words by their three low bits
eighth : (w q r : ℕ) → r < 8 → w ≡ q * 8 + r → object_says w ≡ shape_of w
unfolding object_says shape_of
eighth w q zero h e =
    let t2 : w / 2 ≡ q * 4 + 0 = omega arith in
    let m2 : w % 2 ≡ 0 = omega arith in
    let s0 : w / 2 ^ 0 ≡ q * 8 + 0 = omega arith in
    let u0 : w / 2 ^ 0 / 2 ≡ q * 4 + 0 = omega arith in
    let b0 : bit 0 w ≡ 0 = omega arith in
    rw (m2, b0)
eighth w q (suc zero) h e =
    let t2 : w / 2 ≡ q * 4 + 0 = omega arith in
    let m2 : w % 2 ≡ 1 = omega arith in
    let t4 : w / 4 ≡ q * 2 + 0 = omega arith in
    let m4 : w % 4 ≡ 1 = omega arith in
    let s0 : w / 2 ^ 0 ≡ q * 8 + 1 = omega arith in
    let u0 : w / 2 ^ 0 / 2 ≡ q * 4 + 0 = omega arith in
    let b0 : bit 0 w ≡ 1 = omega arith in
    let s1 : w / 2 ^ 1 ≡ q * 4 + 0 = omega arith in
    let u1 : w / 2 ^ 1 / 2 ≡ q * 2 + 0 = omega arith in
    let b1 : bit 1 w ≡ 0 = omega arith in
    let n : w / 4 ≡ w / 2 ^ 2 = omega arith in
    rw (m2, m4, b0, b1, n)
eighth w q (suc (suc zero)) h e =
    let t2 : w / 2 ≡ q * 4 + 1 = omega arith in
    let m2 : w % 2 ≡ 0 = omega arith in
    let s0 : w / 2 ^ 0 ≡ q * 8 + 2 = omega arith in
    let u0 : w / 2 ^ 0 / 2 ≡ q * 4 + 1 = omega arith in
    let b0 : bit 0 w ≡ 0 = omega arith in
    rw (m2, b0)
eighth w q (suc (suc (suc zero))) h e =
    let t2 : w / 2 ≡ q * 4 + 1 = omega arith in
    let m2 : w % 2 ≡ 1 = omega arith in
    let t4 : w / 4 ≡ q * 2 + 0 = omega arith in
    let m4 : w % 4 ≡ 3 = omega arith in
    let t8 : w / 8 ≡ q * 1 + 0 = omega arith in
    let m8 : w % 8 ≡ 3 = omega arith in
    let s0 : w / 2 ^ 0 ≡ q * 8 + 3 = omega arith in
    let u0 : w / 2 ^ 0 / 2 ≡ q * 4 + 1 = omega arith in
    let b0 : bit 0 w ≡ 1 = omega arith in
    let s1 : w / 2 ^ 1 ≡ q * 4 + 1 = omega arith in
    let u1 : w / 2 ^ 1 / 2 ≡ q * 2 + 0 = omega arith in
    let b1 : bit 1 w ≡ 1 = omega arith in
    let s2 : w / 2 ^ 2 ≡ q * 2 + 0 = omega arith in
    let u2 : w / 2 ^ 2 / 2 ≡ q * 1 + 0 = omega arith in
    let b2 : bit 2 w ≡ 0 = omega arith in
    let n : w / 16 ≡ w / 2 ^ 4 = omega arith in
    let y : w / 8 % 2 ≡ bit 3 w = omega arith in
    rw (m2, m4, m8, b0, b1, b2, n, y)
eighth w q (suc (suc (suc (suc zero)))) h e =
    let t2 : w / 2 ≡ q * 4 + 2 = omega arith in
    let m2 : w % 2 ≡ 0 = omega arith in
    let s0 : w / 2 ^ 0 ≡ q * 8 + 4 = omega arith in
    let u0 : w / 2 ^ 0 / 2 ≡ q * 4 + 2 = omega arith in
    let b0 : bit 0 w ≡ 0 = omega arith in
    rw (m2, b0)
eighth w q (suc (suc (suc (suc (suc zero))))) h e =
    let t2 : w / 2 ≡ q * 4 + 2 = omega arith in
    let m2 : w % 2 ≡ 1 = omega arith in
    let t4 : w / 4 ≡ q * 2 + 1 = omega arith in
    let m4 : w % 4 ≡ 1 = omega arith in
    let s0 : w / 2 ^ 0 ≡ q * 8 + 5 = omega arith in
    let u0 : w / 2 ^ 0 / 2 ≡ q * 4 + 2 = omega arith in
    let b0 : bit 0 w ≡ 1 = omega arith in
    let s1 : w / 2 ^ 1 ≡ q * 4 + 2 = omega arith in
    let u1 : w / 2 ^ 1 / 2 ≡ q * 2 + 1 = omega arith in
    let b1 : bit 1 w ≡ 0 = omega arith in
    let n : w / 4 ≡ w / 2 ^ 2 = omega arith in
    rw (m2, m4, b0, b1, n)
eighth w q (suc (suc (suc (suc (suc (suc zero)))))) h e =
    let t2 : w / 2 ≡ q * 4 + 3 = omega arith in
    let m2 : w % 2 ≡ 0 = omega arith in
    let s0 : w / 2 ^ 0 ≡ q * 8 + 6 = omega arith in
    let u0 : w / 2 ^ 0 / 2 ≡ q * 4 + 3 = omega arith in
    let b0 : bit 0 w ≡ 0 = omega arith in
    rw (m2, b0)
eighth w q (suc (suc (suc (suc (suc (suc (suc zero))))))) h e =
    let t2 : w / 2 ≡ q * 4 + 3 = omega arith in
    let m2 : w % 2 ≡ 1 = omega arith in
    let t4 : w / 4 ≡ q * 2 + 1 = omega arith in
    let m4 : w % 4 ≡ 3 = omega arith in
    let t8 : w / 8 ≡ q * 1 + 0 = omega arith in
    let m8 : w % 8 ≡ 7 = omega arith in
    let s0 : w / 2 ^ 0 ≡ q * 8 + 7 = omega arith in
    let u0 : w / 2 ^ 0 / 2 ≡ q * 4 + 3 = omega arith in
    let b0 : bit 0 w ≡ 1 = omega arith in
    let s1 : w / 2 ^ 1 ≡ q * 4 + 3 = omega arith in
    let u1 : w / 2 ^ 1 / 2 ≡ q * 2 + 1 = omega arith in
    let b1 : bit 1 w ≡ 1 = omega arith in
    let s2 : w / 2 ^ 2 ≡ q * 2 + 1 = omega arith in
    let u2 : w / 2 ^ 2 / 2 ≡ q * 1 + 0 = omega arith in
    let b2 : bit 2 w ≡ 1 = omega arith in
    rw (m2, m4, m8, b0, b1, b2)
eighth w q (suc (suc (suc (suc (suc (suc (suc (suc r)))))))) h e = absurd (omega arith)

pub object-is : (w : ℕ) → object_says w ≡ shape_of w
object-is w = eighth w (w / 8) (w % 8) (omega arith) (omega arith)

-- ---- the reading's words of what is written

pub size-read : (n : ℕ) → size_of (n * 2 + 1) ≡ New n
size-read n = sym (size_is (n * 2 + 1)) ∙ size-new n

pub trait_read : (xs ys : Pairs) → shape_of (trait_word xs ys) ≡ Inline (count_pairs xs) (dynamic_of ys)
trait_read xs ys = sym (object-is (trait_word xs ys)) ∙ trait_shape xs ys
