-- What is shown of bytes, some at a time.
use Rattle.std.proofs.Common.{◌≡◌, ℕ, suc, ◌+◌, ◌*◌, ◌/◌, ◌%◌, ◌<◌, ◌≤◌, List, [], ◌∷◌, ◌++◌, length, get_or, take, refl, ap, sym, ◌∙◌, arith, take_all, append_assoc, length-set}
use Rattle.std.proofs.Math.ListN.{set}
use Rattle.std.proofs.lemmas.List.{take_more, take_more_set}
use Rattle.std.proofs.lemmas.Str.Ascii.{IsAscii-nil, IsAscii-cons}
use Rattle.std.specs.Str.{IsAscii}
use Rattle.listing.specs.Hex.{hex_of, hex_digit_ascii}

-- the digits of bytes, and then those of more
pub hex_of-append : (s t : List ℕ) → hex_of (s ++ t) ≡ hex_of s ++ hex_of t
unfolding hex_of
hex_of-append [] t = refl
hex_of-append (b ∷ s) t = ap (λ (l : List ℕ). hex_digit_ascii (b / 16) ∷ hex_digit_ascii (b % 16) ∷ l) (hex_of-append s t)

-- digits are ASCII
digit-ascii : (d : ℕ) → d < 16 → hex_digit_ascii d < 128
digit-ascii d h = grind arith

pub IsAscii-hex_of : (s : List ℕ) → ((k : ℕ) → get_or s k 0 < 256) → IsAscii (hex_of s)
unfolding hex_of
IsAscii-hex_of [] h = IsAscii-nil
IsAscii-hex_of (b ∷ s) h =
    let e : b < 256 = h 0 in
    IsAscii-cons _ (hex_digit_ascii (b % 16) ∷ hex_of s) (digit-ascii (b / 16) (omega arith))
    (IsAscii-cons _ (hex_of s) (digit-ascii (b % 16) (omega arith)) (IsAscii-hex_of s (λ k. h (suc k))))

module _ (s out : List ℕ) (i : ℕ) where
  -- two more digits, behind those of the bytes so far
  set_two : (x y : ℕ) → 2 * i + 1 < length out → take (2 * (i + 1)) (set (set out (2 * i) x) (2 * i + 1) y) ≡ take (2 * i) out ++ x ∷ y ∷ []
  set_two x y h =
      let p : 2 * (i + 1) ≡ 2 * i + 1 + 1 = omega arith in
      let q : 2 * i + 1 < length (set out (2 * i) x) = rw length-set h in
      rw (p, take_more_set (set out (2 * i) x) (2 * i + 1) y q, take_more_set out (2 * i) x (omega arith)) (append_assoc (take (2 * i) out) _ _)

  -- the bytes so far are spelled, and the next
  pub spelled_more : (x y : ℕ) → i < length s → 2 * i + 1 < length out
      → x ≡ hex_digit_ascii (get_or s i 0 / 16) → y ≡ hex_digit_ascii (get_or s i 0 % 16) → take (2 * i) out ≡ hex_of (take i s)
      → take (2 * (i + 1)) (set (set out (2 * i) x) (2 * i + 1) y) ≡ hex_of (take (i + 1) s)
  unfolding hex_of
  spelled_more x y h room a b e =
      rw (set_two x y room, a, b, e, take_more s i 0 h) (sym (hex_of-append (take i s) (get_or s i 0 ∷ [])))

  -- all bytes are spelled
  pub spelled_all : length s ≤ i → i ≤ length s → take (2 * i) out ≡ hex_of (take i s) → take (2 * length s) out ≡ hex_of s
  spelled_all l m e =
      let n : length s ≡ i = omega arith in
      rw n (e ∙ ap hex_of (take_all i s l))
