-- The bytes at a place, put into a list one by one.
use Rattle.std.proofs.Common.{◌≡◌, ℕ, suc, ◌+◌, ◌*◌, ◌%◌, ◌^◌, ◌<◌, ◌≤◌, Bool, false, Some, None, ◌&&◌, eqb, leb, List, [], ◌∷◌, length, set, refl, ap, ◌∙◌, mod-eq_of_lt, add-one, arith, length-set, eq-eqb, ne_eqb, le-leb}
use mathlib.Core.Bool.{and-false}
use borrow.Author.Tests.{lt-leb}
use lib.Bits.{bit_or}
use lib.Seq.{sets, set_out}
use Rattle.lines.specs.Lines.{digit_at, digits_at, behind_of, pairs_of, bytes_at, filled, fill_at}
use Rattle.lines.proofs.Digits.{digits_more, digits-end, digit_at-least, shifted}

-- what is put past the end is lost
pub sets-out : (vs l : List ℕ) (i : ℕ) → length l ≤ i → sets l i vs ≡ l
sets-out [] l i h = refl
sets-out (v ∷ vs) l i h = rw (set_out l i v h) (sets-out vs l (suc i) (omega arith))

-- the digits from `at` to p made n bytes, which were put, and those from p on make the rest
pub record Putting (line : List ℕ) (at : ℕ) (old out : List ℕ) (n p : ℕ) : Type 0 where
  pub kept : length out ≡ length old
  pub room : n ≤ length out
  pub two : p ≡ at + 2 * n
  pub place : at + length (digits_at line at) ≡ p + length (digits_at line p)
  pub count : length (bytes_at line at) ≡ n + length (bytes_at line p)
  pub puts : sets old 0 (bytes_at line at) ≡ sets out n (bytes_at line p)

module _ {line : List ℕ} {at : ℕ} {old out : List ℕ} {n p : ℕ} (c : Putting line at old out n p) where
  missing : eqb (length (digits_at line at)) (2 * length (bytes_at line at)) && leb (length (bytes_at line at)) (length old) ≡ false
      → sets out n (bytes_at line p) ≡ out → filled None out ≡ fill_at line at old
  unfolding fill_at
  missing t e = rw (t, c.puts, e)

  -- the last digit is alone
  pub fill-odd : {high : ℕ} → Some high ≡ digit_at line p → None ≡ digit_at line (p + 1) → filled None out ≡ fill_at line at old
  unfolding pairs_of
  fill-odd {high} h l =
      let e : digits_at line p ≡ high ∷ [] = digits_more line p h ∙ ap (λ (ds : List ℕ). high ∷ ds) (digits-end line (p + 1) l) in
      let b : bytes_at line p ≡ [] = rw e in
      missing
      (ap (λ (t : Bool). t && leb (length (bytes_at line at)) (length old))
      (ne_eqb (length (digits_at line at)) (2 * length (bytes_at line at))
      (λ z. omega (arith, c.two, c.place, c.count, ap length e, ap length b))))
      (rw b)

  -- two digits and those behind them
  pair : {high low : ℕ} → Some high ≡ digit_at line p → Some low ≡ digit_at line (p + 1)
      → digits_at line p ≡ high ∷ low ∷ digits_at line (p + 2)
  pair {high} {low} h l =
      let two : p + 2 ≡ p + 1 + 1 = omega arith in
      let e : digits_at line (p + 1) ≡ low ∷ digits_at line (p + 2) = rw two (digits_more line (p + 1) l) in
      digits_more line p h ∙ ap (λ (ds : List ℕ). high ∷ ds) e

  -- there is no room for a byte
  pub fill-full : {high low : ℕ} → Some high ≡ digit_at line p → Some low ≡ digit_at line (p + 1) → length out ≤ n
      → filled None out ≡ fill_at line at old
  unfolding pairs_of
  fill-full {high} {low} h l r =
      let e : digits_at line p ≡ high ∷ low ∷ digits_at line (p + 2) = pair h l in
      let b : bytes_at line p ≡ (high * 16 + low) ∷ bytes_at line (p + 2) = rw e in
      let t : eqb (length (digits_at line at)) (2 * length (bytes_at line at)) && leb (length (bytes_at line at)) (length old) ≡ false =
      rw (lt-leb (length (bytes_at line at)) (length old) (omega (arith, c.kept, c.count, ap length b))) (and-false (eqb (length (digits_at line at)) (2 * length (bytes_at line at)))) in
      missing t (sets-out (bytes_at line p) out n r)

  -- all of them are put
  pub fill-whole : {end : ℕ} → None ≡ digit_at line p → end ≡ behind_of line p → filled (Some (n, end)) out ≡ fill_at line at old
  unfolding fill_at pairs_of
  fill-whole {end} i f =
      let e : digits_at line p ≡ [] = digits-end line p i in
      let b : bytes_at line p ≡ [] = rw e in
      let k : length (bytes_at line at) ≡ n = omega (arith, c.count, ap length b) in
      let q : at + length (digits_at line at) ≡ p = omega (arith, c.place, ap length e) in
      rw (
        eq-eqb (length (digits_at line at)) (2 * length (bytes_at line at)) (omega (arith, c.two)),
        le-leb (length (bytes_at line at)) (length old) (omega (arith, c.kept, c.room)),
        c.puts,
        b,
        k,
        q,
        f,
      )

  -- one byte more is put
  pub fill_more : {high low : ℕ} → Some high ≡ digit_at line p → Some low ≡ digit_at line (p + 1) → n < length out
      → Putting line at old (set out n (bit_or (high * 2 ^ 4 % 2 ^ 8) low)) (n + 1) (p + 2)
  unfolding pairs_of
  fill_more {high} {low} h l r =
      let e : digits_at line p ≡ high ∷ low ∷ digits_at line (p + 2) = pair h l in
      let b : bytes_at line p ≡ (high * 16 + low) ∷ bytes_at line (p + 2) = rw e in
      let high_least : high ≤ 15 = digit_at-least line p h in
      rw (shifted 4 high low (digit_at-least line (p + 1) l) ∙ mod-eq_of_lt (omega (arith, digit_at-least line (p + 1) l))) record {
        kept = simp length-set c.kept;
        room = simp length-set (omega arith);
        two = omega (arith, c.two);
        place = omega (arith, c.place, ap length e);
        count = omega (arith, c.count, ap length b);
        puts = c.puts ∙ rw (b, add-one n);
      }
