-- Where a message ends for a reading, and its next byte.
use mathlib.Core.Path.{◌≡◌, sym, ◌∙◌}
use mathlib.Core.Bool.{Bool, true, false, ◌&&◌}
use mathlib.Core.List.{List}
use Prim.Native.Nat.{ℕ, suc, ◌+◌, ◌≤◌, ◌<◌}
use native.Mathlib.Omega.{arith}
use native.Mathlib.Numerals.{add-one}
use native.Mathlib.Decide.{dec_le, dec_lt}
use borrow.Author.Tests.{leb-true, le-leb, lt-leb, lt-ltb, le-ltb}
use lib.Dec.{leb}
use lib.ListN.{length, get_or, drop, drop_of_length-le}
use lib.Seq.{drop-cons}
use Rattle.rows.specs.declared.Cursor.{Cursor}
use Rattle.rows.specs.Memory.{Memory, message_limit}
use Rattle.format.specs.declared.Refusal.{Refusal}
use Rattle.decide.specs.Outcomes.{stopped}
use Rattle.format.specs.Decide.{give}
use Rattle.format.specs.Reading.{Result, ok, bad, byte, taken}
use Rattle.format.proofs.Tests.{both, clash}
use Rattle.scan.specs.Reads.{result, cleared, reads, last_place, short_at, moved_to}
use Rattle.format.specs.Refusals as refusals

-- a size that is not 0
pub some : (n : ℕ) → (n ≡ 0 → ⊥) → 0 < n
some n h = omega (arith, h)

-- ---- the last place

module _ (len at : ℕ) where
  pub last-after : len ≤ at → last_place len at ≡ at
  unfolding last_place
  last-after h = simp (le-leb len at h)

  pub last-over : at < len → message_limit ≤ at → last_place len at ≡ at
  unfolding last_place
  last-over h g = simp (lt-leb len at h, le-leb message_limit at g)

  pub last-whole : at < len → at < message_limit → len ≤ message_limit → last_place len at ≡ len
  unfolding last_place
  last-whole h g f = simp (lt-leb len at h, lt-leb message_limit at g, le-leb len message_limit f)

  pub last-cut : at < len → at < message_limit → message_limit < len → last_place len at ≡ message_limit
  unfolding last_place
  last-cut h g f = simp (lt-leb len at h, lt-leb message_limit at g, lt-leb len message_limit f)

  module _ {place : ℕ} (e : place ≡ last_place len at) where
    pub short-long : place < len → record { number = refusals.too_long; told = 0; place = place } ≡ short_at len at
    unfolding short_at
    short-long h = rw (← e, lt-ltb place len h)

    pub short-end : len ≤ place → record { number = refusals.unexpected_end; told = 0; place = place } ≡ short_at len at
    unfolding short_at
    short-end h = rw (← e, le-ltb place len h)

-- a byte that is there and within the limit changes nothing of where the message ends
last-next : (len at : ℕ) → at < len → at < message_limit → last_place len at ≡ last_place len (suc at)
last-next len at h g = elim (dec_le len message_limit) [
  | yes f ↦ last-whole len at h g f ∙ elim (dec_lt (suc at) len) [
    | yes l ↦ sym (last-whole len (suc at) l (omega arith) f)
    | no l ↦ omega (arith, last-after len (suc at) (omega arith))
  ]
  | no f ↦ last-cut len at h g (omega arith) ∙ elim (dec_lt (suc at) message_limit) [
    | yes l ↦ sym (last-cut len (suc at) (omega arith) l (omega arith))
    | no l ↦ omega (arith, last-over len (suc at) (omega arith) (omega arith))
  ]
]

pub short-next : (len at : ℕ) → at < len → at < message_limit → short_at len at ≡ short_at len (suc at)
unfolding short_at
short-next len at h g = rw (last-next len at h g)

-- ---- so many bytes more

module _ (len at n : ℕ) {r : Bool} (e : r ≡ (leb (at + n) len && leb (at + n) message_limit)) where
  pub is-here : r ≡ true → (at + n ≤ len) × (at + n ≤ message_limit)
  is-here t = let p = both (leb (at + n) len) (leb (at + n) message_limit) (sym e ∙ t) in (leb-true _ _ p.0, leb-true _ _ p.1)

  pub not-here : r ≡ false → at + n ≤ len → at + n ≤ message_limit → ⊥
  not-here t h g = let q : r ≡ true = rw (le-leb (at + n) len h, le-leb (at + n) message_limit g) at e in clash cc

-- ---- the next byte

abbrev pub refusing : {A : Type 0} → Refusal → Memory → Result A
refusing r m = bad r.number r.told r.place m

-- the byte at a place is there, or it is the message's end
pub data Next (len at : ℕ) : Type 0 where
  there : at < len → at < message_limit → Next len at
  over : (at < len → at < message_limit → ⊥) → Next len at

pub next : (len at : ℕ) → Next len at
next len at = elim (dec_lt at len) [
  | yes h ↦ elim (dec_lt at message_limit) [
    | yes g ↦ there h g
    | no g ↦ over (λ h' g'. omega arith)
  ]
  | no h ↦ over (λ h' g'. omega arith)
]

module _ (m : Memory) (c : Cursor) (s : List ℕ) where
  pub byte-there : c.at < length s → c.at < message_limit → byte m c (drop c.at s) ≡ ok (get_or s c.at 0) m (taken c) (drop (suc c.at) s)
  unfolding byte
  byte-there h g = rw (drop-cons s c.at 0 h, lt-leb message_limit c.at g)

  pub byte-over : (c.at < length s → c.at < message_limit → ⊥) → byte m c (drop c.at s) ≡ refusing (short_at (length s) c.at) m
  unfolding byte
  byte-over f = elim (dec_lt c.at (length s)) [
    | no h ↦ (let l : length s ≤ c.at = omega arith in rw (drop_of_length-le s l, ← short-end (length s) c.at (sym (last-after (length s) c.at l)) l))
    | yes h ↦ elim (dec_le message_limit c.at) [
      | no g ↦ absurd (f h (omega arith))
      | yes g ↦ rw (drop-cons s c.at 0 h, le-leb message_limit c.at g, ← short-long (length s) c.at (sym (last-over (length s) c.at h g)) h)
    ]
  ]

  module _ {r : Bool} (e : r ≡ (leb (c.at + 1) (length s) && leb (c.at + 1) message_limit)) where
    pub reads_byte : {c' : Cursor} → c' ≡ moved_to c (c.at + 1) → r ≡ true → result (give (get_or s c.at 0) tt c') m s ≡ reads byte m c s
    unfolding result reads cleared
    reads_byte p t =
        let h = is-here (length s) c.at 1 e t in
        rw (byte-there (omega arith) (omega arith), p, add-one c.at)

    pub reads_none : {x : Refusal} → x ≡ short_at (length s) c.at → r ≡ false → result (stopped x) m s ≡ reads byte m c s
    unfolding result reads cleared
    reads_none p t = rw (byte-over (λ h g. not-here (length s) c.at 1 e t (omega arith) (omega arith)), p)
