-- The loops over entries and pairs: what is left of one, and the bytes that a pair takes.
use mathlib.Core.Path.{◌≡◌, refl, sym, ap, ◌∙◌, subst}
use mathlib.Core.List.{List}
use Prim.Native.Nat.{ℕ, zero, suc, ◌+◌, ◌-◌, ◌<◌, ◌≤◌}
use native.Mathlib.Numerals.{add-one}
use native.Mathlib.Omega.{arith}
use lib.ListN.{length, drop, length-drop}
use Rattle.std.specs.Borrow.{Bor}
use Rattle.std.specs.Prelude.{Result as Answer, Ok}
use Rattle.rows.specs.declared.Cursor.{Cursor}
use Rattle.rows.specs.declared.Span.{Span}
use Rattle.rows.specs.declared.Key.{Key}
use Rattle.rows.specs.Memory.{Memory, key_of}
use Rattle.format.specs.declared.Refusal.{Refusal}
use Rattle.format.specs.Decide.{Out, stop, give, Decision, on_rows, counted}
use Rattle.format.specs.Reading.{Result, ok, bad, Reader, Values, decided, by, ret, text, plain, ◌>>=◌, ◌>>◌, entries, pair, pairs, value}
use Rattle.format.proofs.Tests.{one_less, clash}
use Rattle.format.proofs.Shorter.{text_shorter, value_shorter, value-pairs}
use Rattle.scan.specs.declared.Reading.{Reading}
use Rattle.scan.specs.Reads.{memory_in, result, cleared, reads, Reads}
use Rattle.scan.proofs.Laws.{Left}

-- ---- entries

module _ (one : ℕ → Reader Unit) (row col n : ℕ) where
  pub entries-all : (m : Memory) (c : Cursor) (s : List ℕ) → reads (entries one row col (n - 0) 0) m c s ≡ reads (entries one row col n 0) m c s
  entries-all m c s = let e : n - 0 ≡ n = omega arith in rw e

  pub entries-none : (i : ℕ) → n ≤ i → (m : Memory) (c : Cursor) (s : List ℕ) → reads (ret tt) m c s ≡ reads (entries one row col (n - i) i) m c s
  unfolding entries
  entries-none i h m c s = let e : n - i ≡ 0 = omega arith in rw e

  pub entries-next : (i : ℕ) → i < n → (m : Memory) (c : Cursor) (s : List ℕ)
      → reads (one i >> by (on_rows (counted row col i)) >> entries one row col (n - (i + 1)) (i + 1)) m c s ≡ reads (entries one row col (n - i) i) m c s
  unfolding entries
  entries-next i h m c s = rw (add-one, one_less n i h)

-- ---- pairs

pub pairs_next : (depth row col i : ℕ) (m : Memory) (c : Cursor) (s : List ℕ)
    → reads (text plain >>= (λ p. pair (value depth) row col i (pairs (value depth) row col (i + 1)) p p.size)) m c s ≡ reads (pairs (value depth) row col i) m c s
unfolding reads
pairs_next depth row col i m c s = rw add-one (sym (ap cleared (value-pairs depth row col i m c (drop c.at s))))

module _ (v : Values) (row col done : ℕ) (more : Reader Unit) (p : Span) {g g' : Reading} {y : Answer Unit Refusal} where
  -- the empty key ends them
  pub pair-over : p.size ≡ 0 → Reads y g g' (ret tt) → Reads y g g' (pair v row col done more p p.size)
  unfolding pair
  pair-over e q = rw e q

  pub pair-more : (n : ℕ) → (n ≡ 0 → ⊥) → Reads y g g' (v (key_of p) >> by (on_rows (counted row col done)) >> more) → Reads y g g' (pair v row col done more p n)
  unfolding pair
  pair-more zero e q = absurd (e refl)
  pair-more (suc n) e q = q

-- what is left of the pairs behind a key that is not empty
pub left-pair : (v : Values) (row col done : ℕ) (more : Reader Unit) (p : Span) {n : ℕ} {f : Reader Unit} {g g' : Reading} → (n ≡ 0 → ⊥)
    → Left (pair v row col done more p n) f g g' → Left (v (key_of p) >> by (on_rows (counted row col done)) >> more) f g g'
unfolding pair
left-pair v row col done more p {n = zero} e l = absurd (e refl)
left-pair v row col done more p {n = suc n} e l = l

-- ---- the bytes left

abbrev pub bytes_left : Reading → ℕ
bytes_left g = length g.message.now - g.cursor.at

-- a reading that gave
gave : {A : Type 0} (r : Result A) {a : A} {m : Memory} {c : Cursor} {bs : List ℕ} → ok a m c bs ≡ cleared r → r ≡ ok a m c bs
unfolding cleared
gave (ok a m c bs) e = sym e
gave (bad n told place m) e = clash cc

-- a decision takes no byte
same_bytes : {A : Type 0} (x : Out Memory A) (m₁ : Memory) (bs : List ℕ) {a : A} {m : Memory} {c : Cursor} {bs' : List ℕ} → decided x m₁ bs ≡ ok a m c bs' → bs' ≡ bs
same_bytes (stop n told place) m₁ bs e = clash cc
same_bytes (give a m c) m₁ bs e = cc

module _ {A : Type 0} (f : Reader A) {a : A} (g g' : Reading) (q : Reads (Ok a) g g' f) where
  -- what a reader gave
  given-of : f (memory_in g) g.cursor (drop g.cursor.at g.message.now) ≡ ok a (memory_in g') g'.cursor (drop g'.cursor.at g.message.now)
  unfolding reads result
  given-of = gave (f (memory_in g) g.cursor (drop g.cursor.at g.message.now)) q.read

  -- the message is the same one
  abbrev left_at : Bor (List ℕ) → ℕ
  left_at m = length m.now - g'.cursor.at

  pub left_same : left_at g.message ≡ bytes_left g'
  left_same = ap left_at (sym q.same.0)

pub text-less : (p : Span) (g g' : Reading) → Reads (Ok p) g g' (text plain) → bytes_left g' < bytes_left g
text-less p g g' q = subst (λ (n : ℕ). n < bytes_left g) (left_same (text plain) g g' q)
    (simp length-drop at (text_shorter (memory_in g) g.cursor (drop g.cursor.at g.message.now) (drop g'.cursor.at g.message.now) (given-of (text plain) g g' q)))

pub value-less : (depth : ℕ) (k : Key) (g g' : Reading) → Reads (Ok tt) g g' (value depth k) → bytes_left g' < bytes_left g
value-less depth k g g' q = subst (λ (n : ℕ). n < bytes_left g) (left_same (value depth k) g g' q)
    (simp length-drop at (value_shorter depth k (memory_in g) g.cursor (drop g.cursor.at g.message.now) (drop g'.cursor.at g.message.now) (given-of (value depth k) g g' q)))

pub decided-same : (f : Decision Unit) (g g' : Reading) → Reads (Ok tt) g g' (by f) → bytes_left g' ≡ bytes_left g
decided-same f g g' q = sym (left_same (by f) g g' q)
    ∙ simp length-drop at (ap length (same_bytes (f (memory_in g) g.cursor) (memory_in g) (drop g.cursor.at g.message.now) (given-of (by f) g g' q)))
