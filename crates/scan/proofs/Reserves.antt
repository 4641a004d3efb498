-- What reserving room gives: a span of that size, which lies in the used part of the store.
use mathlib.Core.Path.{◌≡◌, refl, sym, ap, ◌∙◌}
use mathlib.Core.Bool.{Bool, true, false, cond}
use mathlib.Core.List.{List, [], ◌∷◌}
use Prim.Native.Nat.{ℕ, zero, suc, ◌+◌, ◌≤◌, ◌<◌}
use native.Mathlib.Omega.{arith}
use borrow.Author.Tests.{ltb-false}
use lib.Dec.{leb, ltb}
use lib.ListN.{length, drop, length-set}
use Rattle.rows.specs.declared.Cursor.{Cursor}
use Rattle.rows.specs.declared.Span.{Span}
use Rattle.rows.specs.Memory.{Memory, memory, span, no_span, row_used, message_limit, put, col_flag}
use Rattle.format.specs.Decide as d
use Rattle.format.specs.Decide.{Out, stop, give, refuse, lost, store_to, lift, looking, on_rows}
use Rattle.format.specs.Reading.{Result, ok, bad, bind, ◌>>◌, ret, decided, by, byte, taken, room}
use Rattle.scan.specs.Reads.{result, cleared, reads, flag}
use Rattle.format.specs.Refusals as refusals

-- a body of n bytes at a span: one that is not empty lies in the used part of the store
pub record Placed (n : ℕ) (B : List ℕ) (p : Span) (c : Cursor) : Type 0 where
  pub whole : p.size ≡ n
  pub inside : 0 < p.size → (p.begin + p.size ≤ c.store) × (c.store ≤ length B)

module _ (n : ℕ) (B : List ℕ) (c : Cursor) (p : Span) (c' : Cursor) where
  tested : (a b : Bool) → ltb (length B) (c.store + n) ≡ b
      → ◌≡◌ {A = Out Unit Span} (cond a lost (cond b (refuse 10 2 c) (give (span c.store n) tt (store_to c (c.store + n))))) (give p tt c') → Placed n B p c'
  tested true b h e = let z : ◌≡◌ {A = ℕ} 0 1 = cc in absurd (omega arith)
  tested false true h e = let z : ◌≡◌ {A = ℕ} 0 1 = cc in absurd (omega arith)
  tested false false h e =
      let x : p ≡ span c.store n = cc in
      let y : c' ≡ store_to c (c.store + n) = cc in
      rw (x, y) (record { whole = refl; inside = λ _. (omega arith, ltb-false _ _ h) })

  pub reserved-placed : d.reserved n B c ≡ give p tt c' → Placed n B p c'
  unfolding d.reserved
  reserved-placed e = tested (ltb (length B) c.store) (ltb (length B) (c.store + n)) refl e

-- after room was reserved
pub reserved-gave : (n : ℕ) (p : Span) (m m' : Memory) (c c' : Cursor) (s : List ℕ)
    → result (give p tt c') m' s ≡ reads (by (looking (λ m. d.reserved n m.store))) m c s → Placed n m'.store p c'
unfolding result reads cleared
reserved-gave n p m m' c c' s e = by_out (d.reserved n m.store c) refl e
  where
    by_out : (x : Out Unit Span) → d.reserved n m.store c ≡ x → ok p m' c' (drop c'.at s) ≡ cleared (decided (lift (λ y. m) x) m (drop c.at s)) → Placed n m'.store p c'
    by_out (stop k told place) h e = let z : ◌≡◌ {A = ℕ} 0 1 = cc in absurd (omega arith)
    by_out (give q tt c₁) h e =
        let x : p ≡ q = cc in
        let y : c' ≡ c₁ = cc in
        let w : m' ≡ m = cc in
        rw (x, y, w) (reserved-placed n m.store c q c₁ h)

-- a row is written, if it is used
abbrev written : Bool → List ℕ → Cursor → Out (List ℕ) Unit
written used X c = cond used (give tt X c) lost

module _ (row : ℕ) (R B T O U N s : List ℕ) (c c' : Cursor) (m' : Memory) where
  placed_row : (n : ℕ) (p q : Span) (c₁ : Cursor) (X bs bs' : List ℕ) (m : Memory) (used : Bool) → d.reserved n B c ≡ give q tt c₁
      → ok p m' c' bs' ≡ cleared (bind (decided (lift (λ R. memory R B T O U N) (written used X c₁)) m bs) (λ x. ret q)) → Placed n m'.store p c'
  unfolding cleared
  placed_row n p q c₁ X bs bs' m false h e = let z : ◌≡◌ {A = ℕ} 0 1 = cc in absurd (omega arith)
  placed_row n p q c₁ X bs bs' m true h e =
      let x : p ≡ q = cc in
      let y : c' ≡ c₁ = cc in
      let w : m' ≡ memory X B T O U N = cc in
      rw (x, y, w) (reserved-placed n B c q c₁ h)

  placed-new : (n : ℕ) (p : Span) (bs bs' : List ℕ) (x : Out Unit Span) → d.reserved n B c ≡ x
      → ok p m' c' bs' ≡ cleared (bind (decided (lift (λ y. memory R B T O U N) x) (memory R B T O U N) bs) (λ q. by (on_rows (d.bodied row q)) >> ret q))
      → Placed n m'.store p c'
  unfolding cleared d.bodied
  placed-new n p bs bs' (stop k told place) h e = let z : ◌≡◌ {A = ℕ} 0 1 = cc in absurd (omega arith)
  placed-new n p bs bs' (give q tt c₁) h e = placed_row n p q c₁ _ bs bs' _ (row_used R c₁ row) h e

  pub room-placed : (n : ℕ) (p : Span) → result (give p tt c') m' s ≡ reads (room row n) (memory R B T O U N) c s → Placed n m'.store p c'
  unfolding result reads cleared room
  room-placed zero p e = let x : p ≡ no_span = cc in rw x (record { whole = refl; inside = λ h. absurd (omega arith) })
  room-placed (suc n) p e = placed-new (suc n) p _ _ (d.reserved (suc n) B c) refl e

-- a row's body leaves the cursor and the store
pub row-placed : (n row : ℕ) (p q : Span) (m m' : Memory) (c c' : Cursor) (s : List ℕ) → result (give tt tt c') m' s ≡ reads (by (on_rows (d.bodied row q))) m c s
    → Placed n m.store p c → Placed n m'.store p c'
unfolding result reads cleared d.bodied
row-placed n row p q m m' c c' s e h = by_used (row_used m.rows c row) _ e
  where
    by_used : (used : Bool) (X : List ℕ)
        → ok tt m' c' (drop c'.at s) ≡ cleared (decided (lift (λ R. memory R m.store m.strings m.objects m.traits m.names) (written used X c)) m (drop c.at s)) → Placed n m'.store p c'
    by_used false X e = let z : ◌≡◌ {A = ℕ} 0 1 = cc in absurd (omega arith)
    by_used true X e =
        let y : c' ≡ c = cc in
        let w : m' ≡ memory X m.store m.strings m.objects m.traits m.names = cc in
        rw (y, w) h

-- after a flag the row is used, and the store as it was
pub record Flagged (row : ℕ) (m m' : Memory) (c c' : Cursor) : Type 0 where
  pub store : c'.store ≡ c.store
  pub bytes : m'.store ≡ m.store
  pub used : row_used m'.rows c' row ≡ true

abbrev fine : Memory → Cursor → List ℕ → Result Unit
fine m c bs = ok tt m c bs

abbrev limited : Bool → ℕ → Memory → Cursor → List ℕ → Result ℕ
limited over b m c bs = cond over (bad refusals.too_long 0 c.at m) (ok b m (taken c) bs)

module _ (f : ℕ → ℕ) (row : ℕ) (R B T O U N s : List ℕ) (c c' : Cursor) (m' : Memory) where
  abbrev old : Memory
  old = memory R B T O U N

  flagged-row : (v : ℕ) (bs bs' : List ℕ) (m : Memory) (used : Bool) → row_used R (taken c) row ≡ used
      → fine m' c' bs' ≡ cleared (decided (lift (λ R. memory R B T O U N) (written used (put R row col_flag v) (taken c))) m bs)
      → Flagged row old m' c c'
  unfolding cleared
  flagged-row v bs bs' m false h e = let z : ◌≡◌ {A = ℕ} 0 1 = cc in absurd (omega arith)
  flagged-row v bs bs' m true h e =
      let x : m' ≡ memory (put R row col_flag v) B T O U N = cc in
      let y : c' ≡ taken c = cc in
      rw (x, y) (record { store = refl; bytes = refl; used = simp length-set h })

  flagged-limit : (b : ℕ) (bs bs' : List ℕ) (over : Bool)
      → fine m' c' bs' ≡ cleared (bind (limited over b old c bs) (λ b. by (on_rows (d.flagged row (f b)))))
      → Flagged row old m' c c'
  unfolding cleared d.flagged
  flagged-limit b bs bs' true e = let z : ◌≡◌ {A = ℕ} 0 1 = cc in absurd (omega arith)
  flagged-limit b bs bs' false e = flagged-row (f b) bs bs' _ (row_used R (taken c) row) refl e

  flagged-byte : (bs bs' : List ℕ)
      → fine m' c' bs' ≡ cleared (bind (byte old c bs) (λ b. by (on_rows (d.flagged row (f b)))))
      → Flagged row old m' c c'
  unfolding cleared byte
  flagged-byte [] bs' e = let z : ◌≡◌ {A = ℕ} 0 1 = cc in absurd (omega arith)
  flagged-byte (b ∷ bs) bs' e = flagged-limit b bs bs' (leb message_limit c.at) e

  pub flag-flagged : result (give tt tt c') m' s ≡ reads (flag f row) old c s → Flagged row old m' c c'
  unfolding result reads flag
  flag-flagged e = flagged-byte (drop c.at s) _ e

-- a body's place is the same after a flag
pub flagged-placed : (n row : ℕ) (p : Span) (m m' : Memory) (c c' : Cursor) → Flagged row m m' c c' → Placed n m.store p c → Placed n m'.store p c'
flagged-placed n row p m m' c c' f h = record { whole = h.whole; inside = λ k. rw (f.store, f.bytes) (h.inside k) }
