-- The bytes of a span, stored one by one, are their copy as a whole.
use mathlib.Core.Path.{◌≡◌, refl, sym, ap, ◌∙◌}
use mathlib.Core.Bool.{Bool, true, false, ◌&&◌}
use mathlib.Core.List.{List}
use Prim.Native.Nat.{ℕ, zero, suc, ◌+◌, ◌-◌, ◌/◌, ◌≤◌, ◌<◌}
use native.Mathlib.Omega.{arith}
use native.Mathlib.Decide.{dec_le}
use lib.Dec.{leb, eqb}
use lib.ListN.{length, get_or, take, drop, set, length-set}
use lib.Seq.{sets, slice, slice-cons, slice_empty, drop-cons, set-set}
use Rattle.rows.specs.declared.Cursor.{Cursor}
use Rattle.rows.specs.declared.Span.{Span}
use Rattle.rows.specs.Memory.{Memory, memory, message_limit, zeroed, put, row_used, col_count}
use Rattle.utf8.specs.Grammar.{valid_text}
use Rattle.utf8.specs.States.{step_of, fold_of}
use Rattle.utf8.proofs.Fold.{fold_valid}
use Rattle.format.specs.declared.Refusal.{Refusal}
use Rattle.decide.specs.Outcomes.{stopped}
use Rattle.format.specs.Decide.{give, Width, width_of, on_rows, grown}
use Rattle.format.specs.Reading.{Reader, ok, taken, fill, chars, filled, chars_of, ret, by, ◌>>=◌}
use Rattle.format.proofs.Stores.{place, stored_there}
use Rattle.scan.specs.Reads.{result, cleared, reads, short_at, moved_to}
use Rattle.scan.proofs.Then.{refused}
use Rattle.scan.proofs.Ends.{there, over, next, byte-there, byte-over, short-next, refusing, is-here, not-here}

-- a part is copied from its first element on
copy-first : (B msg : List ℕ) (i j at to : ℕ) → suc i ≡ j → at < to → to ≤ length msg
    → sets B i (slice at to msg) ≡ sets (set B i (get_or msg at 0)) j (slice (suc at) to msg)
copy-first B msg i j at to e h g = ap (sets B i) (slice-cons at to msg 0 h g) ∙ ap (λ k. sets (set B i (get_or msg at 0)) k (slice (suc at) to msg)) e

zeroed-same : (R R' B B' T O U N : List ℕ) → length R ≡ length R' → length B ≡ length B' → zeroed (memory R B T O U N) ≡ zeroed (memory R' B' T O U N)
unfolding zeroed
zeroed-same R R' B B' T O U N e f = rw (e, f)

-- ---- a body: after each byte g does to the rows what `grow` says

module _ (s : Span) (msg T O U N : List ℕ) (grow : ℕ → Reader Unit) (g : ℕ → List ℕ → List ℕ) (len used : ℕ)
    (grows : (left : ℕ) (R B : List ℕ) (c : Cursor) (bs : List ℕ) → length R ≡ len → c.rows ≡ used
    → grow left (memory R B T O U N) c bs ≡ ok tt (memory (g left R) B T O U N) c bs)
    (same : (left : ℕ) (R : List ℕ) → length (g left R) ≡ length R) (last : (left : ℕ) (R : List ℕ) → g 0 (g left R) ≡ g 0 R) where
  fill-there : (n : ℕ) (R B : List ℕ) (c : Cursor) → length R ≡ len → c.rows ≡ used → s.begin + s.size ≤ c.store → c.store ≤ length B → n < s.size
      → c.at + suc n ≤ length msg → c.at + suc n ≤ message_limit
      → fill grow s n (memory R B T O U N) c (drop c.at msg)
      ≡ ok tt (memory (g 0 R) (sets B (place s n) (slice c.at (c.at + suc n) msg)) T O U N) (moved_to c (c.at + suc n)) (drop (c.at + suc n) msg)
  unfolding fill
  fill-there zero R B c p q a b l h f =
      let e : c.at + 1 ≡ suc c.at = omega arith in
      rw (byte-there (memory R B T O U N) c msg (omega arith) (omega arith), stored_there s 0 (get_or msg c.at 0) B (taken c) a b l)
      (rw (grows 0 R _ (taken c) (drop (suc c.at) msg) p q, slice-cons c.at (c.at + 1) msg 0 (omega arith) h, e, slice_empty (suc c.at) msg))
  fill-there (suc n) R B c p q a b l h f =
      let e : suc c.at + suc n ≡ c.at + suc (suc n) = omega arith in
      let i : suc (place s (suc n)) ≡ place s n = omega arith in
      rw (byte-there (memory R B T O U N) c msg (omega arith) (omega arith), stored_there s (suc n) (get_or msg c.at 0) B (taken c) a b l)
      (rw (grows (suc n) R _ (taken c) (drop (suc c.at) msg) p q, copy-first B msg _ _ c.at (c.at + suc (suc n)) i (omega arith) h, ← last (suc n) R)
      (rw e at (fill-there n (g (suc n) R) (set B (place s (suc n)) (get_or msg c.at 0)) (taken c) (same (suc n) R ∙ p) q a (rw length-set b) (omega arith)
      (omega arith) (omega arith))))

  fill-short : (n : ℕ) (R B : List ℕ) (c : Cursor) → length R ≡ len → c.rows ≡ used → s.begin + s.size ≤ c.store → c.store ≤ length B → n < s.size
      → (c.at + suc n ≤ length msg → c.at + suc n ≤ message_limit → ⊥)
      → cleared (fill grow s n (memory R B T O U N) c (drop c.at msg)) ≡ refusing (short_at (length msg) c.at) (zeroed (memory R B T O U N))
  unfolding fill cleared
  fill-short zero R B c p q a b l z = elim (next (length msg) c.at) [
    | there h f ↦ absurd (z (omega arith) (omega arith))
    | over y ↦ rw (byte-over (memory R B T O U N) c msg y)
  ]
  fill-short (suc n) R B c p q a b l z = elim (next (length msg) c.at) [
    | over y ↦ rw (byte-over (memory R B T O U N) c msg y)
    | there h f ↦
        rw (byte-there (memory R B T O U N) c msg h f, stored_there s (suc n) (get_or msg c.at 0) B (taken c) a b l)
        (rw (grows (suc n) R _ (taken c) (drop (suc c.at) msg) p q, short-next (length msg) c.at h f)
        (fill-short n (g (suc n) R) (set B (place s (suc n)) (get_or msg c.at 0)) (taken c) (same (suc n) R ∙ p) q a (rw length-set b) (omega arith) (λ x y. z (omega arith) (omega arith))
        ∙ ap (refusing (short_at (length msg) (suc c.at))) (zeroed-same _ _ _ _ T O U N (same (suc n) R) (length-set B _ _))))
  ]

  module _ (R B : List ℕ) (c : Cursor) (p : length R ≡ len) (q : c.rows ≡ used) (a : s.begin + s.size ≤ c.store) (b : c.store ≤ length B) where
    filled-there : (n : ℕ) → n ≡ s.size → (n ≡ 0 → ⊥) → c.at + n ≤ length msg → c.at + n ≤ message_limit
        → filled grow s n (memory R B T O U N) c (drop c.at msg)
        ≡ ok tt (memory (g 0 R) (sets B s.begin (slice c.at (c.at + n) msg)) T O U N) (moved_to c (c.at + n)) (drop (c.at + n) msg)
    unfolding filled
    filled-there zero e z h f = absurd (z refl)
    filled-there (suc n) e z h f = let i : place s n ≡ s.begin = omega arith in rw i at (fill-there n R B c p q a b (omega arith) h f)

    filled-short : (n : ℕ) → n ≡ s.size → (n ≡ 0 → ⊥) → (c.at + n ≤ length msg → c.at + n ≤ message_limit → ⊥)
        → result (stopped (short_at (length msg) c.at)) (memory R B T O U N) msg ≡ reads (filled grow s n) (memory R B T O U N) c msg
    unfolding filled result reads
    filled-short zero e z f = absurd (z refl)
    filled-short (suc n) e z f = sym (fill-short n R B c p q a b (omega arith) f)

-- ---- a text

module _ (s : Span) (msg R T O U N : List ℕ) where
  chars-there : (n t : ℕ) (B : List ℕ) (c : Cursor) → s.begin + s.size ≤ c.store → c.store ≤ length B → n < s.size
      → c.at + suc n ≤ length msg → c.at + suc n ≤ message_limit
      → chars s n t (memory R B T O U N) c (drop c.at msg)
      ≡ ok (eqb (fold_of t (take (suc n) (drop c.at msg))) 0) (memory R (sets B (place s n) (slice c.at (c.at + suc n) msg)) T O U N) (moved_to c (c.at + suc n))
      (drop (c.at + suc n) msg)
  unfolding chars fold_of
  chars-there zero t B c a b l h f =
      let e : c.at + 1 ≡ suc c.at = omega arith in
      rw (byte-there (memory R B T O U N) c msg (omega arith) (omega arith), stored_there s 0 (get_or msg c.at 0) B (taken c) a b l)
      (rw (drop-cons msg c.at 0 (omega arith), slice-cons c.at (c.at + 1) msg 0 (omega arith) h, e, slice_empty (suc c.at) msg))
  chars-there (suc n) t B c a b l h f =
      let e : suc c.at + suc n ≡ c.at + suc (suc n) = omega arith in
      let i : suc (place s (suc n)) ≡ place s n = omega arith in
      rw (byte-there (memory R B T O U N) c msg (omega arith) (omega arith), stored_there s (suc n) (get_or msg c.at 0) B (taken c) a b l)
      (rw (drop-cons msg c.at 0 (omega arith), copy-first B msg _ _ c.at (c.at + suc (suc n)) i (omega arith) h)
      (rw e at (chars-there n (step_of t (get_or msg c.at 0)) (set B (place s (suc n)) (get_or msg c.at 0)) (taken c) a (rw length-set b) (omega arith)
      (omega arith) (omega arith))))

  chars-short : (n t : ℕ) (B : List ℕ) (c : Cursor) → s.begin + s.size ≤ c.store → c.store ≤ length B → n < s.size
      → (c.at + suc n ≤ length msg → c.at + suc n ≤ message_limit → ⊥)
      → cleared (chars s n t (memory R B T O U N) c (drop c.at msg)) ≡ refusing (short_at (length msg) c.at) (zeroed (memory R B T O U N))
  unfolding chars cleared
  chars-short zero t B c a b l z = elim (next (length msg) c.at) [
    | there h f ↦ absurd (z (omega arith) (omega arith))
    | over y ↦ rw (byte-over (memory R B T O U N) c msg y)
  ]
  chars-short (suc n) t B c a b l z = elim (next (length msg) c.at) [
    | over y ↦ rw (byte-over (memory R B T O U N) c msg y)
    | there h f ↦
        rw (byte-there (memory R B T O U N) c msg h f, stored_there s (suc n) (get_or msg c.at 0) B (taken c) a b l)
        (rw (short-next (length msg) c.at h f)
        (chars-short n (step_of t (get_or msg c.at 0)) (set B (place s (suc n)) (get_or msg c.at 0)) (taken c) a (rw length-set b) (omega arith) (λ x y. z (omega arith) (omega arith))
        ∙ ap (refusing (short_at (length msg) (suc c.at))) (zeroed-same R R _ _ T O U N refl (length-set B _ _))))
  ]

  module _ (B : List ℕ) (c : Cursor) (a : s.begin + s.size ≤ c.store) (b : c.store ≤ length B) where
    text-there : (n : ℕ) → n ≡ s.size → (n ≡ 0 → ⊥) → c.at + n ≤ length msg → c.at + n ≤ message_limit
        → chars_of s n (memory R B T O U N) c (drop c.at msg)
        ≡ ok (eqb (fold_of 0 (take n (drop c.at msg))) 0) (memory R (sets B s.begin (slice c.at (c.at + n) msg)) T O U N) (moved_to c (c.at + n)) (drop (c.at + n) msg)
    unfolding chars_of
    text-there zero e z h f = absurd (z refl)
    text-there (suc n) e z h f = let i : place s n ≡ s.begin = omega arith in rw i at (chars-there n 0 B c a b (omega arith) h f)

    text-short : (n : ℕ) → n ≡ s.size → (n ≡ 0 → ⊥) → (c.at + n ≤ length msg → c.at + n ≤ message_limit → ⊥)
        → result (stopped (short_at (length msg) c.at)) (memory R B T O U N) msg ≡ reads (chars_of s n) (memory R B T O U N) c msg
    unfolding chars_of result reads
    text-short zero e z f = absurd (z refl)
    text-short (suc n) e z f = sym (chars-short n 0 B c a b (omega arith) f)

-- ---- what the functions answer

pub reads-empty : (grow : ℕ → Reader Unit) (s : Span) (m : Memory) (c : Cursor) (bs : List ℕ) → s.size ≡ 0 → result (give tt tt c) m bs ≡ reads (filled grow s s.size) m c bs
unfolding result reads cleared filled
reads-empty grow s m c bs e = rw e

pub reads-no-text : (s : Span) (m : Memory) (c : Cursor) (bs : List ℕ) → s.size ≡ 0 → result (give true tt c) m bs ≡ reads (chars_of s s.size) m c bs
unfolding result reads cleared chars_of
reads-no-text s m c bs e = rw e

module _ (s : Span) (msg R B T O U N : List ℕ) (c : Cursor) (some : s.size ≡ 0 → ⊥) (a : s.begin + s.size ≤ c.store) (b : c.store ≤ length B) where
  abbrev m : Memory
  m = memory R B T O U N

  plain-there : c.at + s.size ≤ length msg → c.at + s.size ≤ message_limit
      → filled (λ left. ret tt) s s.size m c (drop c.at msg)
      ≡ ok tt (memory R (sets B s.begin (slice c.at (c.at + s.size) msg)) T O U N) (moved_to c (c.at + s.size)) (drop (c.at + s.size) msg)
  plain-there =
      filled-there s msg T O U N (λ left. ret tt) (λ left R. R) (length R) c.rows (λ left R B c bs p q. refl) (λ left R. refl) (λ left R. refl)
      R B c refl refl a b s.size refl some

  plain-short : (c.at + s.size ≤ length msg → c.at + s.size ≤ message_limit → ⊥)
      → result (stopped (short_at (length msg) c.at)) m msg ≡ reads (filled (λ left. ret tt) s s.size) m c msg
  plain-short =
      filled-short s msg T O U N (λ left. ret tt) (λ left R. R) (length R) c.rows (λ left R B c bs p q. refl) (λ left R. refl) (λ left R. refl)
      R B c refl refl a b s.size refl some

  module _ {r : Bool} (e : r ≡ (leb (c.at + s.size) (length msg) && leb (c.at + s.size) message_limit)) where
    module _ (t : r ≡ true) {B' : List ℕ} {c' : Cursor} (p : B' ≡ sets B s.begin (slice c.at (c.at + s.size) msg)) (q : c' ≡ moved_to c (c.at + s.size)) where
      pub reads-copied : result (give tt tt c') (memory R B' T O U N) msg ≡ reads (filled (λ left. ret tt) s s.size) m c msg
      unfolding result reads cleared
      reads-copied = let h = is-here (length msg) c.at s.size e t in rw (plain-there h.0 h.1, p, q)

      pub reads-checked : {v : Bool} → v ≡ valid_text (take (c.at + s.size - c.at) (drop c.at msg))
          → result (give v tt c') (memory R B' T O U N) msg ≡ reads (chars_of s s.size) m c msg
      unfolding result reads cleared
      reads-checked f =
          let h = is-here (length msg) c.at s.size e t in
          let n : c.at + s.size - c.at ≡ s.size = omega arith in
          rw (text-there s msg R T O U N B c a b s.size refl some h.0 h.1, f, n, fold_valid (take s.size (drop c.at msg)), p, q)

    module _ (t : r ≡ false) {x : Refusal} (p : x ≡ short_at (length msg) c.at) where
      pub reads-cut : result (stopped x) m msg ≡ reads (filled (λ left. ret tt) s s.size) m c msg
      reads-cut = rw p (plain-short (not-here (length msg) c.at s.size e t))

      pub reads-cut-text : result (stopped x) m msg ≡ reads (chars_of s s.size) m c msg
      reads-cut-text = rw p (text-short s msg R T O U N B c a b s.size refl some (not-here (length msg) c.at s.size e t))

  -- a raw body's count, of a row that is used: what is done after each byte is done over again by the last
  module _ (row : ℕ) (w : Width) (used : row_used R c row ≡ true) where
    abbrev counted : ℕ → List ℕ → List ℕ
    counted left R = put R row col_count ((s.size - left) / width_of w)

    abbrev count : ℕ → Reader Unit
    count left = by (on_rows (grown row w s left))

    counts : (left : ℕ) (R' B : List ℕ) (c' : Cursor) (bs : List ℕ) → length R' ≡ length R → c'.rows ≡ c.rows
        → count left (memory R' B T O U N) c' bs ≡ ok tt (memory (counted left R') B T O U N) c' bs
    unfolding grown
    counts left R' B c' bs p q = rw (p, q, used)

    raw-there : c.at + s.size ≤ length msg → c.at + s.size ≤ message_limit
        → reads (filled (λ left. ret tt) s s.size >>= (λ x. count 0)) m c msg ≡ reads (filled count s s.size) m c msg
    unfolding reads
    raw-there h f =
        rw (plain-there h f)
        (rw (
          counts 0 R _ (moved_to c (c.at + s.size)) (drop (c.at + s.size) msg) refl refl,
          filled-there s msg T O U N count counted (length R) c.rows counts (λ left R. length-set R _ _) (λ left R. set-set R _ _ _)
              R B c refl refl a b s.size refl some h f,
        ))

    raw-short : (c.at + s.size ≤ length msg → c.at + s.size ≤ message_limit → ⊥)
        → reads (filled (λ left. ret tt) s s.size >>= (λ x. count 0)) m c msg ≡ reads (filled count s s.size) m c msg
    raw-short f =
        sym (refused (filled (λ left. ret tt) s s.size) (λ x. count 0) m m c msg (stopped (short_at (length msg) c.at)) _ _ refl refl (plain-short f))
        ∙ filled-short s msg T O U N count counted (length R) c.rows counts (λ left R. length-set R _ _) (λ left R. set-set R _ _ _)
        R B c refl refl a b s.size refl some f

    pub reads-raw : reads (filled (λ left. ret tt) s s.size >>= (λ x. count 0)) m c msg ≡ reads (filled count s s.size) m c msg
    reads-raw = elim (dec_le (c.at + s.size) (length msg)) [
      | no h ↦ raw-short (λ x y. omega arith)
      | yes h ↦ elim (dec_le (c.at + s.size) message_limit) [ no f ↦ raw-short (λ x y. omega arith) | yes f ↦ raw-there h f ]
    ]
