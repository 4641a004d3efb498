-- A U29 and a number of eight bytes, read byte by byte, are what wire reads at once, if it lies within the limit.
use mathlib.Core.Path.{◌≡◌, refl, sym, ap, ◌∙◌}
use mathlib.Core.Bool.{Bool, true, false, cond}
use mathlib.Core.List.{List, [], ◌∷◌}
use Prim.Native.Nat.{ℕ, zero, suc, ◌+◌, ◌*◌, ◌-◌, ◌^◌, ◌≤◌, ◌<◌}
use native.Mathlib.Omega.{arith}
use native.Mathlib.Numerals.{add-one}
use native.Mathlib.Decide.{dec_le, dec_lt}
use borrow.Author.Tests.{le-leb, lt-leb}
use lib.Dec.{leb, lit≤, lit<}
use lib.ListN.{length, get_or, drop}
use lib.Seq.{slice, slice-cons, slice_empty, get_or-drop}
use Rattle.rows.specs.declared.Cursor.{Cursor}
use Rattle.rows.specs.Memory.{Memory, message_limit, zeroed}
use Rattle.wire.specs.declared.Part.{Part}
use Rattle.wire.specs.declared.Part.TheVariants.{More, Whole}
use Rattle.wire.specs.U29.{part_of, go_on, rest_of}
use Rattle.wire.specs.Big.{number_of, number_at}
use Rattle.wire.proofs.Octets.{Bytes}
use Rattle.wire.proofs.U29.{Step, step, astray, fourth, last, more, rest_part, rest_end}
use Rattle.wire.proofs.Big.{digit-last, digit-more}
use Rattle.wire.proofs.Digits.{one_more}
use Rattle.wire.proofs.Round.{u29-below}
use Rattle.format.specs.Reading.{Reader, ok, byte, taken, u29, number, on_part, bind, by}
use Rattle.format.specs.Decide.{lost}
use Rattle.format.proofs.Tests.{clash}
use Rattle.std.specs.Prelude.{Option, Some, None, Result as Answer, Ok, Err, IfOk}
use Rattle.format.specs.declared.Refusal.{Refusal}
use Rattle.decide.specs.Outcomes.{out_of}
use Rattle.scan.specs.Reads.{result, cleared, reads, within_of, short_at, moved_to}
use Rattle.scan.proofs.Ends.{Next, there, over, next, byte-there, byte-over, short-next, refusing}

-- ---- a U29

-- what begins past the limit is too long
rest_over : (len : ℕ) (c : Cursor) (bs : List ℕ) (left n at : ℕ) → message_limit ≤ at → within_of len c (rest_of left n bs at) ≡ Err (short_at len c.at)
unfolding rest_of
rest_over len c [] left n at h = refl
rest_over len c (b ∷ bs) left n at h = part (part_of left n b) (λ m. rest_over len c bs (left - 1) m (at + 1) (omega arith))
  where
    part : (x : Option Part) → ((m : ℕ) → within_of len c (rest_of (left - 1) m bs (at + 1)) ≡ Err (short_at len c.at))
        → within_of len c (go_on (λ m. rest_of (left - 1) m bs (at + 1)) (at + 1) x) ≡ Err (short_at len c.at)
    part (Some (More m)) f = f m
    part (Some (Whole m)) f = simp (lt-leb (at + 1) message_limit (omega arith))
    part None f = refl

-- a cursor one byte further ends at the same place
within-next : (len : ℕ) (c : Cursor) (x : Option (ℕ × ℕ)) → c.at < len → c.at < message_limit → within_of len c x ≡ within_of len (taken c) x
within-next len c None h g = ap Err (short-next len c.at h g)
within-next len c (Some (n, at)) h g = rw (short-next len c.at h g)

rest-none : (c : Cursor) (s : List ℕ) (left n : ℕ) → (c.at < length s → c.at < message_limit → ⊥)
    → within_of (length s) c (rest_of left n (drop c.at s) c.at) ≡ Err (short_at (length s) c.at)
rest-none c s left n f = elim (dec_lt c.at (length s)) [
  | no h ↦ rw (rest_end s c.at left n (omega arith))
  | yes h ↦ rest_over (length s) c (drop c.at s) left n c.at (elim (dec_le message_limit c.at) [ yes g ↦ g | no g ↦ absurd (f h (omega arith)) ])
]

-- what is behind a byte that says more
abbrev behind : ℕ → ℕ → Reader ℕ
behind zero n = by (λ m c. lost)
behind (suc left) n = u29 left n

u29-byte : (left n : ℕ) (m : Memory) (c : Cursor) (bs : List ℕ) → u29 left n m c bs ≡ bind (byte m c bs) (λ b. on_part (behind left) (part_of left n b))
unfolding u29
u29-byte zero n m c bs = refl
u29-byte (suc left) n m c bs = refl

-- one that is whole with the byte before `at`
whole_in : (m : Memory) (c : Cursor) (s : List ℕ) (v : ℕ) → c.at < message_limit
    → result (out_of (within_of (length s) c (Some (v, c.at + 1)))) m s ≡ ok v m (taken c) (drop (suc c.at) s)
unfolding result
whole_in m c s v g = rw (le-leb (c.at + 1) message_limit (omega arith), add-one c.at)

module _ (m : Memory) (s : List ℕ) (bytes : Bytes s) where
  -- n is what the bytes before gave, and `left` more may come after the next
  abbrev Reads : ℕ → ℕ → Cursor → Type 0
  Reads left n c = result (out_of (within_of (length s) c (rest_of left n (drop c.at s) c.at))) m s ≡ cleared (u29 left n m c (drop c.at s))

  part_in : (left n : ℕ) (c : Cursor) {x : Option Part} → left ≤ 3 → n < 2 ^ (7 * (3 - left)) → c.at < length s → c.at < message_limit → Step left n (get_or s c.at 0) x
      → ((k v : ℕ) → left ≡ suc k → v < 2 ^ (7 * (3 - k)) → Reads k v (taken c))
      → result (out_of (within_of (length s) c (go_on (λ v. rest_of (left - 1) v (drop (c.at + 1) s) (c.at + 1)) (c.at + 1) x))) m s
      ≡ cleared (on_part (behind left) x m (taken c) (drop (suc c.at) s))
  unfolding cleared
  part_in left n c w f h g (astray a) go = absurd (a w f)
  part_in left n c w f h g (fourth z q) go = whole_in m c s _ g
  part_in left n c w f h g (last l q k j) go = whole_in m c s _ g
  part_in zero n c w f h g (more l q k j) go = absurd (omega arith)
  part_in (suc left) n c w f h g (more l q k j) go =
      let b : ℕ = get_or s c.at 0 in
      let d : b - 2 ^ 7 < 2 ^ 7 = omega (arith, bytes c.at) in
      let e : suc left - 1 ≡ left = omega arith in
      let small : n * 2 ^ 7 + (b - 2 ^ 7) < 2 ^ (7 * (3 - left)) = rw e at (one_more 7 3 (suc left) n (b - 2 ^ 7) l q k d) in
      rw (e, add-one c.at, within-next (length s) c _ h g) (go left (n * 2 ^ 7 + (b - 2 ^ 7)) refl small)

  by_next : (left n : ℕ) (c : Cursor) → left ≤ 3 → n < 2 ^ (7 * (3 - left)) → ((k v : ℕ) → left ≡ suc k → v < 2 ^ (7 * (3 - k)) → Reads k v (taken c))
      → Next (length s) c.at → Reads left n c
  unfolding result cleared
  by_next left n c w f go (over q) = rw (rest-none c s left n q, u29-byte left n m c (drop c.at s), byte-over m c s q)
  by_next left n c w f go (there h g) =
      rw (rest_part s c.at left n _ _ h refl refl, u29-byte left n m c (drop c.at s), byte-there m c s h g)
      (part_in left n c w f h g (step left n (get_or s c.at 0)) go)

  word_in : (left n : ℕ) (c : Cursor) → left ≤ 3 → n < 2 ^ (7 * (3 - left)) → Reads left n c
  word_in zero n c w f = by_next zero n c w f (λ k v e. absurd (omega arith)) (next (length s) c.at)
  word_in (suc left) n c w f =
      by_next (suc left) n c w f
      (λ k v e small. let q : k ≡ left = omega arith in rw q (word_in left v (taken c) (omega arith) (rw q at small)))
      (next (length s) c.at)

  pub reads_word : (c : Cursor) {x : Answer (ℕ × Cursor) Refusal} {r : Option (ℕ × ℕ)} → x ≡ within_of (length s) c r → r ≡ rest_of 3 0 (drop c.at s) c.at → result (out_of x) m s ≡ reads (u29 3 0) m c s
  unfolding reads
  reads_word c e q = rw (e, q) (word_in 3 0 c (lit≤ tt) (lit< tt))

bytes-behind : (s : List ℕ) (at : ℕ) → Bytes s → Bytes (drop at s)
bytes-behind s at h i = rw (get_or-drop at s i 0) (h (at + i))

pub word_below : (c : Cursor) (s : List ℕ) {x : Answer (ℕ × Cursor) Refusal} (r : Option (ℕ × ℕ)) → Bytes s → x ≡ within_of (length s) c r → r ≡ rest_of 3 0 (drop c.at s) c.at
    → IfOk x (λ p. p.0 < 2 ^ 29)
word_below c s None h e q = rw e tt
word_below c s (Some (v, at)) h e q = rw e (chosen (leb at message_limit))
  where
    chosen : (t : Bool) → IfOk (cond {A = Answer (ℕ × Cursor) Refusal} t (Ok (v, moved_to c at)) (Err (short_at (length s) c.at))) (λ p. p.0 < 2 ^ 29)
    chosen true = u29-below (drop c.at s) c.at v at (bytes-behind s c.at h) (sym q)
    chosen false = tt

-- ---- a number of eight bytes

module _ (m : Memory) (s : List ℕ) (bytes : Bytes s) where
  -- n is what the bytes before gave, and k more come after the next: all are there
  number-there : (k n : ℕ) (c : Cursor) → k ≤ 7 → n < 2 ^ (8 * (7 - k)) → c.at + suc k ≤ length s → c.at + suc k ≤ message_limit
      → number k n m c (drop c.at s) ≡ ok (number_of n (slice c.at (c.at + suc k) s)) m (moved_to c (c.at + suc k)) (drop (c.at + suc k) s)
  unfolding number number_of
  number-there zero n c w f h g =
      let e : c.at + 1 ≡ suc c.at = omega arith in
      rw (byte-there m c s (omega arith) (omega arith), digit-last 0 n (get_or s c.at 0) w f refl, slice-cons c.at (c.at + 1) s 0 (omega arith) h, e, slice_empty (suc c.at) s)
  number-there (suc k) n c w f h g =
      let b : ℕ = get_or s c.at 0 in
      let e : suc c.at + suc k ≡ c.at + suc (suc k) = omega arith in
      let d : suc k - 1 ≡ k = omega arith in
      let small : n * 2 ^ 8 + b < 2 ^ (8 * (7 - k)) = rw d at (one_more 8 7 (suc k) n b (omega arith) w f (bytes c.at)) in
      rw (byte-there m c s (omega arith) (omega arith), digit-more (suc k) n (get_or s c.at 0) w f (omega arith), slice-cons c.at (c.at + suc (suc k)) s 0 (omega arith) h)
      (rw e at (number-there k (n * 2 ^ 8 + b) (taken c) (omega arith) small (omega arith) (omega arith)))

  -- not all are there
  number_short : (k n : ℕ) (c : Cursor) → k ≤ 7 → n < 2 ^ (8 * (7 - k)) → (c.at + suc k ≤ length s → c.at + suc k ≤ message_limit → ⊥)
      → cleared (number k n m c (drop c.at s)) ≡ refusing (short_at (length s) c.at) (zeroed m)
  unfolding number cleared
  number_short zero n c w f q = elim (next (length s) c.at) [
    | there h g ↦ absurd (q (omega arith) (omega arith))
    | over z ↦ rw (byte-over m c s z)
  ]
  number_short (suc k) n c w f q = elim (next (length s) c.at) [
    | there h g ↦
        let b : ℕ = get_or s c.at 0 in
        let d : suc k - 1 ≡ k = omega arith in
        let small : n * 2 ^ 8 + b < 2 ^ (8 * (7 - k)) = rw d at (one_more 8 7 (suc k) n b (omega arith) w f (bytes c.at)) in
        rw (byte-there m c s h g, digit-more (suc k) n (get_or s c.at 0) w f (omega arith), short-next (length s) c.at h g)
        (number_short k (n * 2 ^ 8 + b) (taken c) (omega arith) small (λ x y. q (omega arith) (omega arith)))
    | over z ↦ rw (byte-over m c s z)
  ]

  pub reads-eight : (c : Cursor) {x : Answer (ℕ × Cursor) Refusal} {r : Option (ℕ × ℕ)} → x ≡ within_of (length s) c r → r ≡ number_at 8 s c.at → result (out_of x) m s ≡ reads (number 7 0) m c s
  unfolding reads number_at result cleared
  reads-eight c e q = rw (e, q) (elim (dec_le (c.at + 8) (length s)) [
    | no h ↦ rw (lt-leb (c.at + 8) (length s) (omega arith)) (sym (number_short 7 0 c (lit≤ tt) (lit< tt) (λ x y. omega arith)))
    | yes h ↦ rw (le-leb (c.at + 8) (length s) h) (elim (dec_le (c.at + 8) message_limit) [
      | no g ↦ rw (lt-leb (c.at + 8) message_limit (omega arith)) (sym (number_short 7 0 c (lit≤ tt) (lit< tt) (λ x y. omega arith)))
      | yes g ↦ rw (le-leb (c.at + 8) message_limit g, number-there 7 0 c (lit≤ tt) (lit< tt) h g)
    ])
  ])
