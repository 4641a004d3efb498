-- Every answer is named, on any state and loans: begin waits or refuses a loan; feed waits, finishes or refuses by a number from 1 to 12; end never waits; read
-- gives 1 to 11; write 1, 9, 10, 13 and 14. A new refusal zeroes the loans, and a state that doesn't hold together is refused by 12 before anything else.
use mathlib.Core.Path.{◌≡◌, refl, sym, ap, ◌∙◌}
use mathlib.Core.Bool.{true, false}
use mathlib.Core.Logic.{◌≢◌}
use mathlib.Core.List.{List, [], ◌∷◌}
use Prim.Native.Nat.{ℕ, suc, ◌+◌, ◌^◌, ◌≤◌, ◌<◌}
use native.Mathlib.Omega.{arith}
use lib.Dec.{leb}
use borrow.Author.Tests.{leb-true, leb-false, lt-leb}
use lib.ListN.{length, replicate, length-replicate}
use Rattle.rows.specs.declared.Cursor.{Cursor}
use Rattle.rows.specs.Memory.{Memory, zeros, zeroed, fault_of, message_limit, loan_names}
use Rattle.wire.proofs.Octets.{Bytes}
use Rattle.format.specs.declared.Answer.{Answer}
use Rattle.format.specs.declared.Answer.TheVariants.{Waiting, Refused}
use Rattle.rows.specs.declared.lent.Lent.{Lent}
use Rattle.format.specs.declared.Frame.{Frame}
use Rattle.format.specs.Reading.{Ended, finished, refused, taken}
use Rattle.format.specs.Step.{Mode, State, wait, over, none, act, step, end, begin}
use Rattle.format.specs.Numbers.{Numbers, Held, held, lent_of, laid, state_of, numbers_of, memory_of, after_step, byte_step, sound}
use Rattle.format.specs.Numbers.{sound_step, frames_size}
use Rattle.format.specs.Answers.{fed, answer_of, answered, begin_call, run_held, cost_from, state_in, taken_by, feed_call, end_of, end_call}
use Rattle.format.proofs.Tests.{on_bool, is_true, clash}
use Rattle.format.proofs.Along.{Able}
use Rattle.format.proofs.Pieces.{answer_in, taken_in, untaken, taken-length, run-still, taken-still, feed-ended, end-ended, feed-nothing, unbegun-nothing}
use Rattle.format.proofs.Shows.{memory_in, lengths-run, memory-of, good-sound, good-waits}
use Rattle.format.proofs.Placed.{RefusedBy, unknown, absent, unfinished, external, undated, invalid, deep, full, astrays, Placed, placed-act}
use Rattle.format.proofs.Placed as placed
use Rattle.promises.proofs.Stands.{Stands, waits, finishes, faulty, declines, passes, forgets, place_in, Any, every_any, every-octet}
use Rattle.promises.proofs.Stands.{stands-going, on-finished, on-refused, able_act, able_finishes, able_says, long-said, loan-said, fault-most}
use Rattle.format.specs.Claims.{Going, waiting, unbegun, FeedLeaves, EndLeaves, repeated, asked, new}
use Rattle.promises.proofs.Counted.{Waits, waits-all}
use Rattle.format.specs.Refusals as refusals
pub use Rattle.format.specs.Claims.{first_numbers, refused_numbers, lost_numbers}
pub use Rattle.format.specs.Claims.{Refuses, byte, past, stray, Feeds, awaits, completes, rejects}

-- ---- begin

-- it waits, with loans zero
pub begin-waits : (m : Memory) → fault_of m ≡ 0 → begin_call m ≡ fed (Waiting 0) (first_numbers (lent_of m)) (zeroed m)
unfolding begin_call begin after_step numbers_of state_of laid
begin-waits m e = rw e

-- or refuses the lowest faulty loan, with loans as found
pub begin-refuses : (m : Memory) (loan : ℕ) → fault_of m ≡ suc loan
    → begin_call m ≡ fed (Refused refusals.bad_loan (suc loan) 0 0) (refused_numbers refusals.bad_loan (suc loan) 0 (lent_of m) (replicate frames_size 0)) m
unfolding begin_call begin after_step numbers_of state_of
begin-refuses m loan e =
    let l : suc loan ≤ loan_names = rw e at (fault-most m) in
    rw (e, is_true (refusals.sayable refusals.bad_loan (suc loan) 0) (loan-said (suc loan) (omega arith) l))

-- ---- feed on what hasn't ended

-- what a state that stands so answers
feeds : (p k : ℕ) (piece : List ℕ) (s : State) → Stands ⊥ (λ (b : ℕ). Bytes piece → b < 2 ^ 8) (p + k) s → k ≤ length piece
    → (Waits s → k ≡ length piece) → Feeds p piece (answer_of s k)
feeds p k piece s (waits e) h w = awaits (w tt)
feeds p k piece s (finishes e) h w = completes h
feeds p k piece s (faulty f i j e) h w = absurd f
feeds p k piece s (declines b l y r i z) h w = rejects h (byte b y r i)
feeds p k piece s (passes l e f z) h w = rejects h (past e f)
feeds p k piece s (forgets b l y f z) h w = rejects h (stray (λ o. f (y o)))

-- no more is taken than there is
pub taken-most : (n : Numbers) (m : Memory) (bs : List ℕ) → taken_by (held n m) bs ≤ length bs
unfolding feed_call
taken-most n m bs =
    rw (taken-answer (state_in (run_held (held n m) bs)) (taken_by (held n m) bs) (run_held (held n m) bs) refl)
    at (taken-length (fed (Waiting 0) n m) bs)
  where
    taken-answer : (s : State) (k : ℕ) (h : Held) → state_in h ≡ s → taken_in (answer_in (answered h k)) ≡ k
    taken-answer (wait x ts c l) k (held i j) e = rw e
    taken-answer (over (finished c l)) k (held i j) e = rw e
    taken-answer (over (refused number told place l)) k (held i j) e = rw e
    taken-answer (none l) k (held i j) e = rw e

-- the answer of what is held
pub answer-of : (h : Held) (k : ℕ) → answer_in (answered h k) ≡ answer_of (state_in h) k
answer-of (held n m) k = refl

module _ (n : Numbers) (m : Memory) (b : ℕ) (bs : List ℕ) (going : Going (state_of n m)) where
  -- whatever the state and the loans
  pub feed-going : Feeds (place_in (state_of n m)) (b ∷ bs) (answer_in (feed_call n m (b ∷ bs)))
  unfolding feed_call
  feed-going = rw (answer-of (run_held (held n m) (b ∷ bs)) (taken_by (held n m) (b ∷ bs)))
      (feeds (place_in (state_of n m)) (taken_by (held n m) (b ∷ bs)) (b ∷ bs) (state_in (run_held (held n m) (b ∷ bs)))
      (stands-going (held n m) b bs (every-octet (Bytes (b ∷ bs)) (b ∷ bs) (λ h. h)) going)
      (taken-most n m (b ∷ bs)) (waits-all (held n m) (b ∷ bs)))

-- ---- a new refusal zeroes the loans

-- as many zeros
zeros-same : (a b : List ℕ) → length (zeros a) ≡ length b → zeros a ≡ zeros b
zeros-same a b e =
    let n : length a ≡ length b = sym (length-replicate {A = ℕ} (length a) 0) ∙ e in
    ap (λ (n : ℕ). replicate {A = ℕ} n 0) n

-- loans of the same lengths, all zero
same-zero : (k m : Memory) → lent_of (zeroed k) ≡ lent_of m → zeroed k ≡ zeroed m
unfolding zeroed lent_of
same-zero k m e =
    rw (
      zeros-same k.rows m.rows (ap (λ (l : Lent). l.rows) e),
      zeros-same k.store m.store (ap (λ (l : Lent). l.store) e),
      zeros-same k.strings m.strings (ap (λ (l : Lent). l.strings) e),
      zeros-same k.objects m.objects (ap (λ (l : Lent). l.objects) e),
      zeros-same k.traits m.traits (ap (λ (l : Lent). l.traits) e),
      zeros-same k.names m.names (ap (λ (l : Lent). l.names) e),
    )

-- a new refusal left them zero
left-zero : {at : ℕ} (s : State) (i n told place k : ℕ) → Stands ⊥ Any at s → answer_of s i ≡ Refused n told place k → (l : Memory) × (memory_of s ≡ zeroed l)
left-zero s i n told place k (waits e) q = clash cc
left-zero s i n told place k (finishes e) q = clash cc
left-zero s i n told place k (faulty f g h e) q = absurd f
left-zero s i n told place k (declines b l y r h z) q = (l, z)
left-zero s i n told place k (passes l e f z) q = (l, z)
left-zero s i n told place k (forgets b l y f z) q = (l, z)

-- and so they are those that were lent, all zero
wiped-by : (m : Memory) {at : ℕ} (h : Held) (i n told place k : ℕ) (n' : Numbers) (m' : Memory) → Stands ⊥ Any at (state_in h) → lent_of (memory_in h) ≡ lent_of m
    → answered h i ≡ fed (Refused n told place k) n' m' → m' ≡ zeroed m
wiped-by m (held j l) i n told place k n' m' w e q =
    let p : answer_of (state_of j l) i ≡ Refused n told place k = ap answer_in q in
    let r : l ≡ m' = cc in
    let (z, f) = left-zero (state_of j l) i n told place k w p in
    let g : l ≡ zeroed z = sym (memory-of j l) ∙ f in
    sym r ∙ g ∙ same-zero z m (ap lent_of (sym g) ∙ e)

-- whatever the state and the loans, if the state hasn't ended
pub feed_wipes : (n : Numbers) (m : Memory) (b : ℕ) (bs : List ℕ) (number told place k : ℕ) (n' : Numbers) (m' : Memory) → Going (state_of n m)
    → feed_call n m (b ∷ bs) ≡ fed (Refused number told place k) n' m' → m' ≡ zeroed m
unfolding feed_call
feed_wipes n m b bs number told place k n' m' g e =
    wiped-by m (run_held (held n m) (b ∷ bs)) (taken_by (held n m) (b ∷ bs)) number told place k n' m'
    (stands-going (held n m) b bs (every_any (b ∷ bs)) g) (lengths-run (held n m) (b ∷ bs)) e

-- ---- end

-- what waits is refused by 2 at its place, what was never begun by 12; the loans are zeroed
pub end-waits : (n : Numbers) (m : Memory) (x : Mode) (ts : List Frame) (c : Cursor) → state_of n m ≡ wait x ts c m
    → end_call n m ≡ fed (Refused refusals.unexpected_end 0 c.at 0) (refused_numbers refusals.unexpected_end 0 c.at n.head.lent n.frames) (zeroed m)
unfolding end_call end after_step numbers_of state_of refusals.sayable
end-waits n m x ts c e = ap (λ s. end_of n m s) e

-- what was never begun
pub end-unbegun : (n : Numbers) (m : Memory) → state_of n m ≡ none m
    → end_call n m ≡ fed (Refused refusals.lost 0 0 0) (lost_numbers n) (zeroed m)
unfolding end_call end after_step numbers_of state_of refusals.sayable
end-unbegun n m e = ap (λ s. end_of n m s) e

-- ---- what every refusal leaves

module _ (n : Numbers) (m : Memory) (number told place k : ℕ) (n' : Numbers) (m' : Memory) where
  -- a refused state is read with the loans that come with it
  over-here : (i t p : ℕ) (l : Memory) → state_of n m ≡ over (refused i t p l) → i ≡ number → t ≡ told → p ≡ place → state_of n m ≡ over (refused number told place m)
  over-here i t p l q a b c =
      let h : l ≡ m = ap memory_of (sym q) ∙ memory-of n m in
      q ∙ rw (a, b, c, h)

  -- a state that has ended and refuses had refused
  feed-over : (piece : List ℕ) (e : Ended) → state_of n m ≡ over e → feed_call n m piece ≡ fed (Refused number told place k) n' m'
      → FeedLeaves n m piece number told place k n' m'
  feed-over piece (finished c l) q e = let r = feed-ended n m m (finished c l) piece q in clash cc
  feed-over piece (refused i t p l) q e =
      let r = feed-ended n m m (refused i t p l) piece q in
      repeated (over-here i t p l q (cc) (cc) (cc)) (cc) (cc) (cc)

  -- one that has not ended refuses no bytes only if it was never begun
  feed-empty : (s : State) → state_of n m ≡ s → Going s → feed_call n m [] ≡ fed (Refused number told place k) n' m' → FeedLeaves n m [] number told place k n' m'
  feed-empty s q (waiting {x = x} {ts = ts} {c = c} {m = l}) e =
      let r : feed_call n m [] ≡ fed (Waiting 0) n m = feed-nothing n m ∙ ap (λ (s : State). fed (answer_of s 0) n m) q in
      clash cc
  feed-empty s q (unbegun {m = l}) e =
      let h : state_of n m ≡ none m = q ∙ ap (λ l. none l) (ap memory_of (sym q) ∙ memory-of n m) in
      let r = unbegun-nothing n m h in
      asked h refl (cc) (cc) (cc) (cc)

  -- every refusal of feed
  pub feed-leaves : (piece : List ℕ) → feed_call n m piece ≡ fed (Refused number told place k) n' m' → FeedLeaves n m piece number told place k n' m'
  feed-leaves piece e = of (state_of n m) refl piece e
    where
      going : (s : State) → state_of n m ≡ s → Going s → (piece : List ℕ) → feed_call n m piece ≡ fed (Refused number told place k) n' m'
          → FeedLeaves n m piece number told place k n' m'
      going s q g [] e = feed-empty s q g e
      going s q g (b ∷ bs) e = new (rw q g) (feed_wipes n m b bs number told place k n' m' (rw q g) e)

      of : (s : State) → state_of n m ≡ s → (piece : List ℕ) → feed_call n m piece ≡ fed (Refused number told place k) n' m'
          → FeedLeaves n m piece number told place k n' m'
      of (over e) q piece f = feed-over piece e q f
      of (wait x ts c l) q piece f = going (wait x ts c l) q waiting piece f
      of (none l) q piece f = going (none l) q unbegun piece f

  -- a state that has ended and refuses its end had refused
  end-over : (e : Ended) → state_of n m ≡ over e → end_call n m ≡ fed (Refused number told place k) n' m' → EndLeaves n m number told place n' m'
  end-over (finished c l) q e = let r = end-ended n m m (finished c l) q in clash cc
  end-over (refused i t p l) q e =
      let r = end-ended n m m (refused i t p l) q in
      repeated (over-here i t p l q (cc) (cc) (cc)) (cc) (cc)

  -- every refusal of end
  pub end_leaves : end_call n m ≡ fed (Refused number told place k) n' m' → EndLeaves n m number told place n' m'
  end_leaves e = of (state_of n m) refl
    where
      of : (s : State) → state_of n m ≡ s → EndLeaves n m number told place n' m'
      of (over f) q = end-over f q e
      of (wait x ts c l) q =
          let h : l ≡ m = ap memory_of (sym q) ∙ memory-of n m in
          let r = end-waits n m x ts c (q ∙ ap (λ l. wait x ts c l) h) in
          new (rw q waiting) cc
      of (none l) q =
          let h : l ≡ m = ap memory_of (sym q) ∙ memory-of n m in
          let r = end-unbegun n m (q ∙ ap (λ l. none l) h) in
          new (rw q unbegun) cc

-- ---- what has answered repeats

-- an answer that neither waits nor is 12 comes from a state that has ended
answer-over : (s : State) (i : ℕ) (a : Answer) → answer_of s i ≡ a → ((j : ℕ) → a ≢ Waiting j) → ((told place j : ℕ) → a ≢ Refused refusals.lost told place j)
    → (e : Ended) × (s ≡ over e)
answer-over (wait x ts c m) i a q w l = absurd (w i (sym q))
answer-over (over e) i a q w l = (e, refl)
answer-over (none m) i a q w l = absurd (l 0 0 i (sym q))

-- an ended state's answer, no bytes taken
over-untaken : (e : Ended) (i : ℕ) → answer_of (over e) 0 ≡ untaken (answer_of (over e) i)
over-untaken (finished c m) i = refl
over-untaken (refused number told place m) i = refl

-- whatever the state, the loans and the bytes: an answer that neither waits nor is 12 is repeated by every call after it, which takes nothing and changes nothing
pub answered_repeats : (n : Numbers) (m : Memory) (piece : List ℕ) (a : Answer) (n' : Numbers) (m' : Memory) → feed_call n m piece ≡ fed a n' m'
    → ((j : ℕ) → a ≢ Waiting j) → ((told place j : ℕ) → a ≢ Refused refusals.lost told place j) → (k : Memory) (part : List ℕ)
    → (feed_call n' k part ≡ fed (untaken a) n' k) × (end_call n' k ≡ fed (untaken a) n' k)
unfolding feed_call
answered_repeats n m piece a n' m' e w l k part = of (run_held (held n m) piece) (taken_by (held n m) piece) e
  where
    of : (h : Held) (i : ℕ) → answered h i ≡ fed a n' m' → (feed_call n' k part ≡ fed (untaken a) n' k) × (end_call n' k ≡ fed (untaken a) n' k)
    of (held s u) i q =
        let p : answer_of (state_of s u) i ≡ a = ap answer_in q in
        let f : s ≡ n' = cc in
        let (v, o) = answer-over (state_of s u) i a p w l in
        let g : state_of n' u ≡ over v = ap (λ (t : Numbers). state_of t u) (sym f) ∙ o in
        let z : answer_of (over v) 0 ≡ untaken a = over-untaken v i ∙ ap untaken (ap (λ t. answer_of t i) (sym o) ∙ p) in
        (feed-ended n' u k v part g ∙ ap (λ x. fed x n' k) z, end-ended n' u k v g ∙ ap (λ x. fed x n' k) z)

-- ---- altered states

-- the numbers of a state that did not hold together
broken-numbers : (n : Numbers) (l : Memory) → after_step n (over (refused refusals.lost 0 0 l)) ≡ held (lost_numbers n) l
unfolding after_step numbers_of
broken-numbers n l = refl

-- 12 takes no byte
free : (s : State) (k : Memory) → cost_from s (over (refused refusals.lost 0 0 k)) ≡ 0
free (wait x ts c m) k = refl
free (over e) k = refl
free (none m) k = refl

-- a byte that is refused by 12 isn't taken, and the bytes after it aren't
lost-run : (n : Numbers) (m : Memory) (b : ℕ) (bs : List ℕ) (l : Memory) → byte_step b (held n m) ≡ after_step n (over (refused refusals.lost 0 0 l))
    → feed_call n m (b ∷ bs) ≡ fed (Refused refusals.lost 0 0 0) (lost_numbers n) l
unfolding feed_call run_held taken_by state_of refusals.sayable
lost-run n m b bs l e =
    let q : byte_step b (held n m) ≡ held (lost_numbers n) l = e ∙ broken-numbers n l in
    let r = run-still (lost_numbers n) l (refused refusals.lost 0 0 l) refl bs in
    let t = taken-still (lost_numbers n) l (refused refusals.lost 0 0 l) refl bs in
    let z : cost_from (state_of n m) (state_in (held (lost_numbers n) l)) ≡ 0 = free (state_of n m) l in
    rw (q, r, t, z)

-- a state of which the test fails is refused before anything else
pub unsound-lost : (n : Numbers) (m : Memory) (b : ℕ) (bs : List ℕ) (x : Mode) (ts : List Frame) (c : Cursor) → state_of n m ≡ wait x ts c m
    → sound n.head.lent x ts c m ≡ false
    → feed_call n m (b ∷ bs) ≡ fed (Refused refusals.lost 0 0 0) (lost_numbers n) (zeroed m)
unfolding byte_step sound_step
unsound-lost n m b bs x ts c e f = lost-run n m b bs (zeroed m) (rw (e, f))

-- so is one that was never begun
pub unbegun-lost : (n : Numbers) (m : Memory) (b : ℕ) (bs : List ℕ) → state_of n m ≡ none m
    → feed_call n m (b ∷ bs) ≡ fed (Refused refusals.lost 0 0 0) (lost_numbers n) (zeroed m)
unfolding byte_step
unbegun-lost n m b bs e = lost-run n m b bs (zeroed m) (rw e)

-- and one that passes its test where the byte's own step is 12
pub step-lost : (n : Numbers) (m : Memory) (b : ℕ) (bs : List ℕ) (x : Mode) (ts : List Frame) (c : Cursor) (l : Memory) → state_of n m ≡ wait x ts c m
    → sound n.head.lent x ts c m ≡ true → c.at < message_limit → act x b ts (taken c) m ≡ over (refused refusals.lost 0 0 l)
    → feed_call n m (b ∷ bs) ≡ fed (Refused refusals.lost 0 0 0) (lost_numbers n) (zeroed m)
unfolding byte_step sound_step step
step-lost n m b bs x ts c l e f g r =
    let q = lost-run n m b bs l (rw (e, f, lt-leb message_limit c.at g, r)) in
    rw (feed_wipes n m b bs refusals.lost 0 0 0 (lost_numbers n) l (rw e waiting) q) at q

-- and the other way round: a byte is refused by 12 only if the state was never begun, or the test fails, or what the loans hold doesn't fit what was read
pub data Lost (n : Numbers) (m : Memory) (b : ℕ) : Type 0 where
  never : state_of n m ≡ none m → Lost n m b
  unsound : (x : Mode) (ts : List Frame) (c : Cursor) → state_of n m ≡ wait x ts c m → sound n.head.lent x ts c m ≡ false → Lost n m b
  unfit : (x : Mode) (ts : List Frame) (c : Cursor) (l : Memory) → state_of n m ≡ wait x ts c m → sound n.head.lent x ts c m ≡ true → c.at < message_limit
      → act x b ts (taken c) m ≡ over (refused refusals.lost 0 0 l) → Lost n m b

-- only 12 is 12
only-lost : {b p n told place : ℕ} (m : Memory) → RefusedBy b p n told place → n ≡ refusals.lost → (l : Memory) × (over (refused n told place m) ≡ over (refused refusals.lost 0 0 l))
only-lost m (unknown h e) q = clash cc
only-lost m (absent e) q = clash cc
only-lost m (unfinished e) q = clash cc
only-lost m (external e) q = clash cc
only-lost m (undated e) q = clash cc
only-lost m (invalid e) q = clash cc
only-lost m (deep e) q = clash cc
only-lost m (full h e) q = clash cc
only-lost m astrays q = (m, refl)

-- what a byte made of a sound state answers 12 only if it is that
act-lost : {b at p : ℕ} {lent : Lent} (n : Numbers) (t : State) (i told place k : ℕ) → b < 2 ^ 8 → Able (Unit {0} × (b < 2 ^ 8)) lent at t → Placed b p t
    → answer_of (state_in (after_step n t)) i ≡ Refused refusals.lost told place k → (l : Memory) × (t ≡ over (refused refusals.lost 0 0 l))
unfolding after_step numbers_of state_of
act-lost n t i told place k o a (placed.waits e) q = clash cc
act-lost n t i told place k o a (placed.finishes {c = c} {m = m} e) q =
    absurd (on-finished (λ s. answer_of s i ≡ Refused refusals.lost told place k → ⊥) n c m (able_finishes a) (λ q. clash cc) q)
act-lost n t i told place k o a (placed.declines {n = number} {told = v} {place = w} {m = m} l r z) q =
    on-refused (λ s. answer_of s i ≡ Refused refusals.lost told place k → (l : Memory) × (over (refused number v w m) ≡ over (refused refusals.lost 0 0 l))) n number v w m
    (λ s q. only-lost m r cc) (λ f q. absurd (f (able_says a (tt, o)))) q

-- 11 is not 12
limit-lost : (n : Numbers) (m : Memory) (i at told place k : ℕ) → at ≡ message_limit
    → answer_of (state_in (after_step n (over (refused refusals.too_long 0 at m)))) i ≡ Refused refusals.lost told place k → ⊥
limit-lost n m i at told place k e q =
    on-refused (λ s. answer_of s i ≡ Refused refusals.lost told place k → ⊥) n refusals.too_long 0 at m (λ s q. clash cc) (λ f q. f (long-said at e)) q

-- a waiting state
lost-wait : (n : Numbers) (m : Memory) (b i told place k : ℕ) (x : Mode) (ts : List Frame) (c : Cursor) → b < 2 ^ 8 → state_of n m ≡ wait x ts c m
    → answer_of (state_in (after_step n (sound_step n.head.lent b (wait x ts c m)))) i ≡ Refused refusals.lost told place k → Lost n m b
unfolding sound_step step
lost-wait n m b i told place k x ts c o e q = on_bool (sound n.head.lent x ts c m)
    (λ s. on_bool (leb message_limit c.at)
    (λ f. absurd (limit-lost n (zeroed m) i c.at told place k (at-limit s f) (rw (s, f) at q)))
    (λ f. let (l, r) = act-lost n (act x b ts (taken c) m) i told place k o (able_act n.head.lent b x ts c m s f) (placed-act x ts (taken c) m refl) (rw (s, f) at q)
    in unfit x ts c l e s (leb-false message_limit c.at f) r))
    (λ s. unsound x ts c e s)
  where
    at-limit : sound n.head.lent x ts c m ≡ true → leb message_limit c.at ≡ true → c.at ≡ message_limit
    at-limit s f = let w = (good-waits (good-sound n.head.lent x ts c m s)).0.within in omega (arith, leb-true)

-- a state that has not ended
lost-going : (n : Numbers) (m : Memory) (b i told place k : ℕ) (s : State) → b < 2 ^ 8 → state_of n m ≡ s → memory_of s ≡ m → Going s
    → answer_of (state_in (byte_step b (held n m))) i ≡ Refused refusals.lost told place k → Lost n m b
unfolding byte_step
lost-going n m b i told place k s o e h (waiting {x = x} {ts = ts} {c = c} {m = l}) q =
    let f : state_of n m ≡ wait x ts c m = e ∙ ap (λ l. wait x ts c l) h in
    lost-wait n m b i told place k x ts c o f (rw f at q)
lost-going n m b i told place k s o e h (unbegun {m = l}) q = never (e ∙ ap (λ l. none l) h)

-- and so through the call
pub lost-only : (n : Numbers) (m : Memory) (b told place k : ℕ) → b < 2 ^ 8 → Going (state_of n m)
    → answer_in (feed_call n m (b ∷ [])) ≡ Refused refusals.lost told place k → Lost n m b
unfolding feed_call run_held
lost-only n m b told place k o g e =
    lost-going n m b (taken_by (held n m) (b ∷ [])) told place k (state_of n m) o refl (memory-of n m) g
    (sym (answer-of (byte_step b (held n m)) (taken_by (held n m) (b ∷ []))) ∙ e)
