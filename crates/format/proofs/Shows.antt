-- Along a run from the beginning the state is sound, so that the step on its numbers is the step; and the numbers show the state.
use mathlib.Core.Path.{◌≡◌, refl, sym, ap, ◌∙◌}
use mathlib.Core.Bool.{Bool, true, false, ◌&&◌, ◌||◌}
use mathlib.Core.List.{List, [], ◌∷◌}
use Prim.Native.Nat.{ℕ, suc, ◌+◌, ◌^◌, ◌≤◌, ◌<◌}
use native.Mathlib.Nat.{add-zero, zero-add, add_assoc}
use native.Mathlib.Omega.{arith}
use lib.Dec.{leb, ltb, eqb}
use lib.ListN.{length, length-replicate}
use borrow.Author.Tests.{leb-true, ltb-true, eqb-true, eqb-false, le-leb, lt-ltb, eq-eqb, ne_eqb}
use Rattle.rows.specs.declared.Cursor.{Cursor}
use Rattle.rows.specs.declared.Key.{Key}
use Rattle.rows.specs.Memory.{Memory, fault_of, message_limit, open_limit, span, span_used}
use Rattle.wire.proofs.Octets.{Bytes}
use Rattle.rows.specs.declared.lent.Lent.{Lent}
use Rattle.format.specs.declared.Frame.{Frame}
use Rattle.format.specs.Step.{assoc, dynamics, Use, for_string, for_key, for_class, for_external, for_name, for_vector, xml_text, table_text}
use Rattle.format.specs.Step.{Word, integer_word, object_word, size_word, text_word, Number, double_bits, date_bits, raw_flag, objects_flag, dictionary_flag}
use Rattle.format.specs.Step.{Mode, at_marker, at_word, at_number, at_flag, at_text, at_raw, astray, State, wait, over, none, step, run, begin}
use Rattle.format.specs.Numbers.{counts_fit, use_fits, word_fits, number_row, mode_fits, pairs_used, pairs_fit, depth_fits, finishable, frames_size}
use Rattle.format.specs.Numbers.{Numbers, lent_of, same_lent, sound, sound_step, Held, held, state_of, numbers_of, memory_of, after_step, stepped, byte_step}
use Rattle.format.specs.Answers.{blank, run_held, cost_from, state_in, taken_by}
use Rattle.format.proofs.Tests.{on_bool, both, clash}
use Rattle.format.proofs.Used.{Counts, KeyIn, UseIn, WordIn, NumberIn, ModeIn, WorkIn, PairsUsed, PairsIn}
use Rattle.format.proofs.Kept.{Holds, fault_in, fault-in, holds-finishable}
use Rattle.format.proofs.Along.{Good, waits, finishes, declines, Able, awaits, able_good, able_less, able_lends, good_able, Fits, lends-zeroed}
use Rattle.format.proofs.Along.{good-step, lends_step, takes, able_run, good-begin}
use Rattle.format.proofs.Stacked as stack
use Rattle.format.proofs.Stacked.{Stacked, mode-pairs, stacked-step, stacked-run, stacked-begin}
use Rattle.format.proofs.States.{Shown, state-numbered, length-laid}
use Rattle.format.specs.Refusals as no

-- ---- a test, and what it tests

record Tests (t : Bool) (P : Type 0) : Type 0 where
  says : P → t ≡ true
  said : t ≡ true → P

tests_self : (t : Bool) → Tests t (t ≡ true)
tests_self t = record { says = λ e. e; said = λ e. e }

tests_le : (a b : ℕ) → Tests (leb a b) (a ≤ b)
tests_le a b = record { says = le-leb a b; said = leb-true a b }

tests_lt : (a b : ℕ) → Tests (ltb a b) (a < b)
tests_lt a b = record { says = lt-ltb a b; said = ltb-true a b }

tests_eq : (a b : ℕ) → Tests (eqb a b) (a ≡ b)
tests_eq a b = record { says = eq-eqb a b; said = eqb-true a b }

tests-and : {t u : Bool} {P Q : Type 0} → Tests t P → Tests u Q → Tests (t && u) (P × Q)
tests-and {t} {u} p q =
    record { says = λ (a, b). rw (p.says a, q.says b); said = λ e. (let (a, b) = both t u e in (p.said a, q.said b)) }

tests_always : Tests true (Unit {0})
tests_always = record { says = λ h. refl; said = λ e. tt }

tests-never : Tests false ⊥
tests-never = record { says = λ h. absurd h; said = λ e. clash cc }

ruleset testing = (tests_le, tests_lt, tests_eq, tests-and)

-- ---- sound

tests-depth : (x : Mode) (n : ℕ) → Tests (depth_fits x n) (Fits x n)
tests-depth (at_marker k) n = search testing
tests-depth (at_word w left part) n = search testing
tests-depth (at_number d left part) n = search testing
tests-depth (at_flag f) n = search testing
tests-depth (at_text x s left test) n = search testing
tests-depth (at_raw r s left) n = search testing
tests-depth astray n = tests-never

tests-counts : (c : Cursor) (m : Memory) → Tests (counts_fit c m) (Counts (lent_of m) c)
unfolding counts_fit lent_of
tests-counts c m = search testing depth 8

tests_use : (u : Use) (c : Cursor) → Tests (use_fits c u) (UseIn u c)
unfolding use_fits
tests_use (for_string row) c = search testing
tests_use (for_key (assoc row n done)) c = search testing
tests_use (for_key (dynamics row done)) c = search testing
tests_use (for_class row n y) c = search testing
tests_use for_external c = tests_always
tests_use (for_name row t n) c = search testing
tests_use (for_vector row n) c = search testing

tests-word : (w : Word) (c : Cursor) → Tests (word_fits c w) (WordIn w c)
unfolding word_fits
tests-word (integer_word row) c = search testing
tests-word (object_word row) c = search testing
tests-word (size_word row body) c = search testing
tests-word (text_word u) c = tests_use u c

tests-number : (d : Number) (c : Cursor) → Tests (ltb (number_row d) c.rows) (NumberIn d c)
tests-number (double_bits row) c = search testing
tests-number (date_bits row) c = search testing

-- a key's span is asked for where its mark isn't 0
tests-key : (k : Key) (c : Cursor) → Tests (eqb k.mark 0 || span_used c (span k.begin k.size)) (KeyIn k c)
tests-key k c = record { says = λ h. on_bool (eqb k.mark 0) (λ e. rw e) (λ e. rw (e, le-leb _ c.store (h (marked e)))); said = of }
  where
    marked : eqb k.mark 0 ≡ false → 0 < k.mark
    marked e = omega (arith, eqb-false k.mark 0 e)

    of : (eqb k.mark 0 || span_used c (span k.begin k.size)) ≡ true → KeyIn k c
    of e h = leb-true _ c.store (rw (ne_eqb k.mark 0 (λ z. omega arith)) at e)

tests-mode : (x : Mode) (c : Cursor) → Tests (mode_fits c x) (ModeIn x c)
unfolding mode_fits
tests-mode (at_marker k) c = tests-key k c
tests-mode (at_word w left part) c = search (testing, tests-word)
tests-mode (at_number d left part) c = search (testing, tests-number)
tests-mode (at_flag (raw_flag row w s)) c = search testing
tests-mode (at_flag (objects_flag row n)) c = search testing
tests-mode (at_flag (dictionary_flag row n)) c = search testing
tests-mode (at_text (xml_text row) s left test) c = search testing
tests-mode (at_text (table_text u) s left test) c = search (testing, tests_use)
tests-mode (at_raw r s left) c = search testing
tests-mode astray c = tests-never

tests-used : (u : Use) (c : Cursor) → Tests (pairs_used c u) (PairsUsed u c)
tests-used (for_string row) c = tests_always
tests-used (for_key (assoc row n done)) c = search testing
tests-used (for_key (dynamics row done)) c = search testing
tests-used (for_class row n y) c = tests_always
tests-used for_external c = tests_always
tests-used (for_name row t n) c = tests_always
tests-used (for_vector row n) c = tests_always

tests-pairs : (x : Mode) (c : Cursor) → Tests (pairs_fit c x) (PairsIn x c)
tests-pairs (at_marker k) c = tests_always
tests-pairs (at_word (integer_word row) left part) c = tests_always
tests-pairs (at_word (object_word row) left part) c = tests_always
tests-pairs (at_word (size_word row body) left part) c = tests_always
tests-pairs (at_word (text_word u) left part) c = tests-used u c
tests-pairs (at_number d left part) c = tests_always
tests-pairs (at_flag f) c = tests_always
tests-pairs (at_text (xml_text row) s left test) c = tests_always
tests-pairs (at_text (table_text u) s left test) c = tests-used u c
tests-pairs (at_raw r s left) c = tests_always
tests-pairs astray c = tests_always

-- the loans, the place and the mode; and the pairs done
abbrev SoundIn : Lent → Mode → List Frame → Cursor → Memory → Type 0
SoundIn lent x ts c m =
    (((((same_lent (lent_of m) lent ≡ true) × (fault_of m ≡ 0)) × (c.at ≤ message_limit)) × Fits x (length ts)) × Counts (lent_of m) c) × ModeIn x c

tests-sound : (lent : Lent) (x : Mode) (ts : List Frame) (c : Cursor) (m : Memory) → Tests (sound lent x ts c m) (SoundIn lent x ts c m × PairsIn x c)
unfolding sound
tests-sound lent x ts c m = search (testing, tests_self, tests-depth, tests-counts, tests-mode, tests-pairs) depth 9

same-lent : (l : Lent) → same_lent l l ≡ true
unfolding same_lent
same-lent l =
    rw (
      eq-eqb l.rows l.rows refl,
      eq-eqb l.store l.store refl,
      eq-eqb l.strings l.strings refl,
      eq-eqb l.objects l.objects refl,
      eq-eqb l.traits l.traits refl,
      eq-eqb l.names l.names refl,
    )

pub sound-holds : {lent : Lent} {at : ℕ} (x : Mode) (ts : List Frame) (c : Cursor) (m : Memory) → Holds lent at c m → Fits x (length ts) → ModeIn x c
    → PairsIn x c → sound lent x ts c m ≡ true
sound-holds {lent} x ts c m h f u p =
    let z : fault_of m ≡ 0 = sym (fault-in m) ∙ ap fault_in h.lends ∙ h.clean in
    let s : same_lent (lent_of m) lent ≡ true = rw h.lends (same-lent lent) in
    let n : Counts (lent_of m) c = rw h.lends h.counts in
    (tests-sound lent x ts c m).says ((((((s, z), omega arith), f), n), u), p)

-- of a waiting state over stacked frames
stacked-waits : {x : Mode} {ts : List Frame} {c : Cursor} {m : Memory} → Stacked (wait x ts c m) → PairsIn x c
stacked-waits (stack.waits {x = x} {ts = ts} {c = c} h) = mode-pairs x ts c h

pub sound-step : {lent : Lent} {at : ℕ} (b : ℕ) (s : State) → Good lent at s → Stacked s → sound_step lent b s ≡ step b s
unfolding sound_step step
sound-step b s (waits {x = x} {ts = ts} {c = c} {m = m} h f u) k = rw (sound-holds x ts c m h f u (stacked-waits k))
sound-step b s (finishes h) k = refl
sound-step b s (declines t h z) k = refl

-- ---- the numbers show the state

abbrev pub numbers_in : Held → Numbers
numbers_in (held n m) = n

abbrev pub memory_in : Held → Memory
memory_in (held n m) = m

-- numbers and loans that show a state, so many bytes taken, over frames for as many values as may open
pub record Shows (lent : Lent) (at : ℕ) (s : State) (h : Held) : Type 0 where
  pub shown : state_in h ≡ s
  pub good : Good lent at s
  pub stacked : Stacked s
  pub lengths : (numbers_in h).head.lent ≡ lent
  pub room : length (numbers_in h).frames ≡ frames_size

pub good-shown : {lent : Lent} {at : ℕ} (s : State) → Good lent at s → Shown s
good-shown s (waits {x = x} {ts = ts} h f u) = few x (length ts) f
  where
    few : (x : Mode) (n : ℕ) → Fits x n → n ≤ open_limit
    few (at_marker k) n h = h
    few (at_word w left part) n h = omega arith
    few (at_number d left part) n h = omega arith
    few (at_flag f) n h = omega arith
    few (at_text x s left test) n h = omega arith
    few (at_raw r s left) n h = omega arith
    few astray n h = absurd h
good-shown s (finishes h) = holds-finishable h
good-shown s (declines t h z) = t

lengths-numbered : {lent : Lent} {at : ℕ} (n : Numbers) (s : State) → Good lent at s → (numbers_of n s).head.lent ≡ n.head.lent
unfolding numbers_of
lengths-numbered n s (waits h f u) = refl
lengths-numbered n s (finishes h) = refl
lengths-numbered n s (declines t h z) = refl

room-numbered : {lent : Lent} {at : ℕ} (n : Numbers) (s : State) → Good lent at s → length (numbers_of n s).frames ≡ length n.frames
unfolding numbers_of
room-numbered n s (waits h f u) = length-laid n.frames _
room-numbered n s (finishes h) = refl
room-numbered n s (declines t h z) = refl

pub shows-after : {lent : Lent} {at : ℕ} (n : Numbers) (s : State) → Good lent at s → Stacked s → n.head.lent ≡ lent → length n.frames ≡ frames_size
    → Shows lent at s (after_step n s)
unfolding after_step
shows-after n s g k l r =
    record {
      shown = state-numbered n s r (good-shown s g);
      good = g;
      stacked = k;
      lengths = lengths-numbered n s g ∙ l;
      room = room-numbered n s g ∙ r;
    }

shows-stepped : {lent : Lent} {at : ℕ} (b : ℕ) (s : State) (n : Numbers) (m : Memory) → b < 2 ^ 8 → Shows lent at s (held n m) → Good lent at s
    → Shows lent (at + cost_from s (step b s)) (step b s) (stepped n m b s)
unfolding step
shows-stepped b s n m hb h (waits {x = x} {ts = ts} {c = c} {m = k} p f u) =
    let q : sound_step n.head.lent b (wait x ts c k) ≡ step b (wait x ts c k) =
    ap (λ l. sound_step l b (wait x ts c k)) h.lengths ∙ sound-step b (wait x ts c k) (waits p f u) h.stacked in
    rw q
    (shows-after n (step b (wait x ts c k)) (good-step b (wait x ts c k) hb (waits p f u)) (stacked-step b (wait x ts c k) h.stacked) h.lengths h.room)
shows-stepped b s n m hb h (finishes p) = rw add-zero h
shows-stepped b s n m hb h (declines t p z) = rw add-zero h

pub shows-step : {lent : Lent} {at : ℕ} (b : ℕ) (s : State) (h : Held) → b < 2 ^ 8 → Shows lent at s h
    → Shows lent (at + cost_from s (step b s)) (step b s) (byte_step b h)
unfolding byte_step
shows-step b s (held n m) hb h = rw h.shown (shows-stepped b s n m hb h h.good)

pub shows-run : {lent : Lent} {at : ℕ} (s : State) (h : Held) (bs : List ℕ) → Bytes bs → Shows lent at s h
    → Shows lent (at + takes s bs) (run s bs) (run_held h bs)
unfolding run takes run_held
shows-run s h [] o k = rw add-zero k
shows-run {at} s h (b ∷ bs) o k =
    rw (← add_assoc) (shows-run {at = at + cost_from s (step b s)} (step b s) (byte_step b h) bs (λ i. o (suc i)) (shows-step b s h (o 0) k))

-- the bytes taken are those that the run takes
pub taken-run : {lent : Lent} {at : ℕ} (s : State) (h : Held) (bs : List ℕ) → Bytes bs → Shows lent at s h → taken_by h bs ≡ takes s bs
unfolding takes taken_by
taken-run s h [] o k = refl
taken-run {at} s h (b ∷ bs) o k =
    let l = shows-step b s h (o 0) k in
    rw (k.shown, l.shown, taken-run {at = at + cost_from s (step b s)} (step b s) (byte_step b h) bs (λ i. o (suc i)) l)

-- the numbers that the first call leaves show the beginning
pub shows-begin : (m : Memory) → Shows (lent_of m) 0 (begin m) (after_step (blank (lent_of m)) (begin m))
shows-begin m = shows-after (blank (lent_of m)) (begin m) (good-begin m) (stacked-begin m) refl (length-replicate {A = ℕ} frames_size 0)

-- ---- the laws along a run from the beginning

-- with every byte one, or without
pub able_along : (m : Memory) (bs : List ℕ) → Able (Bytes bs) (lent_of m) (takes (begin m) bs) (run (begin m) bs)
able_along m bs = able_less (run (begin m) bs) (λ o. (tt, o)) (rw zero-add at (able_run (begin m) bs (good_able (begin m) (good-begin m))))

pub good_along : (m : Memory) (bs : List ℕ) → Bytes bs → Good (lent_of m) (takes (begin m) bs) (run (begin m) bs)
good_along m bs o = able_good (run (begin m) bs) o (able_along m bs)

pub stacked_along : (m : Memory) (bs : List ℕ) → Stacked (run (begin m) bs)
stacked_along m bs = stacked-run (begin m) bs (stacked-begin m)

-- what a waiting state has
pub good-waits : {lent : Lent} {at : ℕ} {x : Mode} {ts : List Frame} {c : Cursor} {m : Memory} → Good lent at (wait x ts c m)
    → Holds lent at c m × Fits x (length ts) × ModeIn x c
good-waits (waits h f u) = (h, f, u)

pub able_waits : {B : Type 0} {lent : Lent} {at : ℕ} {x : Mode} {ts : List Frame} {c : Cursor} {m : Memory} → Able B lent at (wait x ts c m)
    → Holds lent at c m × Fits x (length ts) × WorkIn x c
able_waits (awaits h f u p) = (h, f, u)

-- a waiting state has no more values open than may be, one less inside a value
pub fits_along : (m : Memory) (bs : List ℕ) (x : Mode) (ts : List Frame) (c : Cursor) (k : Memory) → run (begin m) bs ≡ wait x ts c k → Fits x (length ts)
fits_along m bs x ts c k e = (able_waits (rw e at (able_along m bs))).1

module _ (m : Memory) (bs : List ℕ) (o : Bytes bs) where
  -- it is sound
  pub sound_along : (x : Mode) (ts : List Frame) (c : Cursor) (k : Memory) → run (begin m) bs ≡ wait x ts c k → sound (lent_of m) x ts c k ≡ true
  sound_along x ts c k e =
      let g = good-waits (rw e at (good_along m bs o)) in
      sound-holds x ts c k g.0 g.1 g.2 (stacked-waits (rw e at (stacked_along m bs)))

  -- so that the step on every state is the step
  pub step_along : (b : ℕ) → sound_step (lent_of m) b (run (begin m) bs) ≡ step b (run (begin m) bs)
  step_along b = sound-step b (run (begin m) bs) (good_along m bs o) (stacked_along m bs)

-- ---- whatever the numbers and the loans, a byte keeps the loans' lengths

-- the run keeps them
pub lengths_along : (m : Memory) (bs : List ℕ) → lent_of (memory_of (run (begin m) bs)) ≡ lent_of m
lengths_along m bs = able_lends (run (begin m) bs) (able_along m bs)

-- a sound state is good, and its pairs done are used
pub good-sound : (lent : Lent) (x : Mode) (ts : List Frame) (c : Cursor) (m : Memory) → sound lent x ts c m ≡ true → Good (lent_of m) c.at (wait x ts c m)
good-sound lent x ts c m e =
    let ((((((s, z), w), f), n), u), p) = (tests-sound lent x ts c m).said e in
    waits (record { lends = refl; clean = fault-in m ∙ z; place = refl; within = w; counts = n }) f u

pub pairs-sound : (lent : Lent) (x : Mode) (ts : List Frame) (c : Cursor) (m : Memory) → sound lent x ts c m ≡ true → PairsIn x c
pairs-sound lent x ts c m e = ((tests-sound lent x ts c m).said e).1

-- of a state that only lacks the pairs, they decide
pub sound-pairs : {lent : Lent} {at : ℕ} (x : Mode) (ts : List Frame) (c : Cursor) (m : Memory) → Holds lent at c m → Fits x (length ts) → ModeIn x c
    → sound lent x ts c m ≡ pairs_fit c x
sound-pairs {lent} x ts c m h f u = on_bool (pairs_fit c x)
    (λ e. sound-holds x ts c m h f u ((tests-pairs x c).said e) ∙ sym e)
    (λ e. on_bool (sound lent x ts c m) (λ s. s ∙ sym ((tests-pairs x c).says (pairs-sound lent x ts c m s))) (λ s. s ∙ sym e))

pub lengths-sound : (lent : Lent) (b : ℕ) (s : State) → lent_of (memory_of (sound_step lent b s)) ≡ lent_of (memory_of s)
unfolding sound_step step
lengths-sound lent b (wait x ts c m) = on_bool (sound lent x ts c m)
    (λ e. rw e (lends_step b (wait x ts c m) (good-sound lent x ts c m e)))
    (λ e. rw e (lends-zeroed (lent_of m) m refl))
lengths-sound lent b (over e) = refl
lengths-sound lent b (none m) = lends-zeroed (lent_of m) m refl

-- the loans of a state are those that it is read with
pub memory-of : (n : Numbers) (m : Memory) → memory_of (state_of n m) ≡ m
unfolding state_of
memory-of n m = on_bool (eqb n.head.status 1) (λ e. rw e) (λ e. rw e
    (on_bool (eqb n.head.status 2 && finishable n.head.cursor) (λ e. rw e) (λ e. rw e
    (on_bool (eqb n.head.status 3 && no.sayable n.head.number n.head.told n.head.place) (λ e. rw e) (λ e. rw e)))))

lengths-stepped : (n : Numbers) (m : Memory) (b : ℕ) (s : State) → memory_of s ≡ m → lent_of (memory_in (stepped n m b s)) ≡ lent_of m
unfolding after_step
lengths-stepped n m b (over e) q = refl
lengths-stepped n m b (wait x ts c k) q = lengths-sound n.head.lent b (wait x ts c k) ∙ ap lent_of q
lengths-stepped n m b (none k) q = lends-zeroed (lent_of k) k refl ∙ ap lent_of q

pub lengths-byte : (b : ℕ) (h : Held) → lent_of (memory_in (byte_step b h)) ≡ lent_of (memory_in h)
unfolding byte_step
lengths-byte b (held n m) = lengths-stepped n m b (state_of n m) (memory-of n m)

pub lengths-run : (h : Held) (bs : List ℕ) → lent_of (memory_in (run_held h bs)) ≡ lent_of (memory_in h)
unfolding run_held
lengths-run h [] = refl
lengths-run h (b ∷ bs) = lengths-run (byte_step b h) bs ∙ lengths-byte b h
