-- A refusal by a limit, or for want of room, carries its reason: the bytes before the deciding one left the reading waiting. At 9 it waited for a marker with as
-- many values open as can be; at 10 the byte asked for an entry, or for bytes, of a loan that had no more of them; at 11 as many bytes were taken as can be.
use mathlib.Core.Path.{◌≡◌, refl, sym, ap, ◌∙◌}
use mathlib.Core.Bool.{true, cond}
use mathlib.Core.List.{List, [], ◌∷◌, ◌++◌}
use Prim.Native.Nat.{ℕ, zero, suc, ◌+◌, ◌≤◌, ◌<◌}
use native.Mathlib.Omega.{arith}
use lib.Dec.{leb, eqb}
use native.Mathlib.Nat.{add-zero, zero-add}
use lib.ListN.{length, length-append}
use borrow.Author.Tests.{leb-true, leb-false}
use Rattle.rows.specs.declared.Cursor.{Cursor}
use Rattle.rows.specs.Memory.{Memory, zeroed, fault_of, message_limit}
use Rattle.format.specs.declared.Frame.{Frame}
use Rattle.rows.specs.declared.lent.Lent.{Lent}
use Rattle.format.specs.Step.{Use, Mode, at_marker, at_word, at_number, at_flag, at_text, at_raw, astray, State, wait, over, none, act, step, run, begin, begin_at, end}
use Rattle.format.specs.Reading.{refused, taken, reading}
use Rattle.format.specs.Numbers.{lent_of}
use Rattle.format.proofs.Tests.{on_bool, clash}
use Rattle.format.proofs.Reasons.{There, by_text, by_number, by_none, Lacks, no_row, no_store, no_string, no_object, no_trait, no_name, Deep, Refusal, unknown, absent, unfinished, external, undated}
use Rattle.format.proofs.Reasons.{malformed, astrays, reasons_act}
use Rattle.format.proofs.Reasons as reasons
use Rattle.format.proofs.Placed.{Placed, placed-act}
use Rattle.format.proofs.Placed as placed
use Rattle.format.proofs.Feeding.{feeding}
use Rattle.format.proofs.Cuts.{run-over}
use Rattle.format.proofs.Used.{Counts}
use Rattle.format.proofs.Along.{Fits}
use Rattle.format.proofs.Shows.{able_along, able_waits}
use Rattle.format.specs.Refusals as no
pub use Rattle.format.specs.Limits.{Awaits, Limit, deep, full, long}

-- ---- why

-- so there is a byte more than those before it
awaits-length : {m : Memory} {bs before : List ℕ} {b : ℕ} {x : Mode} {ts : List Frame} {c : Cursor} → Awaits m bs before b x ts c → length before < length bs
awaits-length {before = before} {b = b} w = rw w.split (omega (arith, length-append before (b ∷ w.after)))

-- and no more is used than is lent: where all are used, as many are
pub awaits-counts : {m : Memory} {bs before : List ℕ} {b : ℕ} {x : Mode} {ts : List Frame} {c : Cursor} → Awaits m bs before b x ts c → Counts (lent_of m) c
awaits-counts {m = m} {before = before} w = let (h, f, u) = able_waits (rw w.waiting at (able_along m before)) in h.counts

-- such a refusal is 9, 10 or 11
pub limit-most : {m : Memory} {bs : List ℕ} {n told place : ℕ} → Limit m bs n told place → (no.too_deep ≤ n) × (n ≤ no.too_long)
limit-most (deep w l h k) = (omega arith, omega arith)
limit-most (full w l h) = (omega arith, omega arith)
limit-most (long w l) = (omega arith, omega arith)

-- its place lies in the bytes, and within the limit: 9 and 10 after the byte, and 11 before it
pub limit-place : {m : Memory} {bs : List ℕ} {n told place : ℕ} → Limit m bs n told place → (1 ≤ place) × (place ≤ length bs) × (place ≤ message_limit)
unfolding message_limit
limit-place (deep w l h k) = let e = awaits-length w in (omega arith, omega arith, omega arith)
limit-place (full w l h) = let e = awaits-length w in (omega arith, omega arith, omega arith)
limit-place (long w l) = let e = awaits-length w in (omega arith, omega arith, omega arith)

-- 9 and 11 tell nothing, 10 a loan
pub limit-told : {m : Memory} {bs : List ℕ} {n told place : ℕ} → Limit m bs n told place → cond (eqb n no.no_room) (no.is_loan told) (eqb told 0) ≡ true
limit-told (deep w l h k) = refl
limit-told (full w l (no_row h e)) = refl
limit-told (full w l (no_store h i e)) = refl
limit-told (full w l (no_string h e)) = refl
limit-told (full w l (no_object h i e)) = refl
limit-told (full w l (no_trait h i j e)) = refl
limit-told (full w l (no_name h i e)) = refl
limit-told (long w l) = refl

-- at 11 there are more bytes than can be taken
pub limit-long : {m : Memory} {bs : List ℕ} {told place : ℕ} → Limit m bs no.too_long told place → message_limit < length bs
limit-long (long w l) = let e = awaits-length w in omega arith

-- ---- the deciding byte of a run

-- a state that waits waits at a place
abbrev At : ℕ → State → Type 0
At n (wait x ts c m) = c.at ≡ n
At n (over e) = Unit
At n (none m) = Unit

-- and so one more after a byte, and after all of them
at-placed : {b n : ℕ} (s : State) → Placed b n s → At n s
at-placed s (placed.waits e) = e
at-placed s (placed.finishes e) = tt
at-placed s (placed.declines k r z) = tt

at-step : (b n : ℕ) (s : State) → At n s → At (suc n) (step b s)
unfolding step
at-step b n (wait x ts c m) e =
    on_bool (leb message_limit c.at) (λ h. rw h tt) (λ h. rw h (at-placed (act x b ts (taken c) m) (placed-act {b = b} {p = suc n} x ts (taken c) m (ap suc e))))
at-step b n (over e) h = tt
at-step b n (none m) h = tt

at-run : (bs : List ℕ) (n : ℕ) (s : State) → At n s → At (n + length bs) (run s bs)
unfolding run
at-run [] n s h = rw add-zero h
at-run (b ∷ bs) n s h = let e : n + length (b ∷ bs) ≡ suc n + length bs = omega arith in rw e (at-run bs (suc n) (step b s) (at-step b n s h))

at-begin : (m : Memory) → At 0 (begin m)
unfolding begin
at-begin m = by-fault (fault_of m)
  where
    by-fault : (fault : ℕ) → At 0 (begin_at fault m)
    by-fault zero = refl
    by-fault (suc loan) = tt

-- a run that was refused, and not for want of a state: the bytes before the deciding one, and what they left waiting
record Decided (s : State) (bs : List ℕ) (n told place : ℕ) : Type 0 where
  before : List ℕ
  byte : ℕ
  after : List ℕ
  mode : Mode
  frames : List Frame
  cursor : Cursor
  loans : Memory
  left : Memory
  split : bs ≡ before ++ byte ∷ after
  waiting : run s before ≡ wait mode frames cursor loans
  stopped : step byte (wait mode frames cursor loans) ≡ over (refused n told place left)

-- what was never begun is lost
run_none : (bs : List ℕ) (m : Memory) (n told place : ℕ) (k : Memory) → run (none m) bs ≡ over (refused n told place k) → n ≡ no.lost
unfolding run step
run_none [] m n told place k e = clash cc
run_none (b ∷ bs) m n told place k e = let f : over (refused no.lost 0 0 (zeroed m)) ≡ over (refused n told place k) = sym (run-over _ bs) ∙ e in cc

-- a refused run from a state that waits
decided : (bs : List ℕ) (x : Mode) (ts : List Frame) (c : Cursor) (m : Memory) (n told place : ℕ) (k : Memory)
    → run (wait x ts c m) bs ≡ over (refused n told place k) → n ≤ no.too_long → Decided (wait x ts c m) bs n told place
unfolding run
decided [] x ts c m n told place k e l = clash cc
decided (b ∷ bs) x ts c m n told place k e l = next (λ y us d o r. decided bs y us d o n told place k r l) (step b (wait x ts c m)) refl e
  where
    next : ((y : Mode) (us : List Frame) (d : Cursor) (o : Memory) → run (wait y us d o) bs ≡ over (refused n told place k) → Decided (wait y us d o) bs n told place)
        → (s : State) → step b (wait x ts c m) ≡ s → run s bs ≡ over (refused n told place k) → Decided (wait x ts c m) (b ∷ bs) n told place
    next more (wait y us d o) q r =
        let v = more y us d o r in
        record {
          before = b ∷ v.before;
          byte = v.byte;
          after = v.after;
          mode = v.mode;
          frames = v.frames;
          cursor = v.cursor;
          loans = v.loans;
          left = v.left;
          split = ap (λ z. b ∷ z) v.split;
          waiting = rw q v.waiting;
          stopped = v.stopped;
        }
    next more (over f) q r =
        record {
          before = [];
          byte = b;
          after = bs;
          mode = x;
          frames = ts;
          cursor = c;
          loans = m;
          left = k;
          split = refl;
          waiting = refl;
          stopped = q ∙ sym (run-over f bs) ∙ r;
        }
    next more (none o) q r = let z = run_none bs o n told place k r in absurd (omega arith)

-- ---- the reasons

-- a string that is there, by the loans that were lent and the cursor before the byte
there-lent : {c : Cursor} {k m : Memory} {b : ℕ} {x : Mode} {u : Use} → lent_of k ≡ lent_of m → There (taken c) k b x u → There c m b x u
unfolding lent_of
there-lent {k = k} {m = m} e (by_text h l) = let q : length k.strings ≡ length m.strings = ap (λ (l : Lent). l.strings) e in by_text h (rw q at l)
there-lent e (by_number h i l) = by_number h i l
there-lent e (by_none h i) = by_none h i

-- and what is lacking
lacks-lent : {c : Cursor} {k m : Memory} {b loan : ℕ} {x : Mode} → lent_of k ≡ lent_of m → Lacks (taken c) k b x loan → Lacks c m b x loan
unfolding lent_of
lacks-lent {k = k} {m = m} e (no_row h l) = let q : length k.rows ≡ length m.rows = ap (λ (l : Lent). l.rows) e in no_row h (rw q at l)
lacks-lent {k = k} {m = m} e (no_store h i l) =
    let q : length k.store ≡ length m.store = ap (λ (l : Lent). l.store) e in
    let r : length k.objects ≡ length m.objects = ap (λ (l : Lent). l.objects) e in
    no_store h (rw r at i) (rw q at l)
lacks-lent {k = k} {m = m} e (no_string h l) = let q : length k.strings ≡ length m.strings = ap (λ (l : Lent). l.strings) e in no_string h (rw q at l)
lacks-lent {k = k} {m = m} e (no_object h i l) =
    let q : length k.objects ≡ length m.objects = ap (λ (l : Lent). l.objects) e in no_object h i (rw q at l)
lacks-lent {k = k} {m = m} e (no_trait h i j l) =
    let q : length k.traits ≡ length m.traits = ap (λ (l : Lent). l.traits) e in
    let r : length k.names ≡ length m.names = ap (λ (l : Lent). l.names) e in
    no_trait (there-lent e h) i (rw r at j) (rw q at l)
lacks-lent {k = k} {m = m} e (no_name h i l) =
    let q : length k.names ≡ length m.names = ap (λ (l : Lent). l.names) e in no_name (there-lent e h) i (rw q at l)

module _ (m : Memory) (bs : List ℕ) where
  -- a marker, where no more are open than can be
  deep_of : {before : List ℕ} {b : ℕ} {ts : List Frame} {c : Cursor} (x : Mode) → Awaits m bs before b x ts c → length before < message_limit
      → Fits x (length ts) → Deep x b ts → Limit m bs no.too_deep 0 (suc (length before))
  deep_of (at_marker k) a l f (h, i) = deep a l h (omega arith)
  deep_of (at_word w left part) a l f h = absurd h
  deep_of (at_number d left part) a l f h = absurd h
  deep_of (at_flag g) a l f h = absurd h
  deep_of (at_text x s left test) a l f h = absurd h
  deep_of (at_raw r s left) a l f h = absurd h
  deep_of astray a l f h = absurd h

  -- what the byte was refused with, and the state after it
  module _ {before : List ℕ} {b : ℕ} {ts : List Frame} {c : Cursor} {x : Mode} (a : Awaits m bs before b x ts c) (l : length before < message_limit) where
    reason : {n told place : ℕ} (k : Memory) → Fits x (length ts) → lent_of k ≡ lent_of m → no.too_deep ≤ n → n ≤ no.too_long
        → Refusal (Deep x b ts) (Lacks (taken c) k b x) b (suc (length before)) n told place → Limit m bs n told place
    reason k f e lo hi (unknown h q) = absurd (omega arith)
    reason k f e lo hi (absent q) = absurd (omega arith)
    reason k f e lo hi (unfinished q) = absurd (omega arith)
    reason k f e lo hi (external q) = absurd (omega arith)
    reason k f e lo hi (undated q) = absurd (omega arith)
    reason k f e lo hi (malformed q) = absurd (omega arith)
    reason k f e lo hi (reasons.deep d q) = rw q (deep_of x a l f d)
    reason k f e lo hi (reasons.full d q) = rw q (full a l (lacks-lent e d))
    reason k f e lo hi astrays = absurd (omega arith)

    reason-of : {n told place : ℕ} (k o : Memory) (s : State) → Fits x (length ts) → lent_of k ≡ lent_of m → no.too_deep ≤ n → n ≤ no.too_long
        → reasons.Placed (Deep x b ts) (Lacks (taken c) k b x) b (suc (length before)) s → s ≡ over (refused n told place o) → Limit m bs n told place
    reason-of k o s f e lo hi (reasons.waits q) r = clash cc
    reason-of k o s f e lo hi (reasons.finishes q) r = clash cc
    reason-of {n = n} {told = told} {place = place} k o s f e lo hi (reasons.declines {n = n₁} {told = told₁} {place = place₁} d w z) r =
        let i : n₁ ≡ n = cc in
        let j : told₁ ≡ told = cc in
        let h : place₁ ≡ place = cc in
        reason k f e lo hi (rw (i, j, h) at w)

  -- what a reading waits with: its place, as few open as may be, and the lengths of the loans
  ready : (before : List ℕ) (x : Mode) (ts : List Frame) (c : Cursor) (k : Memory) → run (begin m) before ≡ wait x ts c k
      → (c.at ≡ length before) × (c.at ≤ message_limit) × Fits x (length ts) × (lent_of k ≡ lent_of m)
  ready before x ts c k e =
      let (h, f, u) = able_waits (rw e at (able_along m before)) in
      let w = h.within in
      let q = h.place in
      (rw (e, zero-add) at (at-run before 0 (begin m) (at-begin m)), omega arith, f, h.lends)

  -- the deciding byte says why
  because : {n told place : ℕ} → no.too_deep ≤ n → n ≤ no.too_long → Decided (begin m) bs n told place → Limit m bs n told place
  unfolding step
  because {n = n} {told = told} {place = place} lo hi d =
      let c = d.cursor in
      let (p, w, f, e) = ready d.before d.mode d.frames c d.loans d.waiting in
      let a : Awaits m bs d.before d.byte d.mode d.frames c = record { after = d.after; loans = d.loans; split = d.split; waiting = d.waiting } in
      on_bool (leb message_limit c.at)
      (λ h.
      let l = leb-true message_limit c.at h in
      let q : over (refused no.too_long 0 c.at (zeroed d.loans)) ≡ over (refused n told place d.left) = rw h at d.stopped in
      let i : no.too_long ≡ n = cc in
      let j : 0 ≡ told = cc in
      let k : c.at ≡ place = cc in
      let z : place ≡ message_limit = omega arith in
      rw (← i, ← j, z) (long a (omega arith)))
      (λ h.
      let l = leb-false message_limit c.at h in
      let q : act d.mode d.byte d.frames (taken c) d.loans ≡ over (refused n told place d.left) = rw h at d.stopped in
      reason-of a (omega arith) d.loans d.left _ f e lo hi (reasons_act d.frames (taken c) d.loans (ap suc p) d.mode) q)

  -- a reading that is refused with 9, 10 or 11 has met that limit, or filled that loan
  pub limits : {n told place : ℕ} (k : Memory) → fault_of m ≡ 0 → no.too_deep ≤ n → n ≤ no.too_long → reading m bs ≡ refused n told place k → Limit m bs n told place
  unfolding begin end
  limits {n = n} {told = told} {place = place} k fault lo hi e =
      because lo hi (rw fault (decided bs _ _ _ _ n told place k (rw fault at (over-end (run (begin m) bs) (feeding m bs ∙ e))) hi))
    where
      over-end : (s : State) → end s ≡ refused n told place k → s ≡ over (refused n told place k)
      over-end (wait x ts c o) q = let i : no.unexpected_end ≡ n = cc in absurd (omega arith)
      over-end (over f) q = ap over q
      over-end (none o) q = let i : no.lost ≡ n = cc in absurd (omega arith)
