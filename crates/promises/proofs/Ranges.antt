-- The answers of every call, on anything, are those that Named allows; and each of their refusals is one of document 01's.
use mathlib.Core.Path.{◌≡◌, refl, sym, ap, ◌∙◌}
use mathlib.Core.Logic.{◌≢◌}
use mathlib.Core.Bool.{Bool, true, false, cond, ◌&&◌, ◌||◌}
use mathlib.Core.List.{List, [], ◌∷◌}
use Prim.Native.Nat.{ℕ, zero, suc, ◌+◌, ◌≤◌, ◌<◌}
use native.Mathlib.Nat.{zero-add}
use native.Mathlib.Omega.{arith}
use native.Mathlib.Decide.{ℕ_discrete}
use lib.Dec.{T, leb, eqb, lit≤}
use borrow.Author.Tests.{leb-true, eqb-true}
use lib.ListN.{length}
use Rattle.rows.specs.declared.Cursor.{Cursor}
use Rattle.rows.specs.Memory.{Memory, fault_of, loan_fault, faulty, rows_fault, memory, message_most, message_limit, rows_in}
use Rattle.wire.proofs.Octets.{Bytes}
use Rattle.format.specs.Reading.{Ended, finished, refused, reading}
use Rattle.format.specs.Step.{State, wait, over, none, run, end, begin}
use Rattle.format.specs.Numbers.{Numbers, Held, held, finishable, lent_of, state_of, numbers_of, after_step, byte_step}
use Rattle.format.specs.Answers.{answer_of, blank, begin_call, run_held, cost, cost_from, state_in, taken_by, feed_call, end_of, end_call, read_of, read_call}
use Rattle.format.specs.Answers.{written_of, write_call}
use Rattle.rows.specs.declared.lent.Lent.{Lent}
use Rattle.format.specs.RowTest.{Tested, fine, faulty as unfit_row, well_formed, writable, test_from, tested}
use Rattle.format.specs.Writing.{Wrote, writing}
use Rattle.format.proofs.Tests.{on_bool, is_true, both, clash}
use Rattle.format.proofs.Kept.{holds-finishable}
use Rattle.format.proofs.Along.{Good, waits as waiting, finishes as completed, declines as rejected}
use Rattle.format.proofs.Feeding.{feeding}
use Rattle.format.proofs.Shows.{shows-run, shows-begin, good_along, good-waits}
use Rattle.format.proofs.Pieces.{answer_in}
use Rattle.meaning.proofs.Meaning.{never-lost}
use Rattle.format.proofs.Placed.{RefusedBy, unknown, absent, unfinished, external, undated, invalid, deep, full as full_loan, astrays}
use Rattle.promises.proofs.Stands.{Stands, waits, finishes, faulty as faulty_loan, declines, passes, forgets, Octet, every_byte, fault-most}
use Rattle.promises.proofs.Stands.{stands-begin, stands-run}
use Rattle.promises.proofs.Counted.{Waits, waits-all}
use Rattle.promises.proofs.Answered.{answer-of, taken-most, begin-waits, begin-refuses}
use Rattle.format.specs.Claims.{Named, Lendable, BeginSays, FeedSays, EndSays, ReadSays, WriteRefuses, lends, nests, fills, misshapes, empties, unsuits}
use Rattle.format.specs.Claims.{WriteSays, read_answer, write_answer}
use Rattle.meaning.proofs.Writes.{whole as wholly, full, too_deep, full_before, Outcome, fault, unfit, passed, writes}
use Rattle.format.specs.Refusals as refusals
use Rattle.rows.specs.Memory.{loan_rows, loan_store, loan_names, loan_output, row_width, rows_most, store_most}
use Rattle.format.specs.Codes.{status_waiting, status_finished, status_refused}
pub use Rattle.format.specs.Limits.{ReadingEnds, whole, faults, cut, byte, past}

-- ---- each refusal that can be said is one of document 01's

-- a test of numbers, and what it says of the others
on-number : {X : Type 0} (n k : ℕ) → (n ≡ k → eqb n k ≡ true → X) → (eqb n k ≡ false → X) → X
on-number n k f g = on_bool (eqb n k) (λ e. f (eqb-true n k e) e) g

-- both parts of a test, and a test of equality
and_left : (t u : Bool) → T (t && u) → T t
and_left true u h = tt
and_left false u h = h

-- its second part
and_right : (t u : Bool) → T (t && u) → T u
and_right true u h = h
and_right false u h = absurd h

-- a test of equality
same : (a b : ℕ) → T (eqb a b) → a ≡ b
same a b h = eqb-true a b (is_true (eqb a b) h)

-- what a byte decided
told_named : (n told place : ℕ) → T (refusals.tells n told) → Named n told place
unfolding refusals.tells
told_named n told place h =
    on-number n refusals.bad_marker (λ q e. (refusals.unknown_marker told place, sym q, refl, refl)) (λ a.
    on-number n refusals.no_entry (λ q e. (refusals.missing_entry told place, sym q, refl, refl)) (λ b.
    on-number n refusals.open_object (λ q e. (refusals.unfinished_object told place, sym q, refl, refl)) (λ c.
    on-number n refusals.bad_date (λ q e. (refusals.refused_bits told place, sym q, refl, refl)) (λ d.
    on-number n refusals.no_room (λ q e. (refusals.full_loan told place, sym q, refl, refl)) (λ f.
    let t : T ((eqb n refusals.externalizable || eqb n refusals.bad_text || eqb n refusals.too_deep) && eqb told 0) = rw (a, b, c, d, f) at h in
    let z : told ≡ 0 = same told 0 (and_right (eqb n refusals.externalizable || eqb n refusals.bad_text || eqb n refusals.too_deep) (eqb told 0) t) in
    let u = and_left (eqb n refusals.externalizable || eqb n refusals.bad_text || eqb n refusals.too_deep) (eqb told 0) t in
    on-number n refusals.externalizable (λ q e. (refusals.external_class place, sym q, sym z, refl)) (λ i.
    on-number n refusals.bad_text (λ q e. (refusals.invalid_text place, sym q, sym z, refl)) (λ j.
    on-number n refusals.too_deep (λ q e. (refusals.deep_value place, sym q, sym z, refl)) (λ k. absurd (rw (i, j, k) at u)))))))))

-- what a reading can say
pub sayable-named : (n told place : ℕ) → T (refusals.sayable n told place) → Named n told place
unfolding refusals.sayable
sayable-named n told place h =
    on-number n refusals.bad_loan
    (λ q e. (refusals.faulty_loan told, sym q, refl, sym (same place 0 (and_right (refusals.is_loan told) (eqb place 0) (rw e at h))))) (λ a.
    on-number n refusals.unexpected_end (λ q e. (refusals.ended_bytes place, sym q, sym (same told 0 (rw (a, e) at h)), refl)) (λ b.
    on-number n refusals.too_long
    (λ q e. let t : T (eqb told 0 && eqb place message_most) = rw (a, b, e) at h in
    (refusals.long_message, sym q, sym (same told 0 (and_left (eqb told 0) (eqb place message_most) t)), sym (same place message_most (and_right (eqb told 0) (eqb place message_most) t)))) (λ c.
    on-number n refusals.lost
    (λ q e. let t : T (eqb told 0 && eqb place 0) = rw (a, b, c, e) at h in
    (refusals.lost_state, sym q, sym (same told 0 (and_left (eqb told 0) (eqb place 0) t)), sym (same place 0 (and_right (eqb told 0) (eqb place 0) t)))) (λ d.
    let t : T (refusals.tells n told && leb 1 place && leb place message_most) = rw (a, b, c, d) at h in
    told_named n told place (and_left (refusals.tells n told) (leb 1 place) (and_left (refusals.tells n told && leb 1 place) (leb place message_most) t))))))

-- what a writing says
pub write-named : {rows out n told place : ℕ} → WriteRefuses rows out n told place → Named n told place
write-named (lends {loan = loan} h l) = (refusals.faulty_loan loan, refl, refl, refl)
write-named (nests {place = place} h) = (refusals.deep_value place, refl, refl, refl)
write-named {out = out} fills = (refusals.full_loan loan_output out, refl, refl, refl)
write-named (misshapes {row = row} h) = (refusals.malformed_row row, refl, refl, refl)
write-named (empties e) = (refusals.malformed_row 0, refl, refl, refl)
write-named (unsuits {row = row} h) = (refusals.unwritable_row row, refl, refl, refl)

-- ---- begin

-- by the lowest faulty loan
begin-at : (m : Memory) (fault : ℕ) → fault_of m ≡ fault → BeginSays (answer_in (begin_call m))
begin-at m zero e = rw (begin-waits m e) refl
begin-at m (suc loan) e = let l : suc loan ≤ loan_names = rw e at (fault-most m) in rw (begin-refuses m loan e) (refl, omega arith, l, refl, refl)

-- on any loans
pub begin-says : (m : Memory) → BeginSays (answer_in (begin_call m))
begin-says m = begin-at m (fault_of m) refl

-- ---- feed and end, whatever the state and the loans

-- what numbers can say
abbrev Said : State → Type 0
Said (wait x ts c m) = Unit
Said (over (finished c m)) = T (finishable c)
Said (over (refused number told place m)) = T (refusals.sayable number told place)
Said (none m) = Unit

-- whatever the numbers
said : (n : Numbers) (m : Memory) → Said (state_of n m)
unfolding state_of
said n m = on_bool (eqb n.head.status status_waiting) (λ e. rw e tt) (λ e. rw e
    (on_bool (eqb n.head.status status_finished && finishable n.head.cursor) (λ e. rw e (second (eqb n.head.status status_finished) (finishable n.head.cursor) e)) (λ e. rw e
    (on_bool (eqb n.head.status status_refused && refusals.sayable n.head.number n.head.told n.head.place)
    (λ e. rw e (second (eqb n.head.status status_refused) (refusals.sayable n.head.number n.head.told n.head.place) e)) (λ e. rw e tt)))))
  where
    second : (t u : Bool) → (t && u) ≡ true → T u
    second t u e = let q : u ≡ true = (both t u e).1 in rw q tt

-- the same of what is held
said_in : (h : Held) → Said (state_in h)
said_in (held n m) = said n m

-- what is finished uses no more than can be lent
lendable : (c : Cursor) → T (finishable c) → Lendable c.rows c.store
lendable c h =
    let (a, b) = both (leb c.rows rows_most) (leb c.store store_most) (is_true (finishable c) h) in
    (leb-true c.rows rows_most a, leb-true c.store store_most b)

-- what a state answers, so many bytes taken
feed-state : (most k : ℕ) (s : State) → Said s → k ≤ most → (Waits s → k ≡ most) → FeedSays most (answer_of s k)
unfolding refusals.sayable
feed-state most k (wait x ts c m) r h w = w tt
feed-state most k (over (finished c m)) r h w = (lendable c r, h)
feed-state most k (over (refused number told place m)) r h w = (r, h)
feed-state most k (none m) r h w = (tt, h)

-- on any state, loans and bytes
pub feed-says : (n : Numbers) (m : Memory) (piece : List ℕ) → FeedSays (length piece) (answer_in (feed_call n m piece))
unfolding feed_call
feed-says n m piece =
    rw (answer-of (run_held (held n m) piece) (taken_by (held n m) piece))
    (feed-state (length piece) (taken_by (held n m) piece) (state_in (run_held (held n m) piece)) (said_in (run_held (held n m) piece)) (taken-most n m piece)
    (waits-all (held n m) piece))

-- what has ended answers
end-over : (e : Ended) → Said (over e) → EndSays (answer_of (over e) 0)
end-over (finished c m) r = (lendable c r, refl)
end-over (refused number told place m) r = (r, refl)

-- what the end of a state answers
end-of : (n : Numbers) (m : Memory) (s : State) → state_of n m ≡ s → Said s → EndSays (answer_in (end_of n m s))
unfolding end after_step numbers_of state_of refusals.sayable
end-of n m (over e) q r = rw q (end-over e r)
end-of n m (wait x ts c k) q r = (tt, refl)
end-of n m (none k) q r = (tt, refl)

-- on any state and loans
pub end-says : (n : Numbers) (m : Memory) → EndSays (answer_in (end_call n m))
unfolding end_call
end-says n m = end-of n m (state_of n m) refl (said n m)

-- ---- read

-- what begin leaves
abbrev first : Memory → Held
first m = after_step (blank (lent_of m)) (begin m)

-- no more is taken than there is
most_in : (h : Held) (bs : List ℕ) → taken_by h bs ≤ length bs
most_in (held n m) bs = taken-most n m bs

-- a byte that was taken costs one
cost-one : (s t : State) → cost_from s t ≡ 1 → cost t ≡ 1
cost-one (wait x ts c m) t e = e
cost-one (over f) t e = clash cc
cost-one (none m) t e = clash cc

-- a flag is at most 1
flag-most : (t : Bool) → cond t 0 1 ≤ 1
flag-most true = omega arith
flag-most false = omega arith

-- a byte costs at most one
cost-within : (s t : State) → cost_from s t ≤ 1
cost-within (over e) t = omega arith
cost-within (none m) t = omega arith
cost-within (wait x ts c m) (wait y us d n) = omega arith
cost-within (wait x ts c m) (over (finished d n)) = omega arith
cost-within (wait x ts c m) (over (refused number told place n)) = flag-most (eqb number refusals.too_long || eqb number refusals.lost)
cost-within (wait x ts c m) (none n) = omega arith

-- where all bytes are taken, the last one was
all-last : (h : Held) (b : ℕ) (bs : List ℕ) → taken_by h (b ∷ bs) ≡ suc (length bs) → cost (state_in (run_held h (b ∷ bs))) ≡ 1
unfolding run_held taken_by
all-last h b [] e = cost-one (state_in h) (state_in (byte_step b h)) (omega arith)
all-last h b (x ∷ bs) e =
    let k = cost-within (state_in h) (state_in (byte_step b h)) in
    let l = most_in (byte_step b h) (x ∷ bs) in
    all-last (byte_step b h) x bs (omega arith)

-- where as many are taken as may be and the last one was not, there are more
past-length : (h : Held) (bs : List ℕ) → taken_by h bs ≡ message_limit → cost (state_in (run_held h bs)) ≡ 0 → message_limit < length bs
unfolding taken_by message_limit
past-length h [] e z = let f : 0 ≡ message_limit = e in absurd (omega arith)
past-length h (b ∷ bs) e z = elim (ℕ_discrete (taken_by h (b ∷ bs)) (suc (length bs))) [
  | yes q ↦ (let o = all-last h b bs q in clash cc)
  | no q ↦ (let l = most_in h (b ∷ bs) in omega arith)
]

-- a refusal has a place within the bytes taken
refusal-place : {b p n told place : ℕ} → RefusedBy b p n told place → place ≤ p
refusal-place (unknown l e) = omega arith
refusal-place (absent e) = omega arith
refusal-place (unfinished e) = omega arith
refusal-place (external e) = omega arith
refusal-place (undated e) = omega arith
refusal-place (invalid e) = omega arith
refusal-place (deep e) = omega arith
refusal-place (full_loan t e) = omega arith
refusal-place astrays = omega arith

-- a finished reading took no more than there is
read_taken : {bs : List ℕ} {c : Cursor} {m : Memory} → ReadingEnds bs (finished c m) → c.at ≤ length bs
read_taken (whole h) = h

-- a reading's numbers go to 12
number-most : (r : refusals.Refusal) → T (refusals.sayable (refusals.number_of r) (refusals.told_of r) (refusals.place_of r)) → refusals.number_of r ≤ refusals.lost
unfolding refusals.sayable refusals.tells
number-most (refusals.faulty_loan loan) h = lit≤ tt
number-most (refusals.ended_bytes place) h = lit≤ tt
number-most (refusals.unknown_marker b place) h = lit≤ tt
number-most (refusals.missing_entry i place) h = lit≤ tt
number-most (refusals.unfinished_object i place) h = lit≤ tt
number-most (refusals.external_class place) h = lit≤ tt
number-most (refusals.refused_bits bits place) h = lit≤ tt
number-most (refusals.invalid_text place) h = lit≤ tt
number-most (refusals.deep_value place) h = lit≤ tt
number-most (refusals.full_loan loan place) h = lit≤ tt
number-most refusals.long_message h = lit≤ tt
number-most refusals.lost_state h = lit≤ tt
number-most (refusals.malformed_row row) h = absurd h
number-most (refusals.unwritable_row row) h = absurd h

-- so the number of what can be said is at most 12
sayable-most : (n told place : ℕ) → T (refusals.sayable n told place) → n ≤ refusals.lost
sayable-most n told place h = of (sayable-named n told place h)
  where
    of : Named n told place → n ≤ refusals.lost
    of (r, a, b, c) = rw a at (number-most r (rw (a, b, c) h))

-- and at most 11 if it is not 12
below : (n : ℕ) → n ≤ refusals.lost → n ≢ refusals.lost → n ≤ refusals.too_long
below n h f = omega (arith, f)

module _ (m : Memory) (bs : List ℕ) (octets : Bytes bs) where
  -- how a state behind the bytes ends
  reads_of : (s : State) → s ≡ state_in (run_held (first m) bs) → Stands Unit Octet (taken_by (first m) bs) s
      → ((n told place : ℕ) (l : Memory) → end s ≡ refused n told place l → n ≢ refusals.lost) → ReadingEnds bs (end s)
  unfolding end
  reads_of s q (waits {x = x} {ts = ts} {c = c} {m = k} e) g =
      let v : Waits (state_in (run_held (first m) bs)) = rw (← q) tt in
      let a = waits-all (first m) bs v in
      let r : run (begin m) bs ≡ wait x ts c k = sym (shows-run (begin m) (first m) bs octets (shows-begin m)).shown ∙ sym q in
      let h = (good-waits (rw r at (good_along m bs octets))).0 in
      let i = h.place in
      let j = h.within in
      cut (e ∙ a) (omega arith)
  reads_of s q (finishes {c = c} e) g = let l = most_in (first m) bs in whole {c = c} (omega arith)
  reads_of s q (faulty_loan u i j e) g = faults i j
  reads_of s q (declines b k y r h z) g = byte b (taken_by (first m) bs) y (most_in (first m) bs) h (g _ _ _ _ refl) r
  reads_of s q (passes {place = place} {m = l} k e f z) g = past e (past-length (first m) bs (sym f ∙ e) (ap cost (sym q)))
  reads_of s q (forgets b k y f z) g = absurd (f y)

  -- on any loans and bytes
  pub reading-named : ReadingEnds bs (reading m bs)
  reading-named =
      let q : state_in (run_held (first m) bs) ≡ run (begin m) bs = (shows-run (begin m) (first m) bs octets (shows-begin m)).shown in
      rw (← feeding m bs, ← q)
      (reads_of (state_in (run_held (first m) bs)) refl (rw zero-add at (stands-run (first m) bs (every_byte bs octets) (stands-begin m)))
      (λ n told place l e. never-lost m bs octets n told place l (sym (feeding m bs) ∙ ap end (sym q) ∙ e)))

  -- what it says, and at which place
  good-says : {lent : Lent} {at : ℕ} (s : State) → Good lent at s → Said (over (end s))
  unfolding end refusals.sayable
  good-says s (waiting h f u) = tt
  good-says s (completed h) = holds-finishable h
  good-says s (rejected t h z) = t

  -- a reading says what can be said
  reading-said : Said (over (reading m bs))
  reading-said = rw (feeding m bs) at (good-says (run (begin m) bs) (good_along m bs octets))

  -- its place is within the limit and the bytes
  read-place : (n told place : ℕ) (l : Memory) (e : Ended) → ReadingEnds bs e → e ≡ refused n told place l → (place ≤ message_limit) × (place ≤ length bs)
  read-place n told place l e (whole h) q = clash cc
  read-place n told place l e (faults h i) q = let v : 0 ≡ place = cc in (omega arith, omega arith)
  read-place n told place l e (cut {place = w} h i) q = let v : w ≡ place = cc in (omega arith, omega arith)
  read-place n told place l e (byte {place = w} b p y h i u r) q = let v : w ≡ place = cc in let j = refusal-place r in (omega arith, omega arith)
  read-place n told place l e (past {place = w} h i) q = let v : w ≡ place = cc in (omega arith, omega arith)

  -- what its end answers
  read-of : (e : Ended) → reading m bs ≡ e → ReadingEnds bs e → Said (over e) → ReadSays (length bs) (read_answer (read_of e))
  unfolding message_limit
  read-of (finished c l) q h r = (lendable c r, read_taken h)
  read-of (refused n told place l) q h r =
      let (a, b) = read-place n told place l (refused n told place l) h refl in
      (r, below n (sayable-most n told place r) (never-lost m bs octets n told place l q), a, b, refl)

  -- and so the call
  pub read-says : ReadSays (length bs) (read_answer (read_call m bs))
  unfolding read_call
  read-says = read-of (reading m bs) refl reading-named reading-said

-- ---- write

-- the lower of two loans
two-low : (t u : Bool) → cond t loan_rows (cond u loan_store 0) ≤ loan_store
two-low true u = omega arith
two-low false true = omega arith
two-low false false = omega arith

-- the writer is lent loans 1 and 2
rows-fault : (R B : List ℕ) → rows_fault R B ≤ loan_store
unfolding loan_fault
rows-fault R B = two-low (faulty rows_most row_width (length R)) (faulty store_most 1 (length B))

-- how rows are tested
data Row (rows : ℕ) : Tested → Type 0 where
  good : Row rows fine
  thirteen : {row : ℕ} → row < rows → Row rows (unfit_row refusals.malformed row)
  zeroth : rows ≡ 0 → Row rows (unfit_row refusals.malformed 0)
  fourteen : {row : ℕ} → row < rows → Row rows (unfit_row refusals.unwritable row)

-- by a test
row-cond : {rows : ℕ} {x y : Tested} (t : Bool) → Row rows x → Row rows y → Row rows (cond t x y)
row-cond true h k = h
row-cond false h k = k

-- rows from one on
row_from : (R B : List ℕ) (rows i n : ℕ) → i + n ≤ rows → Row rows (test_from R B i n)
unfolding test_from
row_from R B rows i zero h = good
row_from R B rows i (suc n) h =
    row-cond (well_formed R B i) (row-cond (writable R B i) (row_from R B rows (suc i) n (omega arith)) (fourteen (omega arith))) (thirteen (omega arith))

-- all rows
row-tested : (R B : List ℕ) → Row (rows_in R) (tested R B)
unfolding tested
row-tested R B = on-number (rows_in R) 0 (λ q e. rw e (zeroth q)) (λ e. rw e (row_from R B (rows_in R) 0 (rows_in R) (omega arith)))

module _ (R B out : List ℕ) where
  -- a row that fails its test
  unfits : (x : Tested) (n row : ℕ) → Row (rows_in R) x → x ≡ unfit_row n row → WriteRefuses (rows_in R) (length out) n row 0
  unfits x n row good e = clash cc
  unfits x n row (thirteen {row = r} h) e = let u : refusals.malformed ≡ n = cc in let v : r ≡ row = cc in rw (← u, ← v) (misshapes h)
  unfits x n row (zeroth h) e = let u : refusals.malformed ≡ n = cc in let v : 0 ≡ row = cc in rw (← u, ← v) (empties h)
  unfits x n row (fourteen {row = r} h) e = let u : refusals.unwritable ≡ n = cc in let v : r ≡ row = cc in rw (← u, ← v) (unsuits h)

  -- how a writing ends
  write-of : (w : Wrote) → Outcome R B out w → WriteSays (rows_in R) (length out) (write_answer (written_of w))
  write-of w (fault n e) = let l : fault_of (memory R B [] [] [] []) ≤ loan_store = rows-fault R B in lends {loan = suc n} (omega arith) (omega arith)
  write-of w (unfit n row e f) = unfits (tested R B) n row (row-tested R B) f
  write-of w (passed p (wholly d l)) = l
  write-of w (passed p (full d l)) = fills
  write-of w (passed p (too_deep x f l)) = nests l
  write-of w (passed p (full_before x f l)) = fills

  -- on any rows, store and output
  pub write-says : WriteSays (rows_in R) (length out) (write_answer (write_call R B out))
  unfolding write_call
  write-says = write-of (writing R B out) (writes R B out)
