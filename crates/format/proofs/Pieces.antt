-- Feeding through the public calls: begin, a feed of each piece, and the end give what reading the joined bytes gives, and after each piece all is as if the
-- bytes so far had come at once.
use mathlib.Core.Path.{◌≡◌, refl, sym, ap, ◌∙◌}
use mathlib.Core.Bool.{◌&&◌, ◌||◌}
use mathlib.Core.List.{List, [], ◌∷◌, ◌++◌}
use Prim.Native.Nat.{ℕ, ◌+◌, ◌≤◌}
use native.Mathlib.Nat.{zero-add, add_assoc}
use native.Mathlib.Omega.{arith}
use lib.Dec.{eqb}
use lib.ListN.{length}
use Rattle.rows.specs.Memory.{Memory, zeroed}
use Rattle.wire.proofs.Octets.{Bytes}
use Rattle.format.specs.declared.Answer.TheVariants.{Finished, Refused}
use Rattle.rows.specs.declared.lent.Lent.{Lent}
use Rattle.format.specs.Reading.{Ended, finished, refused}
use Rattle.format.specs.Step.{State, wait, over, none, run, end, begin}
use Rattle.format.specs.Numbers.{Numbers, Held, held, finishable, lent_of, state_of, numbers_of, memory_of, after_step, byte_step}
use Rattle.format.specs.Answers.{Fed, fed, answer_of, answered, blank, begin_call, run_held, cost_from, state_in, taken_by, feed_call, end_of, end_call}
use Rattle.format.specs.Answers.{read, read_of, read_call}
use Rattle.format.proofs.Tests.{on_bool}
use Rattle.format.proofs.Feeding.{feeding}
use Rattle.format.proofs.Cuts.{joined}
use Rattle.format.proofs.Along.{Good, waits, finishes, declines, takes}
use Rattle.format.proofs.Shows.{Shows, shows-run, shows-begin, taken-run, memory-of}
use Rattle.format.specs.Refusals as refusals
pub use Rattle.format.specs.Claims.{taken_in, untaken, answer_in, fed_by, fed_pieces, tally, untook, end_by, end_read, unread}

-- ---- bytes after bytes, whatever the numbers and the loans

held-append : (h : Held) (a b : List ℕ) → run_held h (a ++ b) ≡ run_held (run_held h a) b
unfolding run_held
held-append h [] b = refl
held-append h (x ∷ a) b = held-append (byte_step x h) a b

taken-append : (h : Held) (a b : List ℕ) → taken_by h (a ++ b) ≡ taken_by h a + taken_by (run_held h a) b
unfolding taken_by run_held
taken-append h [] b = sym (zero-add _)
taken-append h (x ∷ a) b = rw (taken-append (byte_step x h) a b, add_assoc)

pub cost-most : (s after : State) → cost_from s after ≤ 1
cost-most (over e) after = omega arith
cost-most (none m) after = omega arith
cost-most (wait x ts c m) (wait y us d n) = omega arith
cost-most (wait x ts c m) (over (finished d n)) = omega arith
cost-most (wait x ts c m) (over (refused number told place n)) =
    on_bool (eqb number refusals.too_long || eqb number refusals.lost) (λ e. rw e (omega arith)) (λ e. rw e (omega arith))
cost-most (wait x ts c m) (none n) = omega arith

pub taken-most : (h : Held) (bs : List ℕ) → taken_by h bs ≤ length bs
unfolding taken_by
taken-most h [] = omega arith
taken-most h (b ∷ bs) =
    let one = cost-most (state_in h) (state_in (byte_step b h)) in
    let more = taken-most (byte_step b h) bs in
    omega arith

-- ---- calls after calls

abbrev pub held_in : Fed → Held
held_in (fed a n m) = held n m

fed_by_lem : (f : Fed) (piece : List ℕ) → fed_by f piece ≡ answered (run_held (held_in f) piece) (taken_by (held_in f) piece)
unfolding feed_call
fed_by_lem (fed a n m) piece = refl

held-answered : (h : Held) (n : ℕ) → held_in (answered h n) ≡ h
held-answered (held s m) n = refl

taken-answer : (s : State) (n : ℕ) → taken_in (answer_of s n) ≡ n
taken-answer (wait x ts c m) n = refl
taken-answer (over (finished c m)) n = refl
taken-answer (over (refused number told place m)) n = refl
taken-answer (none m) n = refl

taken-answered : (h : Held) (n : ℕ) → taken_in (answer_in (answered h n)) ≡ n
taken-answered (held s m) n = taken-answer (state_of s m) n

held_by : (f : Fed) (piece : List ℕ) → held_in (fed_by f piece) ≡ run_held (held_in f) piece
held_by f piece = ap held_in (fed_by_lem f piece) ∙ held-answered _ _

taken-by : (f : Fed) (piece : List ℕ) → taken_in (answer_in (fed_by f piece)) ≡ taken_by (held_in f) piece
taken-by f piece = rw (fed_by_lem f piece) (taken-answered (run_held (held_in f) piece) (taken_by (held_in f) piece))

-- after any pieces the state and the loans are those of the joined bytes
pub held-pieces : (f : Fed) (pieces : List (List ℕ)) → held_in (fed_pieces f pieces) ≡ run_held (held_in f) (joined pieces)
unfolding run_held
held-pieces f [] = refl
held-pieces f (piece ∷ pieces) = rw (held-pieces (fed_by f piece) pieces, held_by f piece, held-append)

-- and so is the answer, but that each piece counts its own bytes
answer-untaken : (s : State) (i j : ℕ) → untaken (answer_of s i) ≡ untaken (answer_of s j)
answer-untaken (wait x ts c m) i j = refl
answer-untaken (over (finished c m)) i j = refl
answer-untaken (over (refused number told place m)) i j = refl
answer-untaken (none m) i j = refl

untook-answered : (h : Held) (i j : ℕ) → untook (answered h i) ≡ untook (answered h j)
untook-answered (held n m) i j = ap (λ a. fed a n m) (answer-untaken (state_of n m) i j)

answered-pieces : (h : Held) (i j : ℕ) (pieces : List (List ℕ))
    → untook (fed_pieces (answered h i) pieces) ≡ untook (answered (run_held h (joined pieces)) j)
unfolding run_held
answered-pieces h i j [] = untook-answered h i j
answered-pieces h i j (piece ∷ pieces) =
    rw (fed_by_lem (answered h i) piece, held-answered h i, held-append h piece (joined pieces))
    (answered-pieces (run_held h piece) (taken_by h piece) j pieces)

pub fed-pieces : (f : Fed) (piece : List ℕ) (pieces : List (List ℕ)) → untook (fed_pieces f (piece ∷ pieces)) ≡ untook (fed_by f (joined (piece ∷ pieces)))
fed-pieces f piece pieces =
    rw (fed_by_lem f (piece ++ joined pieces), fed_by_lem f piece, held-append (held_in f) piece (joined pieces))
    (answered-pieces (run_held (held_in f) piece) (taken_by (held_in f) piece) _ pieces)

pub begun-pieces : (m : Memory) (pieces : List (List ℕ)) → untook (fed_pieces (begin_call m) pieces) ≡ untook (fed_by (begin_call m) (joined pieces))
unfolding begin_call
begun-pieces m pieces =
    let h : Held = after_step (blank (lent_of m)) (begin m) in
    answered-pieces h 0 (taken_by h (joined pieces)) pieces ∙ ap untook (sym (rw (held-answered h 0) at (fed_by_lem (answered h 0) (joined pieces))))

-- which together are those that the joined bytes take
tally-taken : (f : Fed) (pieces : List (List ℕ)) → tally f pieces ≡ taken_by (held_in f) (joined pieces)
unfolding taken_by
tally-taken f [] = refl
tally-taken f (piece ∷ pieces) = rw (taken-by f piece, tally-taken (fed_by f piece) pieces, held_by f piece, taken-append)

pub taken-pieces : (f : Fed) (pieces : List (List ℕ)) → tally f pieces ≡ taken_in (answer_in (fed_by f (joined pieces)))
taken-pieces f pieces = tally-taken f pieces ∙ sym (taken-by f (joined pieces))

pub taken-length : (f : Fed) (piece : List ℕ) → taken_in (answer_in (fed_by f piece)) ≤ length piece
taken-length f piece = rw (taken-by f piece) (taken-most (held_in f) piece)

pub tally-length : (f : Fed) (pieces : List (List ℕ)) → tally f pieces ≤ length (joined pieces)
tally-length f pieces = rw (tally-taken f pieces) (taken-most (held_in f) (joined pieces))

-- ---- the end

-- what waits is refused by 2
end-wait : (n : Numbers) (at : ℕ) (k : Memory) → end_read (answered (after_step n (over (refused 2 0 at (zeroed k)))) 0) ≡ read (Refused 2 0 at 0) (zeroed k)
unfolding after_step numbers_of state_of refusals.sayable
end-wait n at k = refl

-- what has ended keeps its answer and its loans
end-over : (n : Numbers) (m : Memory) (e : Ended) → state_of n m ≡ over e → memory_of (over e) ≡ m → end_read (answered (held n m) 0) ≡ unread (read_of e)
end-over n m (finished c k) e q = rw (e, q)
end-over n m (refused number told place k) e q = rw (e, q)

end-good : {lent : Lent} {at : ℕ} (n : Numbers) (m : Memory) (s : State) → state_of n m ≡ s → memory_of s ≡ m → Good lent at s
    → end_read (end_of n m s) ≡ unread (read_of (end s))
unfolding end
end-good n m s e q (waits {x = x} {ts = ts} {c = c} {m = k} h f u) = end-wait n c.at k
end-good n m s e q (finishes h) = end-over n m _ e q
end-good n m s e q (declines t h z) = end-over n m _ e q

end-shows : {lent : Lent} {at : ℕ} (s : State) (f : Fed) → Shows lent at s (held_in f) → end_read (end_by f) ≡ unread (read_of (end s))
unfolding end_call
end-shows s (fed a n m) k = rw k.shown (end-good n m s k.shown (ap memory_of (sym k.shown) ∙ memory-of n m) k.good)

held-begin : (m : Memory) → held_in (begin_call m) ≡ after_step (blank (lent_of m)) (begin m)
unfolding begin_call
held-begin m = held-answered (after_step (blank (lent_of m)) (begin m)) 0

-- the numbers after the pieces show the state after the joined bytes
pub shows-pieces : (m : Memory) (pieces : List (List ℕ)) → Bytes (joined pieces)
    → Shows (lent_of m) (takes (begin m) (joined pieces)) (run (begin m) (joined pieces)) (held_in (fed_pieces (begin_call m) pieces))
shows-pieces m pieces o =
    rw (held-pieces, held-begin) (rw zero-add at (shows-run (begin m) (after_step (blank (lent_of m)) (begin m)) (joined pieces) o (shows-begin m)))

-- begin, a feed of each piece, and the end give the answer and the loans of reading the joined bytes
pub feeding_calls : (m : Memory) (pieces : List (List ℕ)) → Bytes (joined pieces)
    → end_read (end_by (fed_pieces (begin_call m) pieces)) ≡ unread (read_call m (joined pieces))
unfolding read_call
feeding_calls m pieces o =
    end-shows (run (begin m) (joined pieces)) (fed_pieces (begin_call m) pieces) (shows-pieces m pieces o) ∙ ap (λ e. unread (read_of e)) (feeding m (joined pieces))

-- a finished reading took what the pieces took
taken-good : {lent : Lent} {at : ℕ} (s : State) (rows bytes taken : ℕ) (k : Memory) → Good lent at s
    → read_of (end s) ≡ read (Finished rows bytes taken) k → at ≡ taken
unfolding end
taken-good s rows bytes taken k (waits h f u) e = cc
taken-good s rows bytes taken k (finishes h) e = cc
taken-good s rows bytes taken k (declines t h z) e = cc

pub taken_calls : (m : Memory) (pieces : List (List ℕ)) (rows bytes taken : ℕ) (k : Memory) → Bytes (joined pieces)
    → read_call m (joined pieces) ≡ read (Finished rows bytes taken) k → tally (begin_call m) pieces ≡ taken
unfolding read_call
taken_calls m pieces rows bytes taken k o e =
    tally-taken (begin_call m) pieces ∙ ap (λ h. taken_by h (joined pieces)) (held-begin m)
    ∙ taken-run (begin m) (after_step (blank (lent_of m)) (begin m)) (joined pieces) o (shows-begin m)
    ∙ taken-good (run (begin m) (joined pieces)) rows bytes taken k (shows-pieces m pieces o).good (ap read_of (feeding m (joined pieces)) ∙ e)

-- ---- what changes nothing

-- an empty piece
pub feed-nothing : (n : Numbers) (m : Memory) → feed_call n m [] ≡ fed (answer_of (state_of n m) 0) n m
unfolding feed_call run_held taken_by
feed-nothing n m = refl

-- an unbegun state says so to no bytes too, and keeps its loans
pub unbegun-nothing : (n : Numbers) (m : Memory) → state_of n m ≡ none m → feed_call n m [] ≡ fed (Refused refusals.lost 0 0 0) n m
unbegun-nothing n m e = feed-nothing n m ∙ ap (λ (s : State). fed (answer_of s 0) n m) e

-- a state with other loans
abbrev relent_end : Ended → Memory → Ended
relent_end (finished c m) k = finished c k
relent_end (refused number told place m) k = refused number told place k

abbrev relent : State → Memory → State
relent (wait x ts c m) k = wait x ts c k
relent (over e) k = over (relent_end e k)
relent (none m) k = none k

answer-relent : (e : Ended) (k : Memory) → answer_of (over (relent_end e k)) 0 ≡ answer_of (over e) 0
answer-relent (finished c m) k = refl
answer-relent (refused number told place m) k = refl

state-relent : (n : Numbers) (m k : Memory) → state_of n k ≡ relent (state_of n m) k
unfolding state_of
state-relent n m k = on_bool (eqb n.head.status 1) (λ e. rw e) (λ e. rw e
    (on_bool (eqb n.head.status 2 && finishable n.head.cursor) (λ e. rw e) (λ e. rw e
    (on_bool (eqb n.head.status 3 && refusals.sayable n.head.number n.head.told n.head.place) (λ e. rw e) (λ e. rw e)))))

module _ (n : Numbers) (k : Memory) (e : Ended) (h : state_of n k ≡ over e) where
  byte-over : (b : ℕ) → byte_step b (held n k) ≡ held n k
  unfolding byte_step
  byte-over b = rw h

  pub run-still : (bs : List ℕ) → run_held (held n k) bs ≡ held n k
  unfolding run_held
  run-still [] = refl
  run-still (b ∷ bs) = rw (byte-over b) (run-still bs)

  pub taken-still : (bs : List ℕ) → taken_by (held n k) bs ≡ 0
  unfolding taken_by
  taken-still [] = refl
  taken-still (b ∷ bs) = rw (byte-over b, h) (zero-add _ ∙ taken-still bs)

  feed-still : (piece : List ℕ) → feed_call n k piece ≡ fed (answer_of (over e) 0) n k
  unfolding feed_call
  feed-still piece = rw (run-still piece, taken-still piece, h)

  end-still : end_call n k ≡ fed (answer_of (over e) 0) n k
  unfolding end_call
  end-still = rw h (rw h)

state-ended : (n : Numbers) (m k : Memory) (e : Ended) → state_of n m ≡ over e → state_of n k ≡ over (relent_end e k)
state-ended n m k e h = state-relent n m k ∙ ap (λ s. relent s k) h

-- what has ended takes nothing and repeats its answer, whatever loans come with it
pub feed-ended : (n : Numbers) (m k : Memory) (e : Ended) (piece : List ℕ) → state_of n m ≡ over e → feed_call n k piece ≡ fed (answer_of (over e) 0) n k
feed-ended n m k e piece h = feed-still n k (relent_end e k) (state-ended n m k e h) piece ∙ ap (λ a. fed a n k) (answer-relent e k)

pub end-ended : (n : Numbers) (m k : Memory) (e : Ended) → state_of n m ≡ over e → end_call n k ≡ fed (answer_of (over e) 0) n k
end-ended n m k e h = end-still n k (relent_end e k) (state-ended n m k e h) ∙ ap (λ a. fed a n k) (answer-relent e k)
