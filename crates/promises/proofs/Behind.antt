-- What stands behind the bytes that a finished reading took changes nothing: of the reading, of the call that reads, and of a feed on any state.
use mathlib.Core.Path.{◌≡◌, refl, ap, sym, ◌∙◌}
use mathlib.Core.List.{List, [], ◌∷◌, ◌++◌, append-nil}
use Prim.Native.Nat.{ℕ, suc, ◌+◌, ◌≤◌}
use native.Mathlib.Nat.{zero-add}
use native.Mathlib.Omega.{arith}
use Rattle.wire.specs.Octets.{Bytes}
use lib.ListN.{length, take}
use Rattle.rows.specs.declared.Cursor.{Cursor}
use Rattle.rows.specs.Memory.{Memory, zeroed}
use Rattle.format.specs.declared.Answer.TheVariants.{Waiting, Finished, Refused}
use Rattle.format.specs.Refusals as no
use Rattle.format.specs.Reading.{Ended, finished, refused, reading}
use Rattle.format.specs.Step.{State, wait, over, none, step, run, end, begin}
use Rattle.format.specs.Numbers.{Numbers, Held, held, lent_of, state_of, memory_of, after_step, byte_step}
use Rattle.format.specs.Answers.{Fed, fed, answer_of, answered, blank, begin_call, cost, cost_from, run_held, state_in, taken_by, feed_call, end_call, read, read_of, read_call}
use Rattle.format.specs.Claims.{joined, answer_in, taken_in, fed_by, fed_pieces, tally, untook, end_by}
use Rattle.format.proofs.Tests.{clash}
use Rattle.format.proofs.Along.{Able, awaits, completes, rejects, takes}
use Rattle.format.proofs.Kept.{Holds}
use Rattle.format.proofs.Shows.{able_along, memory-of}
use Rattle.format.proofs.Feeding.{feeding}
use Rattle.format.proofs.Cuts.{run-over, reading-decided}
use Rattle.format.proofs.Pieces.{cost-most, begun-pieces, fed-pieces, taken-pieces, run-still, taken-still, end-ended}
use Rattle.promises.proofs.Counted.{answer-in, pieces_are}
use Rattle.promises.proofs.Answered.{answered_repeats, unbegun-lost, end-waits, end-unbegun}

-- ---- the reading

-- a reading that finishes has finished
end-finished : (s : State) (c : Cursor) (m : Memory) → end s ≡ finished c m → s ≡ over (finished c m)
unfolding end
end-finished (over e) c m q = ap over q
end-finished (none n) c m q = clash cc
end-finished (wait x ts d n) c m q = clash cc

-- what has ended takes no byte
takes-over : (e : Ended) (bs : List ℕ) → takes (over e) bs ≡ 0
unfolding takes step
takes-over e [] = refl
takes-over e (b ∷ bs) = zero-add _ ∙ takes-over e bs

-- no more bytes are taken than there are
takes-most : (s : State) (bs : List ℕ) → takes s bs ≤ length bs
unfolding takes
takes-most s [] = omega arith
takes-most s (b ∷ bs) = let one = cost-most s (step b s) in let more = takes-most (step b s) bs in omega arith

-- what was never begun doesn't finish
pub none-run : (k : Memory) (bs : List ℕ) (c : Cursor) (m : Memory) → run (none k) bs ≡ over (finished c m) → ⊥
unfolding run step
none-run k [] c m q = clash cc
none-run k (b ∷ bs) c m q = let r = run-over (refused no.lost 0 0 (zeroed k)) bs in clash cc

-- a byte after which a run finishes was taken
one_byte : (s : State) (bs : List ℕ) (c : Cursor) (m : Memory) → run s bs ≡ over (finished c m) → cost s ≡ 1
one_byte (wait x ts d k) bs c m q = refl
one_byte (over (finished d k)) bs c m q = refl
one_byte (over (refused number told place k)) bs c m q = let r = run-over (refused number told place k) bs in clash cc
one_byte (none k) bs c m q = absurd (none-run k bs c m q)

-- a run that finishes does so on the bytes that it takes
run-taken : (s : State) (bs : List ℕ) (c : Cursor) (m : Memory) → run s bs ≡ over (finished c m) → run s (take (takes s bs) bs) ≡ over (finished c m)
unfolding run takes
run-taken s [] c m q = q
run-taken (over e) (b ∷ bs) c m q = rw (takes-over e (b ∷ bs)) (sym (run-over e (b ∷ bs)) ∙ q)
run-taken (none k) (b ∷ bs) c m q = absurd (none-run k (b ∷ bs) c m q)
run-taken (wait x ts d k) (b ∷ bs) c m q =
    let t : State = step b (wait x ts d k) in
    let n : cost t + takes t bs ≡ suc (takes t bs) = omega (arith, one_byte t bs c m q) in
    rw n (run-taken t bs c m q)

module _ (m : Memory) (bytes : List ℕ) (c : Cursor) (m' : Memory) (q : reading m bytes ≡ finished c m') where
  pub run-finished : run (begin m) bytes ≡ over (finished c m')
  run-finished = end-finished (run (begin m) bytes) c m' (feeding m bytes ∙ q)

  -- more behind the bytes
  pub more-behind : (rest : List ℕ) → reading m (bytes ++ rest) ≡ finished c m'
  more-behind rest = reading-decided m bytes rest (finished c m') run-finished

  -- the loans have their lengths, and the place counts the bytes that the run took
  pub finished-holds : Holds (lent_of m) (takes (begin m) bytes) c m'
  finished-holds = of (run (begin m) bytes) (able_along m bytes) run-finished
    where
      of : (s : State) → Able (Bytes bytes) (lent_of m) (takes (begin m) bytes) s → s ≡ over (finished c m') → Holds (lent_of m) (takes (begin m) bytes) c m'
      of s (completes {c = d} {m = k} h) e = let i : d ≡ c = cc in let j : k ≡ m' = cc in rw (i, j) at h
      of s (awaits h f u p) e = clash cc
      of s (rejects t h z) e = clash cc

  -- no more than there are
  pub taken-there : c.at ≤ length bytes
  taken-there = rw finished-holds.place (takes-most (begin m) bytes)

  -- something else behind those that were taken
  pub else_behind : (other : List ℕ) → reading m (take c.at bytes ++ other) ≡ finished c m'
  else_behind other =
      reading-decided m (take c.at bytes) other (finished c m') (rw (← finished-holds.place) at (run-taken (begin m) bytes c m' run-finished))

-- ---- the calls

module _ (m : Memory) (bytes : List ℕ) (rows stored taken : ℕ) (m' : Memory) (q : read_call m bytes ≡ read (Finished rows stored taken) m') where
  -- a read that finishes is a reading that does
  pub read-finished : (c : Cursor) × (reading m bytes ≡ finished c m') × (c.at ≡ taken) × (read_of (finished c m') ≡ read (Finished rows stored taken) m')
  unfolding read_call
  read-finished = of (reading m bytes) refl q
    where
      of : (e : Ended) → reading m bytes ≡ e → read_of e ≡ read (Finished rows stored taken) m'
          → (c : Cursor) × (reading m bytes ≡ finished c m') × (c.at ≡ taken) × (read_of (finished c m') ≡ read (Finished rows stored taken) m')
      of (finished c k) e q = let i : k ≡ m' = cc in (c, e ∙ ap (finished c) i, cc, ap (λ (l : Memory). read_of (finished c l)) (sym i) ∙ q)
      of (refused number told place k) e q = clash cc

  pub more-behind-read : (rest : List ℕ) → read_call m (bytes ++ rest) ≡ read (Finished rows stored taken) m'
  unfolding read_call
  more-behind-read rest = let (c, e, a, r) = read-finished in ap read_of (more-behind m bytes c m' e rest) ∙ r

  pub else_behind-read : (other : List ℕ) → read_call m (take taken bytes ++ other) ≡ read (Finished rows stored taken) m'
  unfolding read_call
  else_behind-read other = let (c, e, a, r) = read-finished in ap read_of (rw a at (else_behind m bytes c m' e other)) ∙ r

-- what a feed is whose answer is known but for the bytes taken
fed-finished : (f : Fed) (rows stored taken : ℕ) (n : Numbers) (m : Memory) → untook f ≡ fed (Finished rows stored 0) n m → taken_in (answer_in f) ≡ taken
    → f ≡ fed (Finished rows stored taken) n m
fed-finished (fed (Waiting k) n₁ m₁) rows stored taken n m e t = clash cc
fed-finished (fed (Finished r s k) n₁ m₁) rows stored taken n m e t = cc
fed-finished (fed (Refused i told place k) n₁ m₁) rows stored taken n m e t = clash cc

-- a feed on any state and loans
pub more-behind-feed : (n : Numbers) (m : Memory) (piece : List ℕ) (rows stored taken : ℕ) (n' : Numbers) (m' : Memory)
    → feed_call n m piece ≡ fed (Finished rows stored taken) n' m' → (rest : List ℕ) → feed_call n m (piece ++ rest) ≡ fed (Finished rows stored taken) n' m'
more-behind-feed n m piece rows stored taken n' m' e rest =
    let f : Fed = fed (Waiting 0) n m in
    let repeats = (answered_repeats n m piece (Finished rows stored taken) n' m' e (λ j q. clash cc) (λ told place j q. clash cc) m' rest).0 in
    let cut = rw (append-nil rest, e, repeats) at (fed-pieces f piece (rest ∷ [])) in
    let count = rw (append-nil rest, e, repeats) at (taken-pieces f (piece ∷ rest ∷ [])) in
    fed-finished (feed_call n m (piece ++ rest)) rows stored taken n' m' (sym cut) (omega (arith, count))

-- ---- a feed, with something else behind the bytes that it took

-- what was never begun doesn't finish
none-held : (n : Numbers) (m : Memory) (bs : List ℕ) (c : Cursor) (k : Memory) → state_of n m ≡ none m → state_in (run_held (held n m) bs) ≡ over (finished c k) → ⊥
unfolding run_held feed_call
none-held n m [] c k e q = clash cc
none-held n m (b ∷ bs) c k e q =
    let h : Held = run_held (held n m) (b ∷ bs) in
    let t : ℕ = taken_by (held n m) (b ∷ bs) in
    let r : answer_of (over (finished c k)) t ≡ Refused no.lost 0 0 0 =
    ap (λ (s : State). answer_of s t) (sym q) ∙ sym (answer-in h t) ∙ ap answer_in (unbegun-lost n m b bs e) in
    clash cc

-- a byte after which a feed finishes was taken
held_one : (h : Held) (bs : List ℕ) (c : Cursor) (k : Memory) → state_in (run_held h bs) ≡ over (finished c k) → cost (state_in h) ≡ 1
held_one (held n m) bs c k q = of (state_of n m) refl
  where
    of : (s : State) → state_of n m ≡ s → cost s ≡ 1
    of (wait x ts d l) e = refl
    of (over (finished d l)) e = refl
    of (over (refused number told place l)) e =
        let r : over (refused number told place l) ≡ over (finished c k) = sym e ∙ ap state_in (sym (run-still n m (refused number told place l) e bs)) ∙ q in
        clash cc
    of (none l) e = absurd (none-held n m bs c k (e ∙ ap none (ap memory_of (sym e) ∙ memory-of n m)) q)

-- a feed that finishes does so on the bytes that it takes, and takes all of them
held-taken : (h : Held) (bs : List ℕ) (c : Cursor) (k : Memory) → state_in (run_held h bs) ≡ over (finished c k)
    → (run_held h (take (taken_by h bs) bs) ≡ run_held h bs) × (taken_by h (take (taken_by h bs) bs) ≡ taken_by h bs)
unfolding run_held taken_by
held-taken h [] c k q = (refl, refl)
held-taken (held n m) (b ∷ bs) c k q = of (state_of n m) refl (held-taken (byte_step b (held n m)) bs c k q)
  where
    h : Held
    h = held n m

    of : (s : State) → state_of n m ≡ s
        → (run_held (byte_step b h) (take (taken_by (byte_step b h) bs) bs) ≡ run_held (byte_step b h) bs) × (taken_by (byte_step b h) (take (taken_by (byte_step b h) bs) bs) ≡ taken_by (byte_step b h) bs)
        → (run_held h (take (taken_by h (b ∷ bs)) (b ∷ bs)) ≡ run_held h (b ∷ bs)) × (taken_by h (take (taken_by h (b ∷ bs)) (b ∷ bs)) ≡ taken_by h (b ∷ bs))
    of (wait x ts d l) e (r, t) =
        let i : cost_from (state_of n m) (state_in (byte_step b h)) + taken_by (byte_step b h) bs ≡ suc (taken_by (byte_step b h) bs) =
        rw e (omega (arith, held_one (byte_step b h) bs c k q)) in
        rw i (r, rw t i)
    of (over d) e (r, t) = rw (taken-still n m d e (b ∷ bs)) (sym (run-still n m d e (b ∷ bs)), refl)
    of (none l) e (r, t) = absurd (none-held n m (b ∷ bs) c k (e ∙ ap none (ap memory_of (sym e) ∙ memory-of n m)) q)

-- an answer that says it finished
answer-finished : (s : State) (i rows stored taken : ℕ) → answer_of s i ≡ Finished rows stored taken → (c : Cursor) × (k : Memory) × (s ≡ over (finished c k)) × (i ≡ taken)
answer-finished (over (finished c k)) i rows stored taken e = (c, k, refl, cc)
answer-finished (over (refused number told place k)) i rows stored taken e = clash cc
answer-finished (wait x ts c k) i rows stored taken e = clash cc
answer-finished (none k) i rows stored taken e = clash cc

module _ (n : Numbers) (m : Memory) (piece : List ℕ) (rows stored taken : ℕ) (n' : Numbers) (m' : Memory) (e : feed_call n m piece ≡ fed (Finished rows stored taken) n' m') where
  -- the bytes that it took are as good as the piece
  taken-fed : feed_call n m (take taken piece) ≡ fed (Finished rows stored taken) n' m'
  unfolding feed_call
  taken-fed =
      let h : Held = held n m in
      let i : ℕ = taken_by h piece in
      let (c, k, q, j) = answer-finished (state_in (run_held h piece)) i rows stored taken (sym (answer-in (run_held h piece) i) ∙ ap answer_in e) in
      let (r, t) = held-taken h piece c k q in
      ap (λ (j : ℕ). answered (run_held h (take j piece)) (taken_by h (take j piece))) (sym j) ∙ rw (r, t) e

  pub else_behind-feed : (other : List ℕ) → feed_call n m (take taken piece ++ other) ≡ fed (Finished rows stored taken) n' m'
  else_behind-feed other = more-behind-feed n m (take taken piece) rows stored taken n' m' taken-fed other

-- ---- pieces

module _ (m : Memory) (parts : List (List ℕ)) (rows stored taken : ℕ) (n' : Numbers) (m' : Memory) (e : fed_pieces (begin_call m) parts ≡ fed (Finished rows stored taken) n' m') where
  -- however the bytes are cut, and whatever follows them
  pub more-behind-pieces : (more : List (List ℕ)) (rest : List ℕ) → joined more ≡ joined parts ++ rest
      → (untook (fed_pieces (begin_call m) more) ≡ fed (Finished rows stored 0) n' m') × (tally (begin_call m) more ≡ tally (begin_call m) parts)
  more-behind-pieces more rest j = of (begin_call m) refl
    where
      of : (f : Fed) → begin_call m ≡ f → (untook (fed_pieces (begin_call m) more) ≡ fed (Finished rows stored 0) n' m') × (tally (begin_call m) more ≡ tally (begin_call m) parts)
      of (fed a s l) b =
          let x : List ℕ = joined parts in
          let t : ℕ = taken_in (answer_in (feed_call s l x)) in
          let whole : feed_call s l x ≡ fed (Finished rows stored t) n' m' =
          fed-finished (feed_call s l x) rows stored t n' m' (ap (λ (f : Fed). untook (fed_by f x)) (sym b) ∙ sym (begun-pieces m parts) ∙ ap untook e) refl in
          let longer = more-behind-feed s l x rows stored t n' m' whole rest in
          let count : tally (begin_call m) more ≡ t = taken-pieces (begin_call m) more ∙ rw (j, b, longer) in
          (begun-pieces m more ∙ rw (j, b, longer), count ∙ sym (taken-pieces (begin_call m) parts ∙ ap (λ (f : Fed). taken_in (answer_in (fed_by f x))) b))

-- ---- the end

-- an end that finishes is of what had finished
end-finished-of : (s : Numbers) (l : Memory) (i rows stored : ℕ) (n : Numbers) (m : Memory) → end_call s l ≡ fed (Finished rows stored 0) n m
    → answered (held s l) i ≡ fed (Finished rows stored i) n m
end-finished-of s l i rows stored n m e = of (state_of s l) refl
  where
    of : (t : State) → state_of s l ≡ t → fed (answer_of (state_of s l) i) s l ≡ fed (Finished rows stored i) n m
    of (over (finished c k)) q = let r = sym (end-ended s l l (finished c k) q) ∙ e in rw q cc
    of (over (refused number told place k)) q = let r = sym (end-ended s l l (refused number told place k) q) ∙ e in clash cc
    of (wait x ts c k) q = let r = sym (end-waits s l x ts c (q ∙ ap (wait x ts c) (ap memory_of (sym q) ∙ memory-of s l))) ∙ e in clash cc
    of (none k) q = let r = sym (end-unbegun s l (q ∙ ap none (ap memory_of (sym q) ∙ memory-of s l))) ∙ e in clash cc

-- what a call said counts for nothing at the end
end-untook : (f : Fed) → end_by f ≡ end_by (untook f)
end-untook (fed a n m) = refl

module _ (m : Memory) (parts : List (List ℕ)) (rows stored : ℕ) (n' : Numbers) (m' : Memory)
    (e : end_by (fed_pieces (begin_call m) parts) ≡ fed (Finished rows stored 0) n' m') where
  -- the pieces had finished
  pieces-finished : (i : ℕ) × (fed_pieces (begin_call m) parts ≡ fed (Finished rows stored i) n' m')
  unfolding begin_call
  pieces-finished = let (i, q) = pieces_are (after_step (blank (lent_of m)) (begin m)) 0 parts in (i, q ∙ of i (run_held (after_step (blank (lent_of m)) (begin m)) (joined parts)) (sym (ap end_by q) ∙ e))
    where
      of : (i : ℕ) (h : Held) → end_by (answered h i) ≡ fed (Finished rows stored 0) n' m' → answered h i ≡ fed (Finished rows stored i) n' m'
      of i (held s l) r = end-finished-of s l i rows stored n' m' r

  -- and so do longer ones, however they are cut
  pub more-behind-end : (more : List (List ℕ)) (rest : List ℕ) → joined more ≡ joined parts ++ rest → end_by (fed_pieces (begin_call m) more) ≡ fed (Finished rows stored 0) n' m'
  more-behind-end more rest j =
      let (i, q) = pieces-finished in
      let (r, t) = more-behind-pieces m parts rows stored i n' m' q more rest j in
      end-untook (fed_pieces (begin_call m) more) ∙ ap end_by r ∙ sym (ap end_by q) ∙ e
