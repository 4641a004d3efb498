-- Demand 3 through the calls: what waits took all bytes; a refusal's place, and a finished reading's count, are the bytes taken by all pieces; the byte that
-- decided is the last one taken; and no call says 12.
use mathlib.Core.Path.{◌≡◌, refl, sym, ap, ◌∙◌}
use mathlib.Core.Logic.{◌≢◌}
use mathlib.Core.List.{List, [], ◌∷◌, ◌++◌}
use Prim.Native.Nat.{ℕ, zero, suc, ◌+◌, ◌^◌, ◌<◌}
use native.Mathlib.Nat.{zero-add, add-zero}
use native.Mathlib.Numerals.{add-one}
use lib.Dec.{eqb}
use borrow.Author.Tests.{eqb-true}
use lib.ListN.{length}
use Rattle.rows.specs.declared.Cursor.{Cursor}
use Rattle.rows.specs.Memory.{Memory, fresh, zeroed, fault_of, message_limit, open_limit, no_key}
use Rattle.wire.proofs.Octets.{Bytes}
use Rattle.format.specs.declared.Answer.{Answer}
use Rattle.format.specs.declared.Answer.TheVariants.{Waiting, Finished, Refused}
use Rattle.format.specs.Reading.{bad, value, Ended, finished, refused, reading}
use Rattle.format.specs.declared.Frame.{Frame}
use Rattle.format.specs.Step.{Mode, State, wait, run, end, begin, begin_at}
use Rattle.format.specs.Numbers.{Numbers, Held, held, lent_of, state_of, memory_of, after_step, byte_step}
use Rattle.format.specs.Answers.{Fed, fed, answer_of, answered, blank, begin_call, run_held, state_in, taken_by, read, read_of, read_call}
use Rattle.format.proofs.Tests.{on_bool, clash}
use Rattle.format.proofs.Feeding.{feeding}
use Rattle.format.proofs.Cuts.{joined, run-over}
use Rattle.format.proofs.Shows.{shows-run, shows-begin, memory-of}
use Rattle.format.proofs.Pieces.{answer_in, fed_by, fed_pieces, tally, end_by, end_read, unread, feeding_calls}
use Rattle.meaning.proofs.Meaning.{never-lost}
use Rattle.format.proofs.Feeding.{waits-reading}
use Rattle.format.proofs.Placed.{unknown, absent, unfinished, external, undated, invalid, deep, full, astrays}
use Rattle.promises.proofs.Stands.{Stands, waits, finishes, faulty, declines, passes, forgets, Any, every_any, Octet, every_byte}
use Rattle.promises.proofs.Stands.{stands-begin, stands-run}
use Rattle.promises.proofs.Counted.{Waits, waits-all, run-append, pieces_are, fed-is, answer-in, tally-is, answer-waits, waits-answer, last_byte}
use Rattle.promises.proofs.Counted.{decided-taken, cost-answer, Decided-by, decided-says}
use Rattle.format.specs.Refusals as refusals

-- ---- begin and any pieces

-- what begin leaves
abbrev first : Memory → Held
first m = after_step (blank (lent_of m)) (begin m)

-- the numbers and loans after them, and where their state stands
record Course (m : Memory) (parts : List (List ℕ)) : Type 0 where
  numbers : Numbers
  loans : Memory
  count : ℕ
  fed_so : fed_pieces (begin_call m) parts ≡ fed (answer_of (state_of numbers loans) count) numbers loans
  stands : Stands Unit Any (tally (begin_call m) parts) (state_of numbers loans)
  all : Waits (state_of numbers loans) → tally (begin_call m) parts ≡ length (joined parts)
  octets : Bytes (joined parts) → Stands Unit Octet (tally (begin_call m) parts) (state_of numbers loans)
  runs : Bytes (joined parts) → state_of numbers loans ≡ run (begin m) (joined parts)
  ends : Bytes (joined parts) → end (state_of numbers loans) ≡ reading m (joined parts)

-- they are those of the joined bytes
course-of : (m : Memory) (parts : List (List ℕ)) (h : Held) → h ≡ run_held (first m) (joined parts) → Course m parts
unfolding begin_call
course-of m parts (held n k) e =
    let (i, q) = pieces_are (first m) 0 parts in
    let t : taken_by (first m) (joined parts) ≡ tally (answered (first m) 0) parts = sym (tally-is (first m) 0 parts) in
    let s : state_in (run_held (first m) (joined parts)) ≡ state_of n k = ap state_in (sym e) in
    record {
      numbers = n;
      loans = k;
      count = i;
      fed_so = q ∙ ap (λ h. answered h i) (sym e);
      stands = rw (s, zero-add, t) at (stands-run (first m) (joined parts) (every_any (joined parts)) (stands-begin m));
      all = λ w. sym t ∙ waits-all (first m) (joined parts) (rw (← s) at w);
      octets = λ o. rw (s, zero-add, t) at (stands-run (first m) (joined parts) (every_byte (joined parts) o) (stands-begin m));
      runs = λ o. sym s ∙ (shows-run (begin m) (first m) (joined parts) o (shows-begin m)).shown;
      ends = λ o. ap end (sym s ∙ (shows-run (begin m) (first m) (joined parts) o (shows-begin m)).shown) ∙ feeding m (joined parts);
    }

-- the course of any pieces
course : (m : Memory) (parts : List (List ℕ)) → Course m parts
course m parts = course-of m parts (run_held (first m) (joined parts)) refl

-- its last state
abbrev last : Memory → List (List ℕ) → State
last m parts = state_of (course m parts).numbers (course m parts).loans

-- its answer
answer-course : (m : Memory) (parts : List (List ℕ)) (a : Answer) → answer_in (fed_pieces (begin_call m) parts) ≡ a
    → answer_of (last m parts) (course m parts).count ≡ a
answer-course m parts a e = sym (ap answer_in (course m parts).fed_so) ∙ e

-- ---- what the state says

-- a refusal has the place that it has come to, but for 1 and 12
place_at : {at : ℕ} (s : State) (i n told place k : ℕ) → Stands Unit Any at s → answer_of s i ≡ Refused n told place k → n ≢ refusals.bad_loan → n ≢ refusals.lost → at ≡ place
place_at s i n told place k (waits e) q f g = clash cc
place_at s i n told place k (finishes e) q f g = clash cc
place_at s i n told place k (faulty u l h e) q f g = absurd (f cc)
place_at s i n told place k (declines b m y (unknown l e) h z) q f g = cc
place_at s i n told place k (declines b m y (absent e) h z) q f g = cc
place_at s i n told place k (declines b m y (unfinished e) h z) q f g = cc
place_at s i n told place k (declines b m y (external e) h z) q f g = cc
place_at s i n told place k (declines b m y (undated e) h z) q f g = cc
place_at s i n told place k (declines b m y (invalid e) h z) q f g = cc
place_at s i n told place k (declines b m y (deep e) h z) q f g = cc
place_at s i n told place k (declines b m y (full t e) h z) q f g = cc
place_at s i n told place k (declines b m y astrays h z) q f g = absurd (g cc)
place_at s i n told place k (passes m e p z) q f g = cc
place_at s i n told place k (forgets b m y h z) q f g = absurd (g cc)

-- 11 has the limit
limit-at : {at : ℕ} (s : State) (i told place k : ℕ) → Stands Unit Any at s → answer_of s i ≡ Refused refusals.too_long told place k
    → (told ≡ 0) × (place ≡ message_limit) × (at ≡ message_limit)
limit-at s i told place k (waits e) q = clash cc
limit-at s i told place k (finishes e) q = clash cc
limit-at s i told place k (faulty u l h e) q = clash cc
limit-at s i told place k (declines b m y (unknown l e) h z) q = clash cc
limit-at s i told place k (declines b m y (absent e) h z) q = clash cc
limit-at s i told place k (declines b m y (unfinished e) h z) q = clash cc
limit-at s i told place k (declines b m y (external e) h z) q = clash cc
limit-at s i told place k (declines b m y (undated e) h z) q = clash cc
limit-at s i told place k (declines b m y (invalid e) h z) q = clash cc
limit-at s i told place k (declines b m y (deep e) h z) q = clash cc
limit-at s i told place k (declines b m y (full t e) h z) q = clash cc
limit-at s i told place k (declines b m y astrays h z) q = clash cc
limit-at s i told place k (passes m e p z) q = (cc, cc, cc)
limit-at s i told place k (forgets b m y h z) q = clash cc

-- a finished state's reading, and a refused one's
finished-at : {at : ℕ} (s : State) (i rows bytes k : ℕ) → Stands Unit Any at s → answer_of s i ≡ Finished rows bytes k
    → read_of (end s) ≡ read (Finished rows bytes at) (memory_of s)
unfolding end
finished-at s i rows bytes k (waits e) q = clash cc
finished-at s i rows bytes k (finishes {c = c} e) q = let f : c.rows ≡ rows = cc in let g : c.store ≡ bytes = cc in rw (e, f, g)
finished-at s i rows bytes k (faulty u l h e) q = clash cc
finished-at s i rows bytes k (declines b m y r h z) q = clash cc
finished-at s i rows bytes k (passes m e p z) q = clash cc
finished-at s i rows bytes k (forgets b m y h z) q = clash cc

-- of bytes a refused state is its own end
refused-at : {at : ℕ} (s : State) (i n told place k : ℕ) → Stands Unit Octet at s → answer_of s i ≡ Refused n told place k
    → end s ≡ refused n told place (memory_of s)
unfolding end
refused-at s i n told place k (waits e) q = clash cc
refused-at s i n told place k (finishes e) q = clash cc
refused-at s i n told place k (faulty u l h e) q = cc
refused-at s i n told place k (declines b m y r h z) q = cc
refused-at s i n told place k (passes m e p z) q = cc
refused-at s i n told place k (forgets b m y h z) q = absurd (h y)

-- ---- the theorems

module _ (m : Memory) (parts : List (List ℕ)) where
  -- what waits took all
  pub waiting-tally : (k : ℕ) → answer_in (fed_pieces (begin_call m) parts) ≡ Waiting k → tally (begin_call m) parts ≡ length (joined parts)
  waiting-tally k e = (course m parts).all (answer-waits (last m parts) (course m parts).count k (answer-course m parts (Waiting k) e))

  -- a refusal's place is the count of the bytes taken, but for 1 and 12
  pub refused-tally : (n told place k : ℕ) → answer_in (fed_pieces (begin_call m) parts) ≡ Refused n told place k → n ≢ refusals.bad_loan → n ≢ refusals.lost
      → tally (begin_call m) parts ≡ place
  refused-tally n told place k e f g = place_at _ _ n told place k (course m parts).stands (answer-course m parts _ e) f g

  -- 11 is told where as many are taken as may be, and tells 0
  pub limit-tally : (told place k : ℕ) → answer_in (fed_pieces (begin_call m) parts) ≡ Refused refusals.too_long told place k
      → (told ≡ 0) × (place ≡ message_limit) × (tally (begin_call m) parts ≡ message_limit)
  limit-tally told place k e = limit-at _ _ told place k (course m parts).stands (answer-course m parts _ e)

  module _ (s : Numbers) (l : Memory) where
    course-loans : (a : Answer) → fed_pieces (begin_call m) parts ≡ fed a s l → memory_of (last m parts) ≡ l
    course-loans a e =
        let v = course m parts in
        let q : fed (answer_of (last m parts) v.count) v.numbers v.loans ≡ fed a s l = sym v.fed_so ∙ e in
        let p : v.loans ≡ l = cc in
        memory-of (course m parts).numbers (course m parts).loans ∙ p

    -- a finished one is the whole reading's answer, with all bytes taken and the same loans
    pub finished-tally : Bytes (joined parts) → (rows bytes k : ℕ) → fed_pieces (begin_call m) parts ≡ fed (Finished rows bytes k) s l
        → read_call m (joined parts) ≡ read (Finished rows bytes (tally (begin_call m) parts)) l
    unfolding read_call
    finished-tally o rows bytes k e =
        ap read_of (sym ((course m parts).ends o)) ∙ finished-at _ _ rows bytes k (course m parts).stands (answer-course m parts _ (ap answer_in e))
        ∙ ap (λ l. read (Finished rows bytes (tally (begin_call m) parts)) l) (course-loans _ e)

    -- a refused one is the whole reading's
    pub refused-reading : Bytes (joined parts) → (n told place k : ℕ) → fed_pieces (begin_call m) parts ≡ fed (Refused n told place k) s l
        → reading m (joined parts) ≡ refused n told place l
    refused-reading o n told place k e =
        sym ((course m parts).ends o) ∙ refused-at _ _ n told place k ((course m parts).octets o) (answer-course m parts _ (ap answer_in e))
        ∙ ap (λ l. refused n told place l) (course-loans _ e)

    -- a waiting one is a run that waits, at the place that it has come to, with loans that were not refused
    pub waiting-run : Bytes (joined parts) → (k : ℕ) → fed_pieces (begin_call m) parts ≡ fed (Waiting k) s l
        → (x : Mode) × (ts : List Frame) × (c : Cursor) × (run (begin m) (joined parts) ≡ wait x ts c l) × (c.at ≡ tally (begin_call m) parts)
    waiting-run o k e =
        of (last m parts) (course m parts).stands (answer-course m parts (Waiting k) (ap answer_in e)) (course-loans (Waiting k) e)
        (sym ((course m parts).runs o))
      where
        of : {at : ℕ} (t : State) → Stands Unit Any at t → answer_of t (course m parts).count ≡ Waiting k → memory_of t ≡ l → run (begin m) (joined parts) ≡ t
            → (x : Mode) × (ts : List Frame) × (c : Cursor) × (run (begin m) (joined parts) ≡ wait x ts c l) × (c.at ≡ at)
        of t (waits {x = x} {ts = ts} {c = c} e) q h r = (x, ts, c, r ∙ ap (λ k. wait x ts c k) h, e)
        of t (finishes e) q h r = clash cc
        of t (faulty u i j e) q h r = clash cc
        of t (declines b i y r' j z) q h r = clash cc
        of t (passes i e f z) q h r = clash cc
        of t (forgets b i y f z) q h r = clash cc

    -- the loans were not refused
    pub waiting-lent : Bytes (joined parts) → (k : ℕ) → fed_pieces (begin_call m) parts ≡ fed (Waiting k) s l → fault_of m ≡ 0
    unfolding begin
    waiting-lent o k e = let (x, ts, c, q, p) = waiting-run o k e in of (fault_of m) q
      where
        of : (fault : ℕ) {x : Mode} {ts : List Frame} {c : Cursor} → run (begin_at fault m) (joined parts) ≡ wait x ts c l → fault ≡ 0
        of zero q = refl
        of (suc loan) q = let r = run-over (refused refusals.bad_loan (suc loan) 0 m) (joined parts) in clash cc

  -- ---- never 12

  -- a refused course is a refused reading
  refused_any : Bytes (joined parts) → (n told place k : ℕ) → answer_in (fed_pieces (begin_call m) parts) ≡ Refused n told place k
      → (l : Memory) × (reading m (joined parts) ≡ refused n told place l)
  refused_any o n told place k e =
      (memory_of (last m parts), sym ((course m parts).ends o) ∙ refused-at _ _ n told place k ((course m parts).octets o) (answer-course m parts _ e))

  -- no feed says 12
  pub feed-never-lost : Bytes (joined parts) → (told place k : ℕ) → answer_in (fed_pieces (begin_call m) parts) ≢ Refused refusals.lost told place k
  feed-never-lost h told place k e =
      let (l, q) = refused_any h refusals.lost told place k e in
      never-lost m (joined parts) h refusals.lost told place l q refl

  -- and no end
  pub end-never-lost : Bytes (joined parts) → (told place k : ℕ) → answer_in (end_by (fed_pieces (begin_call m) parts)) ≢ Refused refusals.lost told place k
  unfolding read_call
  end-never-lost h told place k e =
      let (l, q) = of (end_by (fed_pieces (begin_call m) parts)) (reading m (joined parts)) (feeding_calls m parts h) e in
      never-lost m (joined parts) h refusals.lost told place l q refl
    where
      of : (f : Fed) (e : Ended) → end_read f ≡ unread (read_of e) → answer_in f ≡ Refused refusals.lost told place k → (l : Memory) × (e ≡ refused refusals.lost told place l)
      of (fed a n l) (finished c k) q p = clash cc
      of (fed a n l) (refused number t pl k) q p = (k, cc)

-- ---- the byte that decides

-- but for 11 and 12 the last byte is one
last_one : (a : Answer) → ((told place k : ℕ) → a ≢ Refused refusals.too_long told place k) → ((told place k : ℕ) → a ≢ Refused refusals.lost told place k) → last_byte a ≡ 1
last_one (Waiting n) f g = refl
last_one (Finished rows bytes n) f g = refl
last_one (Refused number told place n) f g =
    on_bool (eqb number refusals.too_long) (λ e. absurd (f told place n (ap (λ i. Refused i told place n) (eqb-true number refusals.too_long e))))
    (λ e. on_bool (eqb number refusals.lost) (λ h. absurd (g told place n (ap (λ i. Refused i told place n) (eqb-true number refusals.lost h)))) (λ h. rw (e, h)))

-- the bytes a wait, one more decides, and whatever follows is cut anyhow
module _ (m : Memory) (a : List ℕ) (b : ℕ) (rest : List ℕ) (parts : List (List ℕ)) (cut : joined parts ≡ a ++ (b ∷ rest)) (i : ℕ)
    (octet : b < 2 ^ 8) (before : answer_in (fed_by (begin_call m) a) ≡ Waiting i) (after : (j : ℕ) → answer_in (fed_by (begin_call m) (a ++ (b ∷ []))) ≢ Waiting j) where
  before-waits : Waits (state_in (run_held (first m) a))
  unfolding begin_call
  before-waits =
      let h : Held = first m in
      answer-waits (state_in (run_held h a)) (taken_by h a) i (sym (ap answer_in (fed-is h 0 a) ∙ answer-in (run_held h a) (taken_by h a)) ∙ before)

  -- the byte b ends it
  after-ended : Waits (state_in (byte_step b (run_held (first m) a))) → ⊥
  unfolding begin_call run_held
  after-ended u =
      let h : Held = first m in
      let ab : List ℕ = a ++ (b ∷ []) in
      after (taken_by h ab) (ap answer_in (fed-is h 0 ab) ∙ answer-in (run_held h ab) (taken_by h ab)
      ∙ ap (λ g. answer_of (state_in g) (taken_by h ab)) (run-append h a (b ∷ [])) ∙ waits-answer (state_in (byte_step b (run_held h a))) (taken_by h ab) u)

  -- the answer to the pieces is that of the state behind them
  answer-after : (k : ℕ) × (answer_in (fed_pieces (begin_call m) parts) ≡ answer_of (state_in (run_held (first m) (a ++ (b ∷ rest)))) k)
  unfolding begin_call
  answer-after =
      let h : Held = first m in
      let (k, q) = pieces_are h 0 parts in
      (k, ap answer_in q ∙ answer-in (run_held h (joined parts)) k ∙ ap (λ bs. answer_of (state_in (run_held h bs)) k) cut)

  -- that byte is the last one taken, and for 11 and 12 the last of a
  pub decides : tally (begin_call m) parts ≡ length a + last_byte (answer_in (fed_pieces (begin_call m) parts))
  unfolding begin_call
  decides =
      let h : Held = first m in
      let (k, p) = answer-after in
      tally-is h 0 parts ∙ ap (taken_by h) cut ∙ decided-taken h a b rest octet before-waits after-ended
      ∙ ap (λ n. length a + n) (cost-answer (state_in (run_held h (a ++ (b ∷ rest)))) k ∙ ap last_byte (sym p))

  -- of bytes, for every answer but 11
  pub decides-taken : Bytes (joined parts) → ((told place k : ℕ) → answer_in (fed_pieces (begin_call m) parts) ≢ Refused refusals.too_long told place k)
      → tally (begin_call m) parts ≡ suc (length a)
  decides-taken h f =
      let o = last_one (answer_in (fed_pieces (begin_call m) parts)) f (feed-never-lost m parts h) in
      decides ∙ ap (λ n. length a + n) o ∙ add-one (length a)

  -- and for 11
  pub decides-limit : (told place k : ℕ) → answer_in (fed_pieces (begin_call m) parts) ≡ Refused refusals.too_long told place k → tally (begin_call m) parts ≡ length a
  decides-limit told place k e = decides ∙ ap (λ (x : Answer). length a + last_byte x) e ∙ add-zero (length a)

  -- the answer is that byte's: a refusal has its place, and 3 tells it
  pub decides-by : Bytes (joined parts) → Decided-by b (suc (length a)) (answer_in (fed_pieces (begin_call m) parts))
  decides-by o =
      rw answer-after.1 (decided-says (first m) a b rest octet before-waits after-ended (stands-begin m) answer-after.0 (rw answer-after.1 at (feed-never-lost m parts o)))

-- ---- the loans while it waits

-- while begin and any pieces wait, the loans are what that reading of the joined bytes left
pub waits-loans : (m : Memory) (parts : List (List ℕ)) → Bytes (joined parts) → (k : ℕ) (n : Numbers) (l : Memory) → fed_pieces (begin_call m) parts ≡ fed (Waiting k) n l
    → value open_limit no_key (zeroed m) fresh (joined parts) ≡ bad refusals.unexpected_end 0 (tally (begin_call m) parts) l
waits-loans m parts o k n l e =
    let (x, ts, c, q, p) = waiting-run m parts n l o k e in
    waits-reading m (joined parts) x ts c l (waiting-lent m parts n l o k e) q ∙ ap (λ (i : ℕ). bad refusals.unexpected_end 0 i l) p
