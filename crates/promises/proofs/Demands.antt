-- The three demands, and requests 4 and 13, sentence by sentence, each with its theorem. The proofs stand in the crates format, beside the definitions, and meaning, and in this one.
-- Where a theorem refuses a wrong program that keeps the others, it says so.
use Rattle.std.proofs.Common.{Some, None}
use mathlib.Core.Path.{◌≡◌, refl}
use mathlib.Core.Bool.{true, false, cond, not, ◌&&◌}
use mathlib.Core.Logic.{◌≢◌}
use mathlib.Core.List.{List, [], ◌∷◌, ◌++◌, map}
use Prim.Native.Nat.{ℕ, suc, ◌+◌, ◌*◌, ◌-◌, ◌/◌, ◌%◌, ◌^◌, ◌≤◌, ◌<◌, min}
use lib.Dec.{T, leb, eqb}
use lib.IntN.{ℤ, pos, neg_ℤ}
use lib.Ieee.{fin, binary64, up, down, whole, of_int, of_bits, to_bits, to_unsigned}
use lib.ListN.{length, take, drop, replicate}
use Rattle.rows.specs.declared.Cursor.{Cursor}
use Rattle.rows.specs.declared.Key.{Key}
use Rattle.rows.specs.declared.Span.{Span}
use Rattle.wire.specs.declared.Part.TheVariants.{Whole}
use Rattle.wire.specs.U29.{part_of}
use Rattle.wire.specs.Big.{number_of, bytes_of}
use Rattle.wire.specs.Date.{refused_date, moment_of, bounded}
use Rattle.wire.specs.Word.{size_of}
use Rattle.utf8.specs.States.{step_of}
use Rattle.rows.specs.Memory.{span_width, loan_rows, loan_store, loan_strings, loan_objects}
use Rattle.rows.specs.Memory.{Memory, fresh, zeroed, fault_of, rows_fault, message_limit, open_limit, no_key, col_kind, col_body_begin, col_body_size, col_number, rows_in, col}
use Rattle.rows.specs.Kinds.{kind_date, kind_reference}
use Rattle.format.specs.Refusals as no
use Rattle.format.specs.declared.Answer.{Answer}
use Rattle.format.specs.declared.Answer.TheVariants.{Waiting, Finished, Refused}
use Rattle.std.specs.Prelude.{Ok, Err}
use Rattle.format.specs.declared.Frame.{Frame}
use Rattle.format.specs.Bodies as body
use Rattle.format.specs.Reading as reader
use Rattle.format.specs.Reading.{ok, bad, Ended, finished, refused, ended, unless_fault, reading}
use Rattle.format.specs.Step.{Mode, at_marker, at_word, at_text, Word, Text, table_text, Use, wait, over, none, shown, end, run, begin}
use Rattle.format.specs.Numbers.{Numbers, state_of, lent_of, frames_size}
use Rattle.format.specs.Answers.{Fed, fed, answer_of, begin_call, feed_call, end_call, read, read_call, output, refusal_of, write_call, text_call, millis_call}
use Rattle.format.specs.Standard.{Tables, Tree, Std, plain, date, no_tables, new_of, value, standard, encode}
use Rattle.format.specs.Unfold.{home, part, node, unfolded}
use Rattle.format.specs.Holds.{can_hold}
use Rattle.format.specs.RowTest.{fine, key_writable, writable, tested}
use Rattle.format.specs.Writing.{written, unwritten, writing}
use Rattle.wire.specs.Octets.{Bytes}
use Rattle.format.specs.Claims.{joined, answer_in, taken_in, untaken, fed_by, fed_pieces, tally, untook, end_by, end_read, unread, first_numbers, refused_numbers}
use Rattle.format.specs.Claims.{lost_numbers, place_in, last_byte, Named, BeginSays, FeedSays, EndSays, ReadSays, WriteRefuses, WriteSays, read_answer, write_answer}
use Rattle.format.specs.Claims.{Going, FeedLeaves, EndLeaves, Feeds, used_rows, Shallow, Returns, Held_just, Wide, Again, NoShorter, Roomy, widened, beyond}
use Rattle.format.specs.Claims.{extra, used, tree_read, RefusedWith, RowNew, TextKind}
use Rattle.format.specs.Byte.{Decided-by}
use Rattle.format.specs.Limits.{Accord, Kept-to, ReadingEnds, asked, Enters}
use Rattle.format.specs.Meant.{StateMeant}
use Rattle.format.specs.Together.{Together, HoldsTogether}
use Rattle.format.specs.Strays.{Strays}
use Rattle.format.specs.Endings.{TestSays, Ends, Outcome, Accepted, depth}
use Rattle.format.specs.Orders.{Order, order_bytes, order_tree, back_to_back, HoldsEach, findings, read_in_turn, fed_findings, found_before, fed_in_turn}
use Rattle.wire.proofs.Dates as moments
use Rattle.format.proofs.Feeding as feeding
use Rattle.format.proofs.Cuts as cuts
use Rattle.format.proofs.Pieces as pieces
use Rattle.format.proofs.Unique as unique
use Rattle.format.proofs.Meant as meant
use Rattle.format.proofs.Least as least
use Rattle.format.proofs.Wiped as wiped
use Rattle.format.proofs.Levels as levels
use Rattle.meaning.proofs.Meaning as meaning
use Rattle.meaning.proofs.Finished as tables
use Rattle.meaning.proofs.Depth as deeper
use Rattle.meaning.proofs.Fuel as fuel
use Rattle.meaning.proofs.Writes as writes
use Rattle.format.specs.Writable.{Writable}
use Rattle.meaning.proofs.Round as round
use Rattle.meaning.proofs.Size as size
use Rattle.meaning.proofs.Exactly as exactly
use Rattle.meaning.proofs.Trip as trip
use Rattle.meaning.proofs.Orders as orders
use Rattle.promises.proofs.Decides as decides
use Rattle.promises.proofs.Answered as answered
use Rattle.promises.proofs.Together as together
use Rattle.promises.proofs.Strays as strays
use Rattle.promises.proofs.Holding as holding
use Rattle.promises.proofs.Precedence as precedence
use Rattle.promises.proofs.Appears as appears
use Rattle.promises.proofs.Ranges as ranges
use Rattle.promises.proofs.Ample as ample
use Rattle.promises.proofs.Ties as ties
use Rattle.promises.proofs.Dates as dates
use Rattle.promises.proofs.Roomy as roomy
use Rattle.promises.proofs.Trips as trips
use Rattle.promises.proofs.Behind as behind
use Rattle.promises.proofs.Turns as turns
use Rattle.promises.proofs.FedTurns as fed-turns

-- ======== 1. Total

-- "For any bytes, any rows, any half-read state, any lent memory, each public call ends with an answer that document 01 names. No public call has a requires."
-- By type: begin_call, feed_call, end_call, read_call, write_call, text_call and millis_call are functions of anything, and their answers are Answers.antt's. Which of them, and with
-- what values: begin waits or gives 1 with a loan
pub begin-named : (m : Memory) → BeginSays (answer_in (begin_call m))
begin-named = ranges.begin-says

-- feed waits and took all, finishes within what can be lent, or refuses by 1 to 12 with values in range. Refuses: 11 telling 7 at place 0, 12 telling 9 at place 9
pub feed-named : (state : Numbers) (m : Memory) (part : List ℕ) → FeedSays (length part) (answer_in (feed_call state m part))
feed-named = ranges.feed-says

-- end never waits
pub end-named : (state : Numbers) (m : Memory) → EndSays (answer_in (end_call state m))
end-named = ranges.end-says

-- what waited is refused by 2 at its place
pub end-of-waiting : (state : Numbers) (m : Memory) (x : Mode) (ts : List Frame) (c : Cursor) → state_of state m ≡ wait x ts c m
    → end_call state m ≡ fed (Refused no.unexpected_end 0 c.at 0) (refused_numbers no.unexpected_end 0 c.at state.head.lent state.frames) (zeroed m)
end-of-waiting = answered.end-waits

-- read never waits, and gives 1 to 11
pub read_named : (m : Memory) (bytes : List ℕ) → Bytes bytes → ReadSays (length bytes) (read_answer (read_call m bytes))
read_named = ranges.read-says

-- write reports no more bytes than the output has, or gives 1, 9, 10, 13 or 14
pub write-named : (R B out : List ℕ) → WriteSays (rows_in R) (length out) (write_answer (write_call R B out))
write-named = ranges.write-says

-- each such refusal is one of document 01's
pub refusal-named : (n told place : ℕ) → T (no.sayable n told place) → Named n told place
refusal-named = ranges.sayable-named

-- and so is each of write
pub write-refusal-named : {rows out n told place : ℕ} → WriteRefuses rows out n told place → Named n told place
write-refusal-named = ranges.write-named

-- what the numbers of a state are: by its status, its mode and purpose, and its frames, as the tables of codes say. Refuses: an unknown mode taken for a marker
pub numbers_mean : (state : Numbers) (m : Memory) → StateMeant state m (state_of state m)
numbers_mean = meant.numbers_mean

-- a state never begun says 12, to no bytes too. Refuses: a state never begun that answers waiting to an empty piece
pub unbegun-says : (state : Numbers) (m : Memory) → state_of state m ≡ none m → feed_call state m [] ≡ fed (Refused no.lost 0 0 0) state m
unbegun-says = pieces.unbegun-nothing

-- to bytes it says so and zeroes the loans
pub unbegun-lost : (state : Numbers) (m : Memory) (b : ℕ) (bs : List ℕ) → state_of state m ≡ none m
    → feed_call state m (b ∷ bs) ≡ fed (Refused no.lost 0 0 0) (lost_numbers state) (zeroed m)
unbegun-lost = answered.unbegun-lost

-- and so at the end
pub unbegun-at-end : (state : Numbers) (m : Memory) → state_of state m ≡ none m → end_call state m ≡ fed (Refused no.lost 0 0 0) (lost_numbers state) (zeroed m)
unbegun-at-end = answered.end-unbegun

-- a waiting state that doesn't hold together gets 12 at its next byte, which isn't taken. Refuses: an unsound state that swallows its byte and waits on
pub apart-lost : (state : Numbers) (m : Memory) (b : ℕ) (bs : List ℕ) (x : Mode) (ts : List Frame) (c : Cursor) → state_of state m ≡ wait x ts c m
    → (Together state.head.lent x ts c m → ⊥) → feed_call state m (b ∷ bs) ≡ fed (Refused no.lost 0 0 0) (lost_numbers state) (zeroed m)
apart-lost = together.apart-lost

-- one that holds together, with its frames and the tables, never gets it. Refuses: a step that says 12 where nothing that it reads is out of range
pub together-never_12 : (state : Numbers) (m : Memory) (b : ℕ) (x : Mode) (ts : List Frame) (c : Cursor) → b < 2 ^ 8 → state_of state m ≡ wait x ts c m
    → HoldsTogether state.head.lent x ts c m → (told place k : ℕ) → answer_in (feed_call state m (b ∷ [])) ≢ Refused no.lost told place k
together-never_12 = holding.together-never-lost

-- one whose head does gets it where the byte looks up what is out of range. Refuses: a step that goes on by an entry, a name or a frame that is out of range
pub strays-lost : (state : Numbers) (m : Memory) (b : ℕ) (bs : List ℕ) (x : Mode) (ts : List Frame) (c : Cursor) → state_of state m ≡ wait x ts c m
    → Together state.head.lent x ts c m → c.at < message_limit → Strays b x ts c m
    → feed_call state m (b ∷ bs) ≡ fed (Refused no.lost 0 0 0) (lost_numbers state) (zeroed m)
strays-lost = strays.strays-lost

-- and only there. Refuses: a step that says 12 for an entry, a name or a frame that the byte doesn't look up
pub lost-strays : (state : Numbers) (m : Memory) (b : ℕ) (x : Mode) (ts : List Frame) (c : Cursor) → b < 2 ^ 8 → state_of state m ≡ wait x ts c m
    → Together state.head.lent x ts c m → (told place k : ℕ) → answer_in (feed_call state m (b ∷ [])) ≡ Refused no.lost told place k
    → (c.at < message_limit) × Strays b x ts c m
lost-strays = strays.lost-strays

-- whatever the state, a new refusal's place is the place of the byte that it was decided by
pub feed-places : (state : Numbers) (m : Memory) (b : ℕ) (bs : List ℕ) → Going (state_of state m)
    → Feeds (place_in (state_of state m)) (b ∷ bs) (answer_in (feed_call state m (b ∷ bs)))
feed-places = answered.feed-going

-- of two refusals that are due at one byte, on any state whose head holds together: 11 comes before the byte is looked at
pub limit-first : (state : Numbers) (m : Memory) (b : ℕ) (bs : List ℕ) (x : Mode) (ts : List Frame) (c : Cursor) → state_of state m ≡ wait x ts c m
    → Together state.head.lent x ts c m → c.at ≡ message_limit → RefusedWith state m (b ∷ bs) no.too_long 0 message_limit 0
limit-first = precedence.limit-first

-- at a marker 3, however deep it is and however full the rows are
pub marker-unknown : (state : Numbers) (m : Memory) (b : ℕ) (bs : List ℕ) (k : Key) (ts : List Frame) (c : Cursor) → state_of state m ≡ wait (at_marker k) ts c m
    → Together state.head.lent (at_marker k) ts c m → b < 2 ^ 8 → c.at < message_limit → 0x11 < b → RefusedWith state m (b ∷ bs) no.bad_marker b (suc c.at) 1
marker-unknown = precedence.marker-unknown

-- then 9 wherever 64 are open, however full the rows are
pub marker-deep : (state : Numbers) (m : Memory) (b : ℕ) (bs : List ℕ) (k : Key) (ts : List Frame) (c : Cursor) → state_of state m ≡ wait (at_marker k) ts c m
    → Together state.head.lent (at_marker k) ts c m → b < 2 ^ 8 → c.at < message_limit → b ≤ 0x11 → length ts ≡ open_limit
    → RefusedWith state m (b ∷ bs) no.too_deep 0 (suc c.at) 1
marker-deep = precedence.marker-deep

-- then 10 for rows
pub marker-full : (state : Numbers) (m : Memory) (b : ℕ) (bs : List ℕ) (k : Key) (ts : List Frame) (c : Cursor) → state_of state m ≡ wait (at_marker k) ts c m
    → Together state.head.lent (at_marker k) ts c m → b < 2 ^ 8 → c.at < message_limit → b ≤ 0x11 → length ts < open_limit
    → rows_in m.rows ≤ c.rows → RefusedWith state m (b ∷ bs) no.no_room loan_rows (suc c.at) 1
marker-full = precedence.marker-full

-- at the last byte of a literal object's word the objects' room, before all that follows
pub objects-first : (state : Numbers) (m : Memory) (b : ℕ) (bs : List ℕ) (x : Word) (left part v : ℕ) (ts : List Frame) (c : Cursor)
    → state_of state m ≡ wait (at_word x left part) ts c m → Together state.head.lent (at_word x left part) ts c m → b < 2 ^ 8 → c.at < message_limit
    → part_of left part b ≡ Some (Whole v) → Enters x v → length m.objects ≤ c.objects → RefusedWith state m (b ∷ bs) no.no_room loan_objects (suc c.at) 1
objects-first = precedence.objects-first

-- then room in the store, as soon as the length is known
pub store-next : (state : Numbers) (m : Memory) (b : ℕ) (bs : List ℕ) (x : Word) (left part v : ℕ) (ts : List Frame) (c : Cursor)
    → state_of state m ≡ wait (at_word x left part) ts c m → Together state.head.lent (at_word x left part) ts c m → b < 2 ^ 8 → c.at < message_limit
    → part_of left part b ≡ Some (Whole v) → (Enters x v → c.objects < length m.objects) → length m.store < c.store + asked x (size_of v)
    → RefusedWith state m (b ∷ bs) no.no_room loan_store (suc c.at) 1
store-next = precedence.store-next

-- at a text's last byte 8, however full the strings are
pub text-first : (state : Numbers) (m : Memory) (b : ℕ) (bs : List ℕ) (x : Text) (s : Span) (test : ℕ) (ts : List Frame) (c : Cursor)
    → state_of state m ≡ wait (at_text x s 0 test) ts c m → Together state.head.lent (at_text x s 0 test) ts c m → b < 2 ^ 8 → c.at < message_limit
    → step_of test b ≢ 0 → RefusedWith state m (b ∷ bs) no.bad_text 0 (suc c.at) 1
text-first = precedence.text-first

-- then room for the string's entry
pub strings-next : (state : Numbers) (m : Memory) (b : ℕ) (bs : List ℕ) (u : Use) (s : Span) (test : ℕ) (ts : List Frame) (c : Cursor)
    → state_of state m ≡ wait (at_text (table_text u) s 0 test) ts c m → Together state.head.lent (at_text (table_text u) s 0 test) ts c m → b < 2 ^ 8
    → c.at < message_limit → step_of test b ≡ 0 → length m.strings / span_width ≤ c.strings → RefusedWith state m (b ∷ bs) no.no_room loan_strings (suc c.at) 1
strings-next = precedence.strings-next

-- "A refused reading leaves the loans as document 01 says": after 1 as found, after any other refusal all of them zero
pub refused-by_1 : (m : Memory) (bytes : List ℕ) (loan : ℕ) → fault_of m ≡ suc loan → reading m bytes ≡ refused no.bad_loan (suc loan) 0 m
refused-by_1 = wiped.fault-left

-- and after any other refusal
pub refused-reading : (m : Memory) (bytes : List ℕ) (n told place : ℕ) (m' : Memory) → reading m bytes ≡ refused n told place m' → n ≢ no.bad_loan → m' ≡ zeroed m
refused-reading = wiped.refused-zero

-- begin leaves the loans zero and the first state, or after 1 the loans as found and a refused state
pub begin-waits : (m : Memory) → fault_of m ≡ 0 → begin_call m ≡ fed (Waiting 0) (first_numbers (lent_of m)) (zeroed m)
begin-waits = answered.begin-waits

-- after 1
pub begin-refuses : (m : Memory) (loan : ℕ) → fault_of m ≡ suc loan
    → begin_call m ≡ fed (Refused no.bad_loan (suc loan) 0 0) (refused_numbers no.bad_loan (suc loan) 0 (lent_of m) (replicate frames_size 0)) m
begin-refuses = answered.begin-refuses

-- feed and end on any state and loans: a refusal that is new leaves all loans zero, one that is repeated leaves everything
pub feed-leaves : (state : Numbers) (m : Memory) (n told place k : ℕ) (state' : Numbers) (m' : Memory) (part : List ℕ)
    → feed_call state m part ≡ fed (Refused n told place k) state' m' → FeedLeaves state m part n told place k state' m'
feed-leaves = answered.feed-leaves

-- the same of end
pub end_leaves : (state : Numbers) (m : Memory) (n told place k : ℕ) (state' : Numbers) (m' : Memory)
    → end_call state m ≡ fed (Refused n told place k) state' m' → EndLeaves state m n told place state' m'
end_leaves = answered.end_leaves

-- "a refused writing leaves the output untouched"
pub refused-writing : (R B out P : List ℕ) (n told place : ℕ) → writing R B out ≡ unwritten n told place P → P ≡ out
refused-writing = writes.refused

-- ======== 2. Meaning

-- the calls are of the reading and the writing that the theorems below speak of: a finished read tells rows and store bytes used, and bytes taken
pub read-finished : (m : Memory) (bytes : List ℕ) (c : Cursor) (k : Memory) → reading m bytes ≡ finished c k
    → read_call m bytes ≡ read (Finished c.rows c.store c.at) k
read-finished = ties.read-finished

-- a refused one its refusal. Refuses: a read that finishes everything as null, whatever the reading
pub read-refused : (m : Memory) (bytes : List ℕ) (n told place : ℕ) (k : Memory) → reading m bytes ≡ refused n told place k
    → read_call m bytes ≡ read (Refused n told place 0) k
read-refused = ties.read-refused

-- an accepted write reports its bytes, and a refused one its refusal. Refuses: a write that refuses everything, whatever the writing
pub write-accepted : (R B out P : List ℕ) (n : ℕ) → writing R B out ≡ written n P → write_call R B out ≡ output (Ok n) P
write-accepted = ties.write-accepted

pub write-refused : (R B out P : List ℕ) (n told place : ℕ) → writing R B out ≡ unwritten n told place P → write_call R B out ≡ output (Err (refusal_of n told place)) P
write-refused = ties.write-refused

-- what a write accepts is an accepted writing
pub write-accepts : (R B out P : List ℕ) (n : ℕ) → write_call R B out ≡ output (Ok n) P → writing R B out ≡ written n P
write-accepts = writes.call-wrote

-- text gives the part of the store that a row, or the target of a reference, says. Refuses: a text that always gives the default
pub text-there : (R B : List ℕ) (i : ℕ) (default : List ℕ) → rows_fault R B ≡ 0 → TextKind (col R (home R i) col_kind)
    → col R (home R i) col_body_begin + col R (home R i) col_body_size ≤ length B
    → text_call R B i default ≡ part B (col R (home R i) col_body_begin) (col R (home R i) col_body_size)
text-there = ties.text-there

-- and the default where a loan is faulty, the row has no text, or its span is past the store
pub text-faulty : (R B : List ℕ) (i : ℕ) (default : List ℕ) → (rows_fault R B ≡ 0 → ⊥) → text_call R B i default ≡ default
text-faulty = ties.text-faulty

pub text-none : (R B : List ℕ) (i : ℕ) (default : List ℕ) → rows_fault R B ≡ 0 → (TextKind (col R (home R i) col_kind) → ⊥) → text_call R B i default ≡ default
text-none = ties.text-none

pub text-past : (R B : List ℕ) (i : ℕ) (default : List ℕ) → rows_fault R B ≡ 0 → TextKind (col R (home R i) col_kind)
    → length B < col R (home R i) col_body_begin + col R (home R i) col_body_size → text_call R B i default ≡ default
text-past = ties.text-past

-- "Reading means what Adobe's AMF 3 Specification says, proved": both finish after as many bytes with the same unfolded tree, both refuse alike (2 to 8), or the
-- reading meets a limit or a loan (9 to 11). Refuses: a trait index by eight, in wire, code and definitions alike
pub reading_means : (m : Memory) (bytes : List ℕ) → Bytes bytes → fault_of m ≡ 0 → Accord m bytes (reading m bytes) (standard bytes)
reading_means = meaning.reading_means

-- and conversely
pub standard-kept : (m : Memory) (bytes : List ℕ) → Bytes bytes → fault_of m ≡ 0 → Kept-to m bytes (reading m bytes) (standard bytes)
standard-kept = meaning.standard-kept

-- the limits: 9 and 10 have the place of a byte, 10 a loan, and 11 only where as many bytes are taken as may be and there are more
pub reading-ends : (m : Memory) (bytes : List ℕ) → Bytes bytes → ReadingEnds bytes (reading m bytes)
reading-ends = ranges.reading-named

-- and no reading finishes past the limit
pub finished-within : (m : Memory) (bytes : List ℕ) (c : Cursor) (k : Memory) → reading m bytes ≡ finished c k → c.at ≤ message_limit
finished-within = ties.finished-within

-- enough is enough: what the standard finishes, the loans can hold and isn't too deep, is read, with references and long forms too. Refuses: every trait reference
-- refused with 10, loan 5
pub enough : (m : Memory) (bytes : List ℕ) → Bytes bytes → fault_of m ≡ 0 → (t : Tree) (s : Tables) (p : ℕ) (rest : List ℕ) → standard bytes ≡ ok t s p rest
    → can_hold m t ≡ true → depth t ≤ open_limit → p ≤ message_limit → Returns (reading m bytes) p t
enough = ample.enough

-- and what they can hold is never longer than the limit
pub enough-held : (m : Memory) (bytes : List ℕ) → Bytes bytes → fault_of m ≡ 0 → (t : Tree) (s : Tables) (p : ℕ) (rest : List ℕ) → standard bytes ≡ ok t s p rest
    → can_hold m t ≡ true → depth t ≤ open_limit → Returns (reading m bytes) p t
enough-held = ample.enough-held

-- more room changes nothing but 10: the same answer, and the same loans with zeros behind
pub more_room : (m m' : Memory) (bytes : List ℕ) → Bytes bytes → fault_of m ≡ 0 → fault_of m' ≡ 0 → NoShorter m m' → Roomy (reading m bytes)
    → reading m' bytes ≡ widened (beyond m m') (reading m bytes)
more_room = roomy.more_room

-- 10 tells the loan that lacks room: while that one isn't longer, more of the others changes nothing. Refuses: 10 for the store that tells loan 5
pub same-room : (m m' : Memory) (bytes : List ℕ) → Bytes bytes → fault_of m ≡ 0 → fault_of m' ≡ 0 → NoShorter m m' → (loan place : ℕ) (m₁ : Memory)
    → reading m bytes ≡ refused no.no_room loan place m₁ → extra (beyond m m') loan ≡ 0 → reading m' bytes ≡ widened (beyond m m') (reading m bytes)
same-room = roomy.same-room

-- a finished reading finishes with more room, and the used parts are the same
pub finished-room : (m m' : Memory) (bytes : List ℕ) → Bytes bytes → fault_of m ≡ 0 → fault_of m' ≡ 0 → NoShorter m m' → (c : Cursor) (m₁ : Memory)
    → reading m bytes ≡ finished c m₁ → (m₂ : Memory) × (reading m' bytes ≡ finished c m₂) × (used c m₂ ≡ used c m₁)
finished-room = roomy.finished-room

-- a reading that is left alone never gets 12
pub never_12 : (m : Memory) (bytes : List ℕ) → Bytes bytes → (n told place : ℕ) (m' : Memory) → reading m bytes ≡ refused n told place m' → n ≢ no.lost
never_12 = meaning.never-lost

-- more fuel changes nothing of the standard
pub fuel_is-enough : (f d : ℕ) (bytes : List ℕ) → length bytes < f → length bytes < d → value f d no_tables 0 bytes ≡ standard bytes
fuel_is-enough = fuel.standard_fuel

-- more depth changes nothing but 9
pub depth-is-enough : (left : ℕ) → open_limit ≤ left → (m : Memory) (bytes : List ℕ) → Shallow (reading m bytes)
    → unless_fault (fault_of m) m (ended (reader.value left no_key (zeroed m) fresh bytes)) ≡ reading m bytes
depth-is-enough = deeper.deeper-reading

-- the unfolded tree of rows that pass is at each row what its kind says of its children's trees, and a reference's is its target's.
-- Refuses: an unfolding that takes the text of row 0 for null where it doesn't begin the store
pub unfolded-by-rows : (R B : List ℕ) → tested R B ≡ fine → (i : ℕ) → i < rows_in R → unfolded R B i ≡ node (unfolded R B) R B (home R i)
unfolded-by-rows = levels.unfolded-node

-- "Writing means what the specification says": accepted exactly where document 01 says, as `encode` of the unfolded tree, and only the bytes reported change
pub accepted-writing : (R B out P : List ℕ) (n : ℕ) → writing R B out ≡ written n P → Accepted R B out n P
accepted-writing = writes.accepted

-- and conversely
pub accepts-writing : (R B out P : List ℕ) (n : ℕ) → Accepted R B out n P → writing R B out ≡ written n P
accepts-writing = writes.accepts

-- the bytes reported are those, and no other changes
pub only-reported : (R B out P : List ℕ) (n : ℕ) → Accepted R B out n P
    → (take n P ≡ encode (unfolded R B 0)) × (drop n P ≡ drop n out) × (length P ≡ length out)
only-reported = writes.reported

-- the rows pass where there are some, and none is malformed or unwritable for one of document 01's reasons; else the first that is one is told, 13 before 14.
-- Refuses: 13 that always tells row 0, a test that lets a column with no meaning pass
pub test-says : (R B : List ℕ) → TestSays R B (tested R B)
test-says = least.test-says

-- each way that a writing ends, and where 9 and 10 fall
pub writing-ends : (R B out : List ℕ) → Outcome R B out (writing R B out)
writing-ends = writes.writes

-- "A written tree reads back as the same unfolded tree": by the standard, with no bound on its size and anything after it
pub standard-round_trip : (t : Tree) → Writable t → (rest : List ℕ) → (s : Tables) × (standard (encode t ++ rest) ≡ ok t s (length (encode t)) rest)
standard-round_trip = round.standard-round

-- "bit for bit, all bytes taken, if the loans can hold it"
pub round_trip : (R B out P : List ℕ) (n : ℕ) → Wide R → writing R B out ≡ written n P
    → (m : Memory) → can_hold m (unfolded R B 0) ≡ true → fault_of m ≡ 0 → (rest : List ℕ) → Bytes (take n P ++ rest)
    → Returns (reading m (take n P ++ rest)) n (unfolded R B 0)
round_trip = trip.round_trip

-- through the calls: what write reports of a store of bytes are bytes
pub written-bytes : (R B out P : List ℕ) (n : ℕ) → Wide R → Bytes B → write_call R B out ≡ output (Ok n) P → Bytes (take n P)
written-bytes = trips.written-bytes

-- read gives them back, whatever bytes follow, and so do begin, any pieces and the end
pub call_trip : (R B out P : List ℕ) (n : ℕ) → Wide R → Bytes B → write_call R B out ≡ output (Ok n) P
    → (m : Memory) → can_hold m (unfolded R B 0) ≡ true → fault_of m ≡ 0 → (rest : List ℕ) → Bytes rest → Again m (take n P ++ rest) n (unfolded R B 0)
call_trip = trips.call_trip

-- and with none
pub call_trip_alone : (R B out P : List ℕ) (n : ℕ) → Wide R → Bytes B → write_call R B out ≡ output (Ok n) P
    → (m : Memory) → can_hold m (unfolded R B 0) ≡ true → fault_of m ≡ 0 → Again m (take n P) n (unfolded R B 0)
call_trip_alone = trips.call_trip_alone

-- every table that a reading finished passes 13 and 14. Refuses: a reader that takes a date which the writer refuses, one over 2^53 say
pub finished-passes : (m : Memory) (bytes : List ℕ) (c : Cursor) (m' : Memory) → reading m bytes ≡ finished c m'
    → tested (used_rows c m') m'.store ≡ fine
finished-passes = tables.finished-passes

-- and 1 doesn't refuse it
pub finished-lent : (m : Memory) (bytes : List ℕ) (c : Cursor) (m' : Memory) → reading m bytes ≡ finished c m' → rows_fault (used_rows c m') m'.store ≡ 0
finished-lent = ties.finished-lent

-- can_hold is exact: where a written tree's reading finishes, the loans can hold it
pub held_exactly : (m : Memory) (t : Tree) → Writable t → (rest : List ℕ) (c : Cursor) (k : Memory) → reading m (encode t ++ rest) ≡ finished c k
    → can_hold m t ≡ true
held_exactly = exactly.held_exactly

-- and it is read back exactly where they can
pub can_hold_exact : (m : Memory) (t : Tree) → fault_of m ≡ 0 → Writable t → depth t ≤ open_limit → (rest : List ℕ) → Bytes (encode t ++ rest)
    → Held_just m t rest (can_hold m t)
can_hold_exact = exactly.can_hold_exact

-- such bytes stay below the message limit
pub below_the_limit : (m : Memory) (t : Tree) → fault_of m ≡ 0 → can_hold m t ≡ true → length (encode t) < message_limit
below_the_limit = size.held_below

-- ======== 3. Cuts

-- "declaring the end gives what demand 2 fixes for them"
pub feeding-is-reading : (m : Memory) (bytes : List ℕ) → end (run (begin m) bytes) ≡ reading m bytes
feeding-is-reading = feeding.feeding

-- through the public calls, whatever the pieces: the end's answer and the loans are those of the whole reading
pub feeding-by_calls : (m : Memory) (parts : List (List ℕ)) → Bytes (joined parts) → end_read (end_by (fed_pieces (begin_call m) parts)) ≡ unread (read_call m (joined parts))
feeding-by_calls = pieces.feeding_calls

-- "However the message is cut, after each piece the answer, the state and the lent memory are those of the joined bytes fed at once"
pub cut_anywhere : (m : Memory) (parts : List (List ℕ)) → untook (fed_pieces (begin_call m) parts) ≡ untook (fed_by (begin_call m) (joined parts))
cut_anywhere = pieces.begun-pieces

-- and so on any state and loans
pub cut_anything : (f : Fed) (part : List ℕ) (parts : List (List ℕ)) → untook (fed_pieces f (part ∷ parts)) ≡ untook (fed_by f (joined (part ∷ parts)))
cut_anything = pieces.fed-pieces

-- bytes taken add up
pub taken_adds_up : (f : Fed) (parts : List (List ℕ)) → tally f parts ≡ taken_in (answer_in (fed_by f (joined parts)))
taken_adds_up = pieces.taken-pieces

-- and are no more than there are
pub taken-is-there : (f : Fed) (parts : List (List ℕ)) → tally f parts ≤ length (joined parts)
taken-is-there = pieces.tally-length

-- what waits took all
pub waiting_took_all : (m : Memory) (parts : List (List ℕ)) (k : ℕ) → answer_in (fed_pieces (begin_call m) parts) ≡ Waiting k
    → tally (begin_call m) parts ≡ length (joined parts)
waiting_took_all = decides.waiting-tally

-- a refusal's place counts the bytes that were taken, but for 1 and 12
pub refused_took : (m : Memory) (parts : List (List ℕ)) (n told place k : ℕ) → answer_in (fed_pieces (begin_call m) parts) ≡ Refused n told place k
    → n ≢ no.bad_loan → n ≢ no.lost → tally (begin_call m) parts ≡ place
refused_took = decides.refused-tally

-- 11 tells 0 at the limit, which is as many as were taken
pub limit_took : (m : Memory) (parts : List (List ℕ)) (told place k : ℕ) → answer_in (fed_pieces (begin_call m) parts) ≡ Refused no.too_long told place k
    → (told ≡ 0) × (place ≡ message_limit) × (tally (begin_call m) parts ≡ message_limit)
limit_took = decides.limit-tally

-- finished pieces are the whole reading, with as many bytes taken and the same loans
pub finished_took : (m : Memory) (parts : List (List ℕ)) (state : Numbers) (l : Memory) → Bytes (joined parts) → (rows bytes k : ℕ)
    → fed_pieces (begin_call m) parts ≡ fed (Finished rows bytes k) state l → read_call m (joined parts) ≡ read (Finished rows bytes (tally (begin_call m) parts)) l
finished_took = decides.finished-tally

-- and so are refused ones
pub refused-is-reading : (m : Memory) (parts : List (List ℕ)) (state : Numbers) (l : Memory) → Bytes (joined parts) → (n told place k : ℕ)
    → fed_pieces (begin_call m) parts ≡ fed (Refused n told place k) state l → reading m (joined parts) ≡ refused n told place l
refused-is-reading = decides.refused-reading

-- the deciding byte b, behind bytes a that wait, is the last one taken, but for 11 and 12. Refuses: 9 and 10 that take no byte
pub deciding_byte : (m : Memory) (a : List ℕ) (b : ℕ) (rest : List ℕ) (parts : List (List ℕ)) → joined parts ≡ a ++ (b ∷ rest) → (i : ℕ) → b < 2 ^ 8
    → answer_in (fed_by (begin_call m) a) ≡ Waiting i → ((j : ℕ) → answer_in (fed_by (begin_call m) (a ++ (b ∷ []))) ≢ Waiting j)
    → tally (begin_call m) parts ≡ length a + last_byte (answer_in (fed_pieces (begin_call m) parts))
deciding_byte = decides.decides

-- it is, for any answer but 11
pub deciding_byte-taken : (m : Memory) (a : List ℕ) (b : ℕ) (rest : List ℕ) (parts : List (List ℕ)) → joined parts ≡ a ++ (b ∷ rest) → (i : ℕ) → b < 2 ^ 8
    → answer_in (fed_by (begin_call m) a) ≡ Waiting i → ((j : ℕ) → answer_in (fed_by (begin_call m) (a ++ (b ∷ []))) ≢ Waiting j)
    → Bytes (joined parts) → ((told place k : ℕ) → answer_in (fed_pieces (begin_call m) parts) ≢ Refused no.too_long told place k)
    → tally (begin_call m) parts ≡ suc (length a)
deciding_byte-taken = decides.decides-taken

-- and for 11 the one before it is
pub deciding_byte-past : (m : Memory) (a : List ℕ) (b : ℕ) (rest : List ℕ) (parts : List (List ℕ)) → joined parts ≡ a ++ (b ∷ rest) → (i : ℕ) → b < 2 ^ 8
    → answer_in (fed_by (begin_call m) a) ≡ Waiting i → ((j : ℕ) → answer_in (fed_by (begin_call m) (a ++ (b ∷ []))) ≢ Waiting j)
    → (told place k : ℕ) → answer_in (fed_pieces (begin_call m) parts) ≡ Refused no.too_long told place k → tally (begin_call m) parts ≡ length a
deciding_byte-past = decides.decides-limit

-- the answer is that byte's: a refusal has its place, and 3 tells it
pub deciding_answer : (m : Memory) (a : List ℕ) (b : ℕ) (rest : List ℕ) (parts : List (List ℕ)) → joined parts ≡ a ++ (b ∷ rest) → (i : ℕ) → b < 2 ^ 8
    → answer_in (fed_by (begin_call m) a) ≡ Waiting i → ((j : ℕ) → answer_in (fed_by (begin_call m) (a ++ (b ∷ []))) ≢ Waiting j)
    → Bytes (joined parts) → Decided-by b (suc (length a)) (answer_in (fed_pieces (begin_call m) parts))
deciding_answer = decides.decides-by

-- while it waits the loans hold what the bytes give: the reading of the same bytes stops with 2 at the same place and in the same loans
pub waiting-is-reading : (m : Memory) (bytes : List ℕ) (x : Mode) (ts : List Frame) (c : Cursor) (k : Memory) → fault_of m ≡ 0
    → run (begin m) bytes ≡ wait x ts c k → reader.value open_limit no_key (zeroed m) fresh bytes ≡ bad no.unexpected_end 0 c.at k
waiting-is-reading = feeding.waits-reading

-- through the calls
pub waiting-loans : (m : Memory) (parts : List (List ℕ)) → Bytes (joined parts) → (k : ℕ) (state : Numbers) (l : Memory)
    → fed_pieces (begin_call m) parts ≡ fed (Waiting k) state l
    → reader.value open_limit no_key (zeroed m) fresh (joined parts) ≡ bad no.unexpected_end 0 (tally (begin_call m) parts) l
waiting-loans = decides.waits-loans

-- "a row from its marker": on any state whose head holds together it shows the marker's kind and its key, and nothing else. Refuses: a kind that shows only at the end
pub marker-row : (state : Numbers) (m : Memory) (b : ℕ) (k : Key) (ts : List Frame) (c : Cursor) → state_of state m ≡ wait (at_marker k) ts c m
    → Together state.head.lent (at_marker k) ts c m → c.at < message_limit → 0x04 ≤ b → b ≤ 0x11 → length ts < open_limit → c.rows < rows_in m.rows
    → (state' : Numbers) × (m' : Memory) × (feed_call state m (b ∷ []) ≡ fed (Waiting 1) state' m') × RowNew m'.rows c.rows b (shown k)
marker-row = appears.marker-row

-- a state begun here and left alone never gets 12
pub feed-never_12 : (m : Memory) (parts : List (List ℕ)) → Bytes (joined parts) → (told place k : ℕ)
    → answer_in (fed_pieces (begin_call m) parts) ≢ Refused no.lost told place k
feed-never_12 = decides.feed-never-lost

-- and not at the end
pub end-never_12 : (m : Memory) (parts : List (List ℕ)) → Bytes (joined parts) → (told place k : ℕ)
    → answer_in (end_by (fed_pieces (begin_call m) parts)) ≢ Refused no.lost told place k
end-never_12 = decides.end-never-lost

-- nothing after the deciding byte changes anything
pub decided : (m : Memory) (a b : List ℕ) (e : Ended) → run (begin m) a ≡ over e → reading m (a ++ b) ≡ e
decided = cuts.reading-decided

-- and so through the calls, on any state: an answer that neither waits nor is 12 is repeated by every call after it, which takes nothing and changes nothing
pub answered_repeats : (state : Numbers) (m : Memory) (part : List ℕ) (a : Answer) (state' : Numbers) (m' : Memory) → feed_call state m part ≡ fed a state' m'
    → ((j : ℕ) → a ≢ Waiting j) → ((told place j : ℕ) → a ≢ Refused no.lost told place j) → (k : Memory) (more : List ℕ)
    → (feed_call state' k more ≡ fed (untaken a) state' k) × (end_call state' k ≡ fed (untaken a) state' k)
answered_repeats = answered.answered_repeats

-- an empty piece changes nothing
pub empty-piece : (n : Numbers) (m : Memory) → feed_call n m [] ≡ fed (answer_of (state_of n m) 0) n m
empty-piece = pieces.feed-nothing

-- what has ended takes nothing, touches no loan and repeats its answer to any piece
pub ended_repeats : (n : Numbers) (m k : Memory) (e : Ended) (part : List ℕ) → state_of n m ≡ over e → feed_call n k part ≡ fed (answer_of (over e) 0) n k
ended_repeats = pieces.feed-ended

-- and to the end
pub ended_repeats_to-end : (n : Numbers) (m k : Memory) (e : Ended) → state_of n m ≡ over e → end_call n k ≡ fed (answer_of (over e) 0) n k
ended_repeats_to-end = pieces.end-ended

-- ======== Request 4: orders dated before 1970

-- Here, too, "Refuses:" names a wrong program that the theorem rules out, and others may rule out as well.

-- "a date row holds the 64 bits as they came": wherever a date stands, with any tables and whatever else its word says, the standard reads its eight bytes as one
-- number, which is the tree's; "NaN and the infinities stay refused": with 7, which tells that number, at the last of them; `reading_means` has it of the reading.
-- Refuses: a sign dropped behind a trait reference, 7 that tells other bits
pub date_anywhere : (values : Std Tree) (f b n b₀ b₁ b₂ b₃ b₄ b₅ b₆ b₇ bits : ℕ) → number_of 0 (b₀ ∷ b₁ ∷ b₂ ∷ b₃ ∷ b₄ ∷ b₅ ∷ b₆ ∷ b₇ ∷ []) ≡ bits
    → (s : Tables) (p : ℕ) (rest : List ℕ) → new_of values f b body.date n s p (b₀ ∷ b₁ ∷ b₂ ∷ b₃ ∷ b₄ ∷ b₅ ∷ b₆ ∷ b₇ ∷ rest)
    ≡ cond (refused_date bits) (bad no.bad_date bits (p + 8) s) (ok (plain (date bits)) s (p + 8) rest)
date_anywhere = dates.date_anywhere

-- refused exactly where the exponent's eleven bits are ones, of either sign
pub date-refused : (bits : ℕ) → refused_date bits ≡ eqb (bits % 2 ^ 63 / 2 ^ 52) 2047
date-refused = moments.refused_ones

-- so that a finite date by itself is read, whatever follows. Refuses: a reader that refuses -0.0
pub date-read : (bits : ℕ) (m : Memory) → bits < 2 ^ 64 → refused_date bits ≡ false → fault_of m ≡ 0 → can_hold m (plain (date bits)) ≡ true
    → (rest : List ℕ) → Returns (reading m (0x08 ∷ 0x01 ∷ bytes_of 8 bits ++ rest)) 10 (plain (date bits))
date-read = dates.date-read

-- and a tree's date is its row's number. Refuses: rows that keep milliseconds
pub date-tree : (R B : List ℕ) (i : ℕ) → tested R B ≡ fine → i < rows_in R → col R i col_kind ≡ kind_date → unfolded R B i ≡ plain (date (col R i col_number))
date-tree = dates.date-tree

-- "milliseconds are worked out when asked": of a row that is a date, and of no other. Refuses: a call that answers for doubles
pub millis-date : (R B : List ℕ) (i : ℕ) → rows_fault R B ≡ 0 → col R i col_kind ≡ kind_date → millis_call R B i ≡ moment_of (col R i col_number)
millis-date = dates.millis-date

pub millis-other : (R B : List ℕ) (i : ℕ) → col R i col_kind ≢ kind_date → col R i col_kind ≢ kind_reference → millis_call R B i ≡ None
millis-other = dates.millis-other

-- "A reference is asked as its target, as for text": one step. Refuses: a call that has none for references, or that follows a reference to a reference
pub millis-reference : (R B : List ℕ) (i : ℕ) → col R i col_kind ≡ kind_reference → col R (col R i col_number) col_kind ≢ kind_reference
    → millis_call R B i ≡ millis_call R B (col R i col_number)
millis-reference = dates.millis-reference

pub millis-second : (R B : List ℕ) (i : ℕ) → col R i col_kind ≡ kind_reference → col R (col R i col_number) col_kind ≡ kind_reference → millis_call R B i ≡ None
millis-second = dates.millis-second

-- "where there is no finite date, or text access would find a fault in a loan, row or target, the answer is that there is none": the fault of `text-faulty`, and
-- rows that aren't there
pub millis-faulty : (R B : List ℕ) (i : ℕ) → rows_fault R B ≢ 0 → millis_call R B i ≡ None
millis-faulty = dates.millis-faulty

pub millis-past : (R B : List ℕ) (i : ℕ) → rows_in R ≤ i → millis_call R B i ≡ None
millis-past = dates.millis-past

-- none of a date's bits exactly where they aren't finite
pub moment-none : (bits : ℕ) → refused_date bits ≡ true → moment_of bits ≡ None
moment-none = moments.no-moment

pub none-refused : (bits : ℕ) → moment_of bits ≡ None → refused_date bits ≡ true
none-refused = moments.none-refused

-- "cut towards zero, signed, held at the ends of the 64-bit range": the whole part of the size, at most 2^63 - 1, or with a minus at most 2^63. Refuses: -1.5 cut to -2
pub moment_positive : (bits m : ℕ) (e : ℤ) → of_bits binary64 bits ≡ fin false m e → moment_of bits ≡ Some (pos (min (m * up e / down e) (2 ^ 63 - 1)))
moment_positive = moments.moment_positive

pub moment-negative : (bits m : ℕ) (e : ℤ) → of_bits binary64 bits ≡ fin true m e → moment_of bits ≡ Some (neg_ℤ (pos (min (m * up e / down e) (2 ^ 63))))
moment-negative = moments.moment-negative

-- the same by the fields of the bits: the exponent's, which is 1 at 2 ^ -1022, and the digits below the leading one; with a field of 0 it is less than one
pub moment-by-fields : (bits : ℕ) → 0 < bits % 2 ^ 63 / 2 ^ 52 → bits % 2 ^ 63 / 2 ^ 52 < 2047
    → moment_of bits ≡ Some (bounded (leb (2 ^ 63) bits) ((2 ^ 52 + bits % 2 ^ 52) * 2 ^ (bits % 2 ^ 63 / 2 ^ 52 - 1) / 2 ^ 1074))
moment-by-fields = moments.moment-by-fields

pub moment-below-one : (bits : ℕ) → bits % 2 ^ 63 / 2 ^ 52 ≡ 0 → moment_of bits ≡ Some (pos 0)
moment-below-one = moments.moment-below-one

-- "-0.0 is accepted and reads as 0 milliseconds"
pub minus_zero : (refused_date (2 ^ 63) ≡ false) × (moment_of (2 ^ 63) ≡ Some (pos 0))
minus_zero = (moments.refused_ones (2 ^ 63), moments.moment-below-one (2 ^ 63) refl)

-- "The writer puts the 64 bits back". Refuses: a date written without its last bit
pub date-written : (bits : ℕ) → encode (plain (date bits)) ≡ 0x08 ∷ 0x01 ∷ bytes_of 8 bits
date-written = dates.date-written

-- "so 14 for dates over 2^53 goes, and a date row that isn't finite gives 14": it asks nothing else of a date but its key. Refuses: 14 for a date over 2^53 in rows
-- that no reading made
pub date-writable : (R B : List ℕ) (i : ℕ) → col R i col_kind ≡ kind_date
    → writable R B i ≡ (not (eqb (col R i col_number % 2 ^ 63 / 2 ^ 52) 2047) && key_writable R B i)
date-writable = dates.date-writable

-- "The round trip of demand 2 now covers every date read": what was read, 1, 13 and 14 don't refuse; its writing ends as its tree says: written, too deep, or no room.
-- `round_trip` and `call_trip` then read it back
pub finished-ends : (m : Memory) (bytes : List ℕ) (c : Cursor) (m' : Memory) → reading m bytes ≡ finished c m'
    → (out : List ℕ) → Ends (unfolded (used_rows c m') m'.store 0) out (writing (used_rows c m') m'.store out)
finished-ends = dates.finished-ends

-- "Equality with the crate is kept in reading for dates it accepts below 2^63, compared by milliseconds": the crate casts the double to 64 bits without a sign
pub crate_reads : (bits : ℕ) → bits < 2 ^ 63 → refused_date bits ≡ false → to_unsigned 64 (of_bits binary64 bits) < 2 ^ 63
    → moment_of bits ≡ Some (pos (to_unsigned 64 (of_bits binary64 bits)))
crate_reads = moments.reads-as_crate

-- "and in writing for whole ones from +0 to 2^53": it writes the double of the milliseconds that it read
pub crate_writes : (bits : ℕ) → bits < 2 ^ 63 → T (whole binary64 (of_bits binary64 bits))
    → encode (plain (date bits)) ≡ 0x08 ∷ 0x01 ∷ bytes_of 8 (to_bits binary64 (of_int binary64 (pos (to_unsigned 64 (of_bits binary64 bits)))))
crate_writes = dates.crate_writes

-- and what it writes for such milliseconds reads as these
pub crate_millis : (millis : ℕ) → millis ≤ 2 ^ 53 → moment_of (to_bits binary64 (of_int binary64 (pos millis))) ≡ Some (pos millis)
crate_millis = moments.date-round

-- ======== Request 13: no order hides in another

-- Here "Refuses:" names a wrong program that the theorem rules out; a theorem above may rule it out too.

-- "Take two tables of one tree each that it accepts" (`Order`). "Their bytes are equal exactly if their unfolded trees are equal, place column aside": equal trees
-- give equal bytes. Refuses: a writer that writes a row of kind reference as a reference
pub same_bytes : (o p : Order) → order_tree o ≡ order_tree p → order_bytes o ≡ order_bytes p
same_bytes = orders.same_bytes

-- and equal bytes are of equal trees. Refuses: a writer that writes 0 for the flag of every vector
pub same-tree : (o p : Order) → order_bytes o ≡ order_bytes p → order_tree o ≡ order_tree p
same-tree = orders.same-tree

-- they are the standard's, without a length before them. Refuses: a writer that puts one there
pub order-bytes : (o : Order) → order_bytes o ≡ encode (order_tree o)
order-bytes = orders.order-bytes

-- and as many as are reported
pub order-size : (o : Order) → o.size ≡ length (order_bytes o)
order-size = turns.order-size

-- "and one's bytes are never a proper beginning of the other's". Refuses: a writer that leaves out the empty key behind dynamic members
pub no_beginning : (o p : Order) (x : List ℕ) → order_bytes o ++ x ≡ order_bytes p → x ≡ []
no_beginning = orders.no_beginning

-- where two orders begin the same bytes they have the same tree and the same bytes, and the same is behind them
pub same-order : (o p : Order) (x y : List ℕ) → order_bytes o ++ x ≡ order_bytes p ++ y → (order_tree o ≡ order_tree p) × (order_bytes o ≡ order_bytes p) × (x ≡ y)
same-order = orders.same-order

-- "Hence a list of written orders joined together has one reading as such a list"
pub one_list : (os ps : List Order) → back_to_back os ≡ back_to_back ps → (map order_bytes os ≡ map order_bytes ps) × (map order_tree os ≡ map order_tree ps)
one_list = orders.one_list

-- the reader finds the first order, with loans that can hold it, whatever numbers are behind it. Refuses: a reader that takes a byte more
pub first-order : (o : Order) (m : Memory) → can_hold m (order_tree o) ≡ true → fault_of m ≡ 0 → (rest : List ℕ)
    → Returns (reading m (order_bytes o ++ rest)) o.size (order_tree o)
first-order = turns.first-order

-- through the calls, whole and however the bytes are cut
pub first-order_calls : (o : Order) (m : Memory) → can_hold m (order_tree o) ≡ true → fault_of m ≡ 0 → (rest : List ℕ) → Bytes rest
    → Again m (order_bytes o ++ rest) o.size (order_tree o)
first-order_calls = turns.first-order_calls

-- and with any loans nothing else. Refuses: a reader that cuts a text to the room that is left, and then finds orders in the rest of it
pub finished-order : (o : Order) (m : Memory) (rest : List ℕ) (c : Cursor) (k : Memory) → reading m (order_bytes o ++ rest) ≡ finished c k
    → Returns (reading m (order_bytes o ++ rest)) o.size (order_tree o)
finished-order = turns.finished-order

-- however its bytes are cut
pub finished-order-feed : (o : Order) (m : Memory) (parts : List (List ℕ)) (rest : List ℕ) → Bytes rest → joined parts ≡ order_bytes o ++ rest
    → (rows stored taken : ℕ) (state : Numbers) (l : Memory) → fed_pieces (begin_call m) parts ≡ fed (Finished rows stored taken) state l
    → (tally (begin_call m) parts ≡ o.size) × (tree_read rows l ≡ order_tree o)
finished-order-feed = fed-turns.finished-order-feed

-- and on a part of it that lacks a byte it doesn't finish. Refuses: a reader that finishes where the last byte of a date is missing
pub no_part : (o : Order) (x y : List ℕ) → x ++ y ≡ order_bytes o → (m : Memory) (c : Cursor) (k : Memory) → reading m x ≡ finished c k → y ≡ []
no_part = turns.no_part

-- order by order it finds all of them, each reading in the loans as the one before left them, where these can hold each
pub order-by-order : (os : List Order) (m : Memory) → fault_of m ≡ 0 → HoldsEach m os → (rest : List ℕ)
    → read_in_turn (length os) m (back_to_back os ++ rest) ≡ findings (map order_bytes os) (map order_tree os) rest
order-by-order = turns.order-by-order

-- with nothing behind them no more, however often it reads. Refuses: a reader that finishes on no bytes
pub whole-list : (os : List Order) (m : Memory) → fault_of m ≡ 0 → HoldsEach m os → (n : ℕ) → length os ≤ n
    → read_in_turn n m (back_to_back os) ≡ findings (map order_bytes os) (map order_tree os) []
whole-list = turns.whole-list

-- and with any loans orders from the first one on, and nothing else; also where more readings are made than there are orders, if nothing is behind them
pub only-orders : (n : ℕ) (os : List Order) (m : Memory) (rest : List ℕ) → n ≤ length os
    → (k : ℕ) × (read_in_turn n m (back_to_back os ++ rest) ≡ findings (map order_bytes (take k os)) (map order_tree (take k os)) (back_to_back (drop k os) ++ rest))
only-orders = turns.only-orders

pub no-others : (n : ℕ) (os : List Order) (m : Memory)
    → (k : ℕ) × (read_in_turn n m (back_to_back os) ≡ findings (map order_bytes (take k os)) (map order_tree (take k os)) (back_to_back (drop k os)))
no-others = turns.no-others

-- fed in pieces that don't heed where an order ends, each reading begun in the loans as the one before left them, it finds the same trees, and is in the end as at the beginning.
-- Refuses: a feed that swallows the rest of a piece
pub piece-by-piece : (os : List Order) (m : Memory) → fault_of m ≡ 0 → HoldsEach m os → (parts : List (List ℕ)) → joined parts ≡ back_to_back os
    → (n : ℕ) → length os + length parts ≤ n → fed_in_turn n (begin_call m) parts ≡ fed_findings (map order_tree os) (begin_call m) []
piece-by-piece = fed-turns.piece-by-piece

-- bytes behind the orders go to a reading that begins as the first one did; each feed before it took a piece or finished an order
pub pieces_in_turn : (os : List Order) (m : Memory) → fault_of m ≡ 0 → HoldsEach m os → (parts : List (List ℕ)) (rest : List ℕ) → Bytes rest
    → joined parts ≡ back_to_back os ++ rest → (n : ℕ) → length os + length parts ≤ n
    → (pieces : List (List ℕ)) × (j : ℕ) × (joined pieces ≡ rest) × (n + length pieces ≡ j + (length os + length parts))
    × (fed_in_turn n (begin_call m) parts ≡ found_before (map order_tree os) (fed_in_turn j (begin_call m) pieces))
pieces_in_turn = fed-turns.pieces_in_turn

-- and with any loans trees of orders from the first one on, and no others
pub only-pieces : (n : ℕ) (os : List Order) (m : Memory) (parts : List (List ℕ)) → joined parts ≡ back_to_back os
    → (k : ℕ) × (f : Fed) × (left : List (List ℕ)) × (fed_in_turn n (begin_call m) parts ≡ fed_findings (map order_tree (take k os)) f left)
only-pieces = fed-turns.only-pieces

-- "if it finishes on some bytes with certain loans, it finishes with the same answer and the same memory on those bytes with anything after them".
-- Refuses: a reader that wants the end behind its value
pub more-behind : (m : Memory) (bytes : List ℕ) (c : Cursor) (m' : Memory) → reading m bytes ≡ finished c m' → (rest : List ℕ)
    → reading m (bytes ++ rest) ≡ finished c m'
more-behind = behind.more-behind

-- and so it does with anything else, or nothing, behind the bytes that it took. Refuses: a reader that wants a byte behind its value
pub else_behind : (m : Memory) (bytes : List ℕ) (c : Cursor) (m' : Memory) → reading m bytes ≡ finished c m' → (other : List ℕ)
    → reading m (take c.at bytes ++ other) ≡ finished c m'
else_behind = behind.else_behind

-- both through the call
pub more-behind-read : (m : Memory) (bytes : List ℕ) (rows stored taken : ℕ) (m' : Memory) → read_call m bytes ≡ read (Finished rows stored taken) m' → (rest : List ℕ)
    → read_call m (bytes ++ rest) ≡ read (Finished rows stored taken) m'
more-behind-read = behind.more-behind-read

pub else_behind-read : (m : Memory) (bytes : List ℕ) (rows stored taken : ℕ) (m' : Memory) → read_call m bytes ≡ read (Finished rows stored taken) m' → (other : List ℕ)
    → read_call m (take taken bytes ++ other) ≡ read (Finished rows stored taken) m'
else_behind-read = behind.else_behind-read

-- and through a feed, on any state: its answer, the state and the loans
pub more-behind-feed : (state : Numbers) (m : Memory) (piece : List ℕ) (rows stored taken : ℕ) (state' : Numbers) (m' : Memory)
    → feed_call state m piece ≡ fed (Finished rows stored taken) state' m' → (rest : List ℕ) → feed_call state m (piece ++ rest) ≡ fed (Finished rows stored taken) state' m'
more-behind-feed = behind.more-behind-feed

pub else_behind-feed : (state : Numbers) (m : Memory) (piece : List ℕ) (rows stored taken : ℕ) (state' : Numbers) (m' : Memory)
    → feed_call state m piece ≡ fed (Finished rows stored taken) state' m' → (other : List ℕ)
    → feed_call state m (take taken piece ++ other) ≡ fed (Finished rows stored taken) state' m'
else_behind-feed = behind.else_behind-feed

-- and however both are cut; the last answer's own count is 0 where its piece came behind the value. Refuses: a feed that forgets that it finished
pub more-behind-pieces : (m : Memory) (parts : List (List ℕ)) (rows stored taken : ℕ) (state : Numbers) (l : Memory)
    → fed_pieces (begin_call m) parts ≡ fed (Finished rows stored taken) state l → (more : List (List ℕ)) (rest : List ℕ) → joined more ≡ joined parts ++ rest
    → (untook (fed_pieces (begin_call m) more) ≡ fed (Finished rows stored 0) state l) × (tally (begin_call m) more ≡ tally (begin_call m) parts)
more-behind-pieces = behind.more-behind-pieces

-- and at the end. Refuses: an end that finishes what still waits
pub more-behind-end : (m : Memory) (parts : List (List ℕ)) (rows stored : ℕ) (state : Numbers) (l : Memory)
    → end_by (fed_pieces (begin_call m) parts) ≡ fed (Finished rows stored 0) state l → (more : List (List ℕ)) (rest : List ℕ) → joined more ≡ joined parts ++ rest
    → end_by (fed_pieces (begin_call m) more) ≡ fed (Finished rows stored 0) state l
more-behind-end = behind.more-behind-end

-- ======== and besides

-- two outcomes that a call's contract allows are equal: Unique.antt of crate format has one theorem for each call
pub one-outcome-of-feed : (a b : Answer) (s t : Numbers) (m n : Memory) (state : Numbers) (lent : Memory) (part : List ℕ)
    → fed a s m ≡ feed_call state lent part → fed b t n ≡ feed_call state lent part → (a ≡ b) × (s ≡ t) × (m ≡ n)
one-outcome-of-feed = unique.one-feed
