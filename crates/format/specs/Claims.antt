-- The words of the promises: what calls answer and leave, pieces, and what is said of a reading's end.
use Rattle.std.specs.Prelude.{Result, Ok, Err, ◌≡◌, List, [], ◌∷◌, ◌++◌, ◌||◌, true, false, Bool, cond, ◌≢◌, ℕ, ◌+◌, ◌≤◌, ◌*◌, ◌^◌, ◌<◌, ◌-◌, eqb, T, length, replicate, take, get_or}
use Rattle.std.proofs.Math.Option.{none}
use Rattle.rows.specs.Memory.{memory, Memory, zeroed, fresh, message_limit, no_key, loan_names, message_most, loan_rows, col_kind, row_width}
use Rattle.rows.specs.Memory.{span_width, trait_width, loan_store, loan_strings, loan_objects, loan_traits, rows_most, store_most, loan_output, col, col_key_mark, col_key_begin, col_key_size, col_body_begin}
use Rattle.rows.specs.declared.Cursor.{Cursor}
use Rattle.rows.specs.declared.Key.{Key}
use Rattle.rows.specs.Kinds.{kind_string, kind_xml_document, kind_xml}
use Rattle.wire.specs.Octets.{Bytes}
use Rattle.format.specs.Reading.{Ended, reading, finished, refused}
use Rattle.format.specs.Step.{State, over, wait, none, Mode, at_marker}
use Rattle.format.specs.declared.Answer.{Answer}
use Rattle.format.specs.declared.Answer.TheVariants.{Waiting, Finished, Refused}
use Rattle.rows.specs.declared.lent.Lent.{Lent}
use Rattle.format.specs.Numbers.{Numbers, state_of, head, no_work, work_of, frames_size}
use Rattle.format.specs.Answers.{Fed, fed, begin_call, feed_call, end_call, Read, read, read_call, output, Output}
use Rattle.format.specs.declared.Frame.{Frame}
use Rattle.format.specs.Codes.{status_waiting, status_refused}
use Rattle.format.specs.Unfold.{unfolded}
use Rattle.format.specs.Standard.{Tree, encode}
use Rattle.format.specs.declared.Refusal.{Refusal}
use Rattle.format.specs.Byte.{RefusedBy}
use Rattle.format.specs.Refusals as no

-- ---- pieces and calls

-- lists of bytes, joined: the pieces of a message
abbrev pub joined : List (List ℕ) → List ℕ
joined [] = []
joined (piece ∷ pieces) = piece ++ joined pieces

-- the bytes that an answer says were taken, and the answer without them
abbrev pub taken_in : Answer → ℕ
taken_in (Waiting n) = n
taken_in (Finished rows bytes n) = n
taken_in (Refused number told place n) = n

abbrev pub untaken : Answer → Answer
untaken (Waiting n) = Waiting 0
untaken (Finished rows bytes n) = Finished rows bytes 0
untaken (Refused number told place n) = Refused number told place 0

abbrev pub answer_in : Fed → Answer
answer_in (fed a n m) = a

-- the next call feeds a piece; all the pieces; the bytes taken by all of them; the end is declared
abbrev pub fed_by : Fed → List ℕ → Fed
fed_by (fed a n m) piece = feed_call n m piece

abbrev pub fed_pieces : Fed → List (List ℕ) → Fed
fed_pieces f [] = f
fed_pieces f (piece ∷ pieces) = fed_pieces (fed_by f piece) pieces

abbrev pub tally : Fed → List (List ℕ) → ℕ
tally f [] = 0
tally f (piece ∷ pieces) = taken_in (answer_in (fed_by f piece)) + tally (fed_by f piece) pieces

abbrev pub untook : Fed → Fed
untook (fed a n m) = fed (untaken a) n m

abbrev pub end_by : Fed → Fed
end_by (fed a n m) = end_call n m

-- an answer with the loans, without the bytes taken
abbrev pub end_read : Fed → Read
end_read (fed a n m) = read (untaken a) m

abbrev pub unread : Read → Read
unread (read a m) = read (untaken a) m

-- the state that begin leaves: waiting for a marker, nothing taken and nothing used
abbrev pub first_numbers : Lent → Numbers
first_numbers l = record { head = head status_waiting 0 0 0 l fresh 0 (work_of (at_marker no_key)); frames = replicate frames_size 0 }

-- a refused state
abbrev pub refused_numbers : ℕ → ℕ → ℕ → Lent → List ℕ → Numbers
refused_numbers n told place l frames = record { head = head status_refused n told place l fresh 0 no_work; frames = frames }

-- one that didn't hold together
abbrev pub lost_numbers : Numbers → Numbers
lost_numbers n = refused_numbers no.lost 0 0 n.head.lent n.frames

-- a feed refuses with these values and takes so many bytes; the state says no more than that, and the loans are zero
abbrev pub RefusedWith : Numbers → Memory → List ℕ → ℕ → ℕ → ℕ → ℕ → Type 0
RefusedWith state m piece n told place k = feed_call state m piece ≡ fed (Refused n told place k) (refused_numbers n told place state.head.lent state.frames) (zeroed m)

-- where a state stands that hasn't ended
abbrev pub place_in : State → ℕ
place_in (wait x ts c m) = c.at
place_in (over e) = 0
place_in (none m) = 0

-- the bytes that an answer's last byte counts as: none for 11 and 12
abbrev pub last_byte : Answer → ℕ
last_byte (Waiting n) = 1
last_byte (Finished rows bytes n) = 1
last_byte (Refused number told place n) = cond (eqb number no.too_long || eqb number no.lost) 0 1

-- ---- what each call may answer

-- a refusal's number, told value and place are those of one of document 01's refusals
abbrev pub Named : ℕ → ℕ → ℕ → Type 0
Named n told place = (r : no.Refusal) × (no.number_of r ≡ n) × (no.told_of r ≡ told) × (no.place_of r ≡ place)

-- no more rows and bytes are used than can be lent
abbrev pub Lendable : ℕ → ℕ → Type 0
Lendable rows bytes = (rows ≤ rows_most) × (bytes ≤ store_most)

-- begin waits, nothing taken; or gives 1 with a loan from 1 to 6
abbrev pub BeginSays : Answer → Type 0
BeginSays (Waiting k) = k ≡ 0
BeginSays (Finished rows bytes k) = ⊥
BeginSays (Refused n told place k) = (n ≡ no.bad_loan) × (loan_rows ≤ told) × (told ≤ loan_names) × (place ≡ 0) × (k ≡ 0)

-- feed of so many bytes waits, all of them taken; finishes; or refuses
abbrev pub FeedSays : ℕ → Answer → Type 0
FeedSays most (Waiting k) = k ≡ most
FeedSays most (Finished rows bytes k) = Lendable rows bytes × (k ≤ most)
FeedSays most (Refused n told place k) = T (no.sayable n told place) × (k ≤ most)

-- end finishes or refuses, and takes nothing
abbrev pub EndSays : Answer → Type 0
EndSays (Waiting k) = ⊥
EndSays (Finished rows bytes k) = Lendable rows bytes × (k ≡ 0)
EndSays (Refused n told place k) = T (no.sayable n told place) × (k ≡ 0)

-- read of so many bytes finishes; or refuses by 1 to 11, at a place within the limit and the bytes, and takes nothing
abbrev pub ReadSays : ℕ → Answer → Type 0
ReadSays most (Waiting k) = ⊥
ReadSays most (Finished rows bytes k) = Lendable rows bytes × (k ≤ most)
ReadSays most (Refused n told place k) = T (no.sayable n told place) × (n ≤ no.too_long) × (place ≤ message_most) × (place ≤ most) × (k ≡ 0)

-- a refusal of write, of so many rows and an output of so many bytes
pub data WriteRefuses (rows out : ℕ) : ℕ → ℕ → ℕ → Type 0 where
  -- 1: the rows or the store
  lends : {loan : ℕ} → loan_rows ≤ loan → loan ≤ loan_store → WriteRefuses rows out no.bad_loan loan 0
  -- 9, within the output; 10, at its end
  nests : {place : ℕ} → place ≤ out → WriteRefuses rows out no.too_deep 0 place
  fills : WriteRefuses rows out no.no_room loan_output out
  -- 13: a row, or row 0 of none; 14: a row
  misshapes : {row : ℕ} → row < rows → WriteRefuses rows out no.malformed row 0
  empties : rows ≡ 0 → WriteRefuses rows out no.malformed 0 0
  unsuits : {row : ℕ} → row < rows → WriteRefuses rows out no.unwritable row 0

-- write reports so many bytes, no more than the output has; or refuses
abbrev pub WriteSays : ℕ → ℕ → Result ℕ Refusal → Type 0
WriteSays rows out (Ok n) = n ≤ out
WriteSays rows out (Err r) = WriteRefuses rows out r.number r.told r.place

-- ---- what a refusal leaves

-- a state that hasn't ended: it waits, or was never begun
pub data Going : State → Type 0 where
  waiting : {x : Mode} {ts : List Frame} {c : Cursor} {m : Memory} → Going (wait x ts c m)
  unbegun : {m : Memory} → Going (none m)

-- state and loans after a feed refused
pub data FeedLeaves (n : Numbers) (m : Memory) (piece : List ℕ) (number told place taken : ℕ) (n' : Numbers) (m' : Memory) : Type 0 where
  -- a refusal that is repeated leaves everything, and takes nothing
  repeated : state_of n m ≡ over (refused number told place m) → taken ≡ 0 → n' ≡ n → m' ≡ m → FeedLeaves n m piece number told place taken n' m'
  -- and so does a state never begun that gets no bytes
  asked : state_of n m ≡ none m → piece ≡ [] → number ≡ no.lost → taken ≡ 0 → n' ≡ n → m' ≡ m → FeedLeaves n m piece number told place taken n' m'
  -- a new one leaves all loans zero
  new : Going (state_of n m) → m' ≡ zeroed m → FeedLeaves n m piece number told place taken n' m'

-- and after an end refused
pub data EndLeaves (n : Numbers) (m : Memory) (number told place : ℕ) (n' : Numbers) (m' : Memory) : Type 0 where
  repeated : state_of n m ≡ over (refused number told place m) → n' ≡ n → m' ≡ m → EndLeaves n m number told place n' m'
  new : Going (state_of n m) → m' ≡ zeroed m → EndLeaves n m number told place n' m'

-- ---- answers

-- the answer of a read
abbrev pub read_answer : Read → Answer
read_answer (read a m) = a

-- the answer of a write
abbrev pub write_answer : Output → Result ℕ Refusal
write_answer (output a out) = a

-- ---- how a feed on any state ends

-- a new refusal after p bytes: the byte's; or past the limit
pub data Refuses (piece : List ℕ) (p : ℕ) : ℕ → ℕ → ℕ → Type 0 where
  byte : {n told place : ℕ} (b : ℕ) → (Bytes piece → b < 2 ^ 8) → RefusedBy b p n told place → place ≤ message_limit → Refuses piece p n told place
  past : {place : ℕ} → place ≡ message_limit → place ≡ p → Refuses piece p no.too_long 0 place
  -- what isn't a byte made a number that no reading tells
  stray : (Bytes piece → ⊥) → Refuses piece p no.lost 0 0

-- an answer to a piece, from a state at place p
pub data Feeds (p : ℕ) (piece : List ℕ) : Answer → Type 0 where
  awaits : {k : ℕ} → k ≡ length piece → Feeds p piece (Waiting k)
  completes : {rows bytes k : ℕ} → k ≤ length piece → Feeds p piece (Finished rows bytes k)
  rejects : {n told place k : ℕ} → k ≤ length piece → Refuses piece (p + k) n told place → Feeds p piece (Refused n told place k)

-- ---- rows

-- row i has just appeared: it shows its kind and its key, and nothing else
pub record RowNew (R : List ℕ) (i kind : ℕ) (k : Key) : Type 0 where
  pub shows : col R i col_kind ≡ kind
  pub mark : col R i col_key_mark ≡ k.mark
  pub begin : col R i col_key_begin ≡ k.begin
  pub size : col R i col_key_size ≡ k.size
  pub rest : (j : ℕ) → col_body_begin ≤ j → j < row_width → col R i j ≡ 0

-- ---- text

-- the kinds that have a text
pub data TextKind : ℕ → Type 0 where
  a_string : TextKind kind_string
  an_xml_document : TextKind kind_xml_document
  an_xml : TextKind kind_xml

-- ---- what is said of a reading's end

-- the part of the rows and of the store that a finished reading used
abbrev pub used_rows : Cursor → Memory → List ℕ
used_rows c m = take (c.rows * row_width) m.rows

abbrev pub used_store : Cursor → Memory → List ℕ
used_store c m = take c.store m.store

-- the tree of the rows that a finished reading used
abbrev pub tree_read : ℕ → Memory → Tree
tree_read rows m = unfolded (take (rows * row_width) m.rows) m.store 0

-- not refused for depth
abbrev pub Shallow : Ended → Type 0
Shallow e = (told place : ℕ) (m : Memory) → e ≢ refused no.too_deep told place m

-- a reading finished with n bytes taken, and its rows unfold to t
pub record Returns (e : Ended) (n : ℕ) (t : Tree) : Type 0 where
  pub cursor : Cursor
  pub memory : Memory
  pub finishes : e ≡ finished cursor memory
  pub takes : cursor.at ≡ n
  pub unfolds : tree_read cursor.rows memory ≡ t

-- a reading of a written tree finishes on the tree just where the loans can hold it
pub data Held_just (m : Memory) (t : Tree) (rest : List ℕ) : Bool → Type 0 where
  holds : Returns (reading m (encode t ++ rest)) (length (encode t)) t → Held_just m t rest true
  lacks : ((c : Cursor) (k : Memory) → reading m (encode t ++ rest) ≢ finished c k) → Held_just m t rest false

-- rows as the code has them: their numbers have 64 bits
abbrev pub Wide : List ℕ → Type 0
Wide R = (i : ℕ) → get_or R i 0 < 2 ^ 64

-- reading bs finishes with n bytes taken and rows that unfold to t, and so it does however the bytes are cut
pub record Again (m : Memory) (bs : List ℕ) (n : ℕ) (t : Tree) : Type 0 where
  pub rows : ℕ
  pub bytes : ℕ
  pub loans : Memory
  pub reads : read_call m bs ≡ read (Finished rows bytes n) loans
  pub unfolds : tree_read rows loans ≡ t
  pub ends : (parts : List (List ℕ)) → joined parts ≡ bs → end_read (end_by (fed_pieces (begin_call m) parts)) ≡ read (Finished rows bytes 0) loans
  pub takes : (parts : List (List ℕ)) → joined parts ≡ bs → tally (begin_call m) parts ≡ n

-- ---- loans with more room

-- so many numbers more in each loan
pub record Longer : Type 0 where
  pub rows : ℕ
  pub store : ℕ
  pub strings : ℕ
  pub objects : ℕ
  pub traits : ℕ
  pub names : ℕ

-- zeros behind a list, behind each loan
abbrev pub more : ℕ → List ℕ → List ℕ
more n l = l ++ replicate n 0

abbrev pub wider : Longer → Memory → Memory
wider w m =
    memory (more w.rows m.rows) (more w.store m.store) (more w.strings m.strings) (more w.objects m.objects) (more w.traits m.traits)
    (more w.names m.names)

-- a reading's end, with longer loans
abbrev pub widened : Longer → Ended → Ended
widened w (finished c m) = finished c (wider w m)
widened w (refused n told place m) = refused n told place (wider w m)

-- so much longer are the loans of the second
abbrev pub beyond : Memory → Memory → Longer
beyond m m' =
    record {
      rows = length m'.rows - length m.rows;
      store = length m'.store - length m.store;
      strings = length m'.strings - length m.strings;
      objects = length m'.objects - length m.objects;
      traits = length m'.traits - length m.traits;
      names = length m'.names - length m.names;
    }

-- so many numbers more in a loan
abbrev pub extra : Longer → ℕ → ℕ
extra w loan =
    cond (eqb loan loan_rows) w.rows
    (cond (eqb loan loan_store) w.store
    (cond (eqb loan loan_strings) w.strings
    (cond (eqb loan loan_objects) w.objects
    (cond (eqb loan loan_traits) w.traits
    (cond (eqb loan loan_names) w.names 0)))))

-- each loan of the second is as long or longer
pub record NoShorter (m m' : Memory) : Type 0 where
  pub rows : length m.rows ≤ length m'.rows
  pub store : length m.store ≤ length m'.store
  pub strings : length m.strings ≤ length m'.strings
  pub objects : length m.objects ≤ length m'.objects
  pub traits : length m.traits ≤ length m'.traits
  pub names : length m.names ≤ length m'.names

-- not refused for want of room
abbrev pub Roomy : Ended → Type 0
Roomy e = (told place : ℕ) (m : Memory) → e ≢ refused no.no_room told place m

-- what is used of each loan
abbrev pub used : Cursor → Memory → Memory
used c m =
    memory (take (c.rows * row_width) m.rows) (take c.store m.store) (take (c.strings * span_width) m.strings) (take c.objects m.objects)
    (take (c.traits * trait_width) m.traits) (take (c.names * span_width) m.names)
