-- The worked examples of document 01: one list, and one proof over it, for the whole reading, for the feed byte by byte with its end, and for the standard.
use mathlib.Core.Path.{◌≡◌, refl}
use mathlib.Core.List.{List, [], ◌∷◌, ◌++◌, map}
use Prim.Native.Nat.{ℕ, zero, suc, ◌+◌, ◌-◌, ◌^◌}
use lib.Ieee as ieee
use lib.ListN.{length, replicate, take}
use Rattle.rows.specs.declared.Cursor.{Cursor}
use Rattle.format.specs.declared.Answer.{Answer}
use Rattle.format.specs.declared.Answer.TheVariants.{Waiting, Finished, Refused}
use Rattle.std.specs.Prelude.{Ok, Err}
use Rattle.wire.specs.U29 as u
use Rattle.wire.specs.Word as w
use Rattle.wire.specs.Sign as z
use Rattle.wire.specs.Big as n
use Rattle.wire.specs.Date as y
use Rattle.utf8.specs.States as x
use Rattle.utf8.specs.Grammar as g
use Rattle.rows.specs.Memory as m
use Rattle.format.specs.Refusals as o
use Rattle.format.specs.Decide as d
use Rattle.format.specs.Reading as r
use Rattle.format.specs.Step as s
use Rattle.format.specs.Numbers as k
use Rattle.format.specs.Standard as t
use Rattle.format.specs.Unfold as v
use Rattle.format.specs.RowTest as f
use Rattle.format.specs.Writing as e
use Rattle.format.specs.Answers as a
use Rattle.format.specs.Orders as q

-- how a reading ends: the bytes taken, the rows, and what the other loans hold; or a refusal's number, told value and place
pub data Want : Type 0 where
  gives : ℕ → List (List ℕ) → List ℕ → List ℕ → List ℕ → List ℕ → List ℕ → Want
  refuses : ℕ → ℕ → ℕ → Want

pub data Example : Type 0 where
  example : List ℕ → Want → Example

-- a row: kind, key, body, number, counts, end
abbrev pub row : ℕ → List ℕ → ℕ → ℕ → ℕ → ℕ → ℕ → ℕ → List ℕ
row kind key begin size number count count2 end = kind ∷ key ++ begin ∷ size ∷ 0 ∷ 0 ∷ number ∷ count ∷ count2 ∷ end ∷ []

abbrev pub keyless : List ℕ
keyless = 0 ∷ 0 ∷ 0 ∷ []

-- those marked to be proved, two that are not, and eight more: a date that isn't finite, a sealed member, a vector of class `*`, references to an array, to an object, to a date, to
-- the second trait, and to strings that were a class and a key
abbrev pub examples : List Example
examples =
    example [] (refuses 2 0 0)
    ∷ example (0x04 ∷ 0xFF ∷ 0xFF ∷ 0xFF ∷ 0xFF ∷ []) (gives 5 (row 4 keyless 0 0 (2 ^ 64 - 1) 0 0 1 ∷ []) [] [] [] [] [])
    ∷ example (0x04 ∷ 0xC0 ∷ 0x80 ∷ 0x80 ∷ 0x00 ∷ []) (gives 5 (row 4 keyless 0 0 (2 ^ 64 - 268435456) 0 0 1 ∷ []) [] [] [] [] [])
    ∷ example (0x04 ∷ 0xBF ∷ 0xFF ∷ 0xFF ∷ 0xFF ∷ []) (gives 5 (row 4 keyless 0 0 268435455 0 0 1 ∷ []) [] [] [] [] [])
    ∷ example (0x04 ∷ 0x80 ∷ 0x00 ∷ []) (gives 3 (row 4 keyless 0 0 0 0 0 1 ∷ []) [] [] [] [] [])
    ∷ example (0x09 ∷ 0x05 ∷ 0x01 ∷ 0x06 ∷ 0x03 ∷ 0x61 ∷ 0x06 ∷ 0x00 ∷ [])
    (gives 8 (row 9 keyless 0 0 0 0 2 3 ∷ row 6 keyless 0 1 0 0 0 2 ∷ row 6 keyless 0 1 0 0 0 3 ∷ []) (0x61 ∷ []) (0 ∷ 1 ∷ []) (0 ∷ []) [] [])
    ∷ example (0x09 ∷ 0x05 ∷ 0x01 ∷ 0x06 ∷ 0x01 ∷ 0x06 ∷ 0x00 ∷ []) (refuses 4 0 7)
    ∷ example (0x09 ∷ 0x03 ∷ 0x01 ∷ 0x09 ∷ 0x00 ∷ []) (refuses 5 0 5)
    ∷ example (0x0A ∷ 0x07 ∷ 0x01 ∷ []) (refuses 6 0 3)
    ∷ example (0x11 ∷ 0x01 ∷ 0x02 ∷ []) (gives 3 (row 17 keyless 0 0 0 0 0 1 ∷ []) [] [] (0 ∷ []) [] [])
    ∷ example (0x06 ∷ 0x05 ∷ 0xC0 ∷ 0x80 ∷ []) (refuses 8 0 4)
    ∷ example (0x0A ∷ 0x0B ∷ 0x01 ∷ 0x03 ∷ 0x61 ∷ 0x04 ∷ 0x01 ∷ 0x01 ∷ [])
    (gives 8 (row 10 keyless 0 0 0 0 1 2 ∷ row 4 (1 ∷ 0 ∷ 1 ∷ []) 0 0 1 0 0 2 ∷ []) (0x61 ∷ []) (0 ∷ 1 ∷ []) (0 ∷ []) (0 ∷ 0 ∷ 1 ∷ 0 ∷ 0 ∷ []) [])
    ∷ example (0x12 ∷ []) (refuses 3 0x12 1)
    ∷ example (0x08 ∷ 0x01 ∷ 0x80 ∷ replicate 7 0x00) (gives 10 (row 8 keyless 0 0 (2 ^ 63) 0 0 1 ∷ []) [] [] (0 ∷ []) [] [])
    ∷ example (0x08 ∷ 0x01 ∷ 0xFF ∷ 0xF0 ∷ replicate 6 0x00) (refuses 7 0xFFF0_0000_0000_0000 10)
    ∷ example (0x0A ∷ 0x13 ∷ 0x01 ∷ 0x03 ∷ 0x61 ∷ 0x04 ∷ 0x01 ∷ [])
    (gives 7 (row 10 keyless 0 0 0 1 0 2 ∷ row 4 (1 ∷ 0 ∷ 1 ∷ []) 0 0 1 0 0 2 ∷ []) (0x61 ∷ []) (0 ∷ 1 ∷ []) (0 ∷ []) (0 ∷ 0 ∷ 0 ∷ 0 ∷ 1 ∷ []) (0 ∷ 1 ∷ []))
    ∷ example (0x10 ∷ 0x03 ∷ 0x00 ∷ 0x03 ∷ 0x2A ∷ 0x01 ∷ [])
    (gives 6 (row 16 keyless 0 0 0 1 0 2 ∷ row 2 keyless 0 0 0 0 0 2 ∷ []) (0x2A ∷ []) (0 ∷ 1 ∷ []) (0 ∷ []) [] [])
    ∷ example (0x09 ∷ 0x05 ∷ 0x01 ∷ 0x09 ∷ 0x01 ∷ 0x01 ∷ 0x09 ∷ 0x02 ∷ [])
    (gives 8 (row 9 keyless 0 0 0 0 2 3 ∷ row 9 keyless 0 0 0 0 0 2 ∷ row 18 keyless 0 0 1 0 0 3 ∷ []) [] [] (0 ∷ 1 ∷ []) [] [])
    ∷ example (0x09 ∷ 0x05 ∷ 0x01 ∷ 0x0A ∷ 0x03 ∷ 0x01 ∷ 0x0A ∷ 0x02 ∷ [])
    (gives 8 (row 9 keyless 0 0 0 0 2 3 ∷ row 10 keyless 0 0 0 0 0 2 ∷ row 18 keyless 0 0 1 0 0 3 ∷ []) [] [] (0 ∷ 1 ∷ []) (replicate 5 0) [])
    ∷ example (0x09 ∷ 0x05 ∷ 0x01 ∷ 0x08 ∷ 0x01 ∷ 0x3F ∷ 0xF0 ∷ replicate 6 0x00 ++ 0x08 ∷ 0x02 ∷ [])
    (gives 15 (row 9 keyless 0 0 0 0 2 3 ∷ row 8 keyless 0 0 0x3FF0_0000_0000_0000 0 0 2 ∷ row 18 keyless 0 0 1 0 0 3 ∷ []) [] [] (0 ∷ 1 ∷ []) [] [])
    ∷ example (0x09 ∷ 0x07 ∷ 0x01 ∷ 0x0A ∷ 0x03 ∷ 0x01 ∷ 0x0A ∷ 0x13 ∷ 0x01 ∷ 0x03 ∷ 0x61 ∷ 0x01 ∷ 0x0A ∷ 0x05 ∷ 0x01 ∷ [])
    (gives 15 (row 9 keyless 0 0 0 0 3 6 ∷ row 10 keyless 0 0 0 0 0 2 ∷ row 10 keyless 0 0 0 1 0 4 ∷ row 2 (1 ∷ 0 ∷ 1 ∷ []) 0 0 0 0 0 4
    ∷ row 10 keyless 0 0 0 1 0 6 ∷ row 2 (1 ∷ 0 ∷ 1 ∷ []) 0 0 0 0 0 6 ∷ [])
    (0x61 ∷ []) (0 ∷ 1 ∷ []) (0 ∷ 1 ∷ 2 ∷ 4 ∷ []) (replicate 9 0 ++ 1 ∷ []) (0 ∷ 1 ∷ []))
    ∷ example (0x0A ∷ 0x0B ∷ 0x03 ∷ 0x61 ∷ 0x03 ∷ 0x62 ∷ 0x06 ∷ 0x00 ∷ 0x00 ∷ 0x06 ∷ 0x02 ∷ 0x01 ∷ [])
    (gives 12 ((10 ∷ keyless ++ 0 ∷ 1 ∷ 1 ∷ 0 ∷ 0 ∷ 0 ∷ 2 ∷ 3 ∷ []) ∷ row 6 (1 ∷ 1 ∷ 1 ∷ []) 0 1 0 0 0 2 ∷ row 6 (1 ∷ 0 ∷ 1 ∷ []) 1 1 0 0 0 3 ∷ [])
    (0x61 ∷ 0x62 ∷ []) (0 ∷ 1 ∷ 1 ∷ 1 ∷ []) (0 ∷ []) (0 ∷ 1 ∷ 1 ∷ 0 ∷ 0 ∷ []) [])
    ∷ []

-- ---- the loans: six rows, sixteen bytes, and a few entries of the others, with something else in them before

abbrev lent : m.Memory
lent = m.memory (replicate 72 7) (replicate 16 7) (replicate 4 7) (replicate 4 7) (replicate 10 7) (replicate 2 7)

abbrev padded : ℕ → List ℕ → List ℕ
padded n l = l ++ replicate (n - length l) 0

abbrev joined : List (List ℕ) → List ℕ
joined [] = []
joined (x ∷ l) = x ++ joined l

-- what is wanted of the loans, and the answer, where so many bytes count as taken
abbrev loans : Want → m.Memory
loans (gives n R B T O U N) = m.memory (padded 72 (joined R)) (padded 16 B) (padded 4 T) (padded 4 O) (padded 10 U) (padded 2 N)
loans (refuses number told place) = m.memory (replicate 72 0) (replicate 16 0) (replicate 4 0) (replicate 4 0) (replicate 10 0) (replicate 2 0)

abbrev answer : Want → (ℕ → ℕ) → Answer
answer (gives n R B T O U N) taken = Finished (length R) (length B) (taken n)
answer (refuses number told place) taken = Refused number told place 0

-- ---- what becomes of an example

-- fed byte by byte, and ended: the answer, the loans, and the bytes taken in all
pub data Dribbled : Type 0 where
  dribbled : Answer → m.Memory → ℕ → Dribbled

-- what the standard makes of bytes
pub data Meaning : Type 0 where
  tree : t.Tree → ℕ → Meaning
  none : ℕ → ℕ → ℕ → Meaning

pub data Outcome : Type 0 where
  outcome : a.Read → Dribbled → Meaning → Outcome

abbrev taken_in : Answer → ℕ
taken_in (Waiting n) = n
taken_in (Finished rows bytes n) = n
taken_in (Refused number told place n) = n

abbrev ended : a.Fed → ℕ → Dribbled
ended (a.fed x n m) taken = dribbled x m taken

abbrev dribble : List ℕ → a.Fed → ℕ → Dribbled
dribble [] (a.fed x n m) taken = ended (a.end_call n m) (taken + taken_in x)
dribble (b ∷ bs) (a.fed x n m) taken = dribble bs (a.feed_call n m (b ∷ [])) (taken + taken_in x)

abbrev meant : r.ResultOf t.Tables ℕ t.Tree → Meaning
meant (r.ok x s p bs) = tree x p
meant (r.bad number told place s) = none number told place

abbrev becomes : Example → Outcome
becomes (example bytes w) = outcome (a.read_call lent bytes) (dribble bytes (a.begin_call lent) 0) (meant (t.standard bytes))

-- ---- what is wanted of it

abbrev taken : Want → ℕ
taken (gives n R B T O U N) = n
taken (refuses number told place) = place

abbrev meaning : Want → Meaning
meaning (gives n R B T O U N) = tree (v.unfolded (joined R) B 0) n
meaning (refuses number told place) = none number told place

abbrev wanted : Example → Outcome
wanted (example bytes w) = outcome (a.read (answer w (λ n. n)) (loans w)) (dribbled (answer w (λ n. 0)) (loans w) (taken w)) (meaning w)

-- ---- the proof over the list

pub proved : map becomes examples ≡ map wanted examples
unfolding u.part_of u.groups u.more_of u.u29 w.size_of w.shape_of z.integer_of z.column_of z.of_column n.number_of n.bytes_of n.digit_of y.finite y.refused_date o.tells o.sayable
    x.step_of x.fold_of g.follow g.valid_text m.message_limit m.open_limit m.loan_fault m.zeroed m.put_row m.col d.kind_of d.new_row d.marker d.closed d.numbered
    d.integer_end d.date_end d.bodied d.classed d.object_class d.vector_class d.flagged d.counted d.key_end d.grown d.old_text d.reserved d.stored d.judged d.text_end d.entered
    d.referred d.trait_holds d.old_trait d.named d.trait_end d.sealed_key d.starred r.byte r.u29 r.number r.chars r.fill r.text_of r.text r.entries r.pair r.pairs_by r.pairs r.couple
    r.names r.dynamics r.members r.inlined r.object_of r.room r.chars_of r.filled r.new_of r.sized_of r.marked r.value r.ended r.reading s.task_of s.frame_of s.go
    s.entry s.pop s.keyed s.naming s.had s.text_done s.reserved_for s.string_sized s.roomy s.texting s.filling s.opened s.body_sized s.object_shaped s.worded
    s.number_done s.flag_done s.raw_grown s.begun s.shown s.act s.step s.run s.end s.begin k.frame_at k.frames_of k.laid k.body_purpose k.mode_of k.use_work k.work_of k.state_of
    k.numbers_of k.lent_of k.same_lent k.counts_fit k.use_fits k.word_fits k.mode_fits k.sound k.sound_step k.after_step k.byte_step t.byte t.bytes t.word t.chars t.kept_text t.size_says t.object_says t.follows t.text_of
    t.text t.opened t.shut t.finished_object t.object_at t.names t.new_traits t.class_given t.starred t.trees t.sealed t.pairs_from t.pairs t.dynamics t.entries t.members
    t.object_of t.new_of t.sized_of t.marked t.value t.standard t.count t.count_pairs t.count_entries t.name_bytes t.trait_word t.encode_plain t.array_head t.object_head
    t.vector_head t.dictionary_head t.encode t.encode_trees t.encode_pairs t.encode_values t.encode_dynamic t.encode_entries v.part v.home v.after v.trees_at
    v.pairs_at v.entries_at v.node v.tree_at v.unfolded f.span_fits f.mark_fits f.columns_fit f.signed_fits f.value_fits f.children f.closes f.gives f.parent_in f.number_in f.given
    f.well_formed f.number_writable f.body_writable f.key_writable f.writable f.test_from f.tested e.◌then◌ e.these e.stream_bytes e.is_deep e.emit_trees e.emit_pairs
    e.emit_values e.emit_dynamic e.emit_entries e.emit_in e.emit e.settle e.writing a.begin_call a.run_held a.taken_by a.feed_call a.end_call a.read_call a.write_call
    ieee.odd ieee.of_fields ieee.of_bits
proved = refl

-- ---- orders, each a table and the bytes that are written of it

pub data Sent : Type 0 where
  sent : List (List ℕ) → List ℕ → List ℕ → Sent

-- null, the array of two "a", null; the integers 1 and -1; a dynamic object; an array of nothing and one of a null; an int vector of nothing, fixed and not;
-- the date behind -1.5
abbrev orders : List Sent
orders =
    sent (row 2 keyless 0 0 0 0 0 1 ∷ []) [] (0x01 ∷ [])
    ∷ sent (row 9 keyless 0 0 0 0 2 3 ∷ row 6 keyless 0 1 0 0 0 2 ∷ row 6 keyless 0 1 0 0 0 3 ∷ []) (0x61 ∷ [])
    (0x09 ∷ 0x05 ∷ 0x01 ∷ 0x06 ∷ 0x03 ∷ 0x61 ∷ 0x06 ∷ 0x03 ∷ 0x61 ∷ [])
    ∷ sent (row 2 keyless 0 0 0 0 0 1 ∷ []) [] (0x01 ∷ [])
    ∷ sent (row 4 keyless 0 0 1 0 0 1 ∷ []) [] (0x04 ∷ 0x01 ∷ [])
    ∷ sent (row 4 keyless 0 0 (2 ^ 64 - 1) 0 0 1 ∷ []) [] (0x04 ∷ 0xFF ∷ 0xFF ∷ 0xFF ∷ 0xFF ∷ [])
    ∷ sent (row 10 keyless 0 0 0 0 1 2 ∷ row 4 (1 ∷ 0 ∷ 1 ∷ []) 0 0 1 0 0 2 ∷ []) (0x61 ∷ []) (0x0A ∷ 0x0B ∷ 0x01 ∷ 0x03 ∷ 0x61 ∷ 0x04 ∷ 0x01 ∷ 0x01 ∷ [])
    ∷ sent (row 9 keyless 0 0 0 0 0 1 ∷ []) [] (0x09 ∷ 0x01 ∷ 0x01 ∷ [])
    ∷ sent (row 9 keyless 0 0 0 0 1 2 ∷ row 2 keyless 0 0 0 0 0 2 ∷ []) [] (0x09 ∷ 0x03 ∷ 0x01 ∷ 0x01 ∷ [])
    ∷ sent ((13 ∷ keyless ++ 0 ∷ 0 ∷ 0 ∷ 1 ∷ 0 ∷ 0 ∷ 0 ∷ 1 ∷ []) ∷ []) [] (0x0D ∷ 0x01 ∷ 0x01 ∷ [])
    ∷ sent (row 13 keyless 0 0 0 0 0 1 ∷ []) [] (0x0D ∷ 0x01 ∷ 0x00 ∷ [])
    ∷ sent (row 8 keyless 0 0 0xBFF8_0000_0000_0001 0 0 1 ∷ []) [] (0x08 ∷ 0x01 ∷ 0xBF ∷ 0xF8 ∷ replicate 5 0x00 ++ 0x01 ∷ [])
    ∷ []

abbrev bytes_sent : Sent → List ℕ
bytes_sent (sent R B bytes) = bytes

abbrev tree_sent : Sent → t.Tree
tree_sent (sent R B bytes) = v.unfolded (joined R) B 0

-- what write makes of each, and what is due
abbrev writes : Sent → a.Output
writes (sent R B bytes) = a.write_call (joined R) B (replicate (length bytes) 7)

abbrev due : Sent → a.Output
due (sent R B bytes) = a.output (Ok (length bytes)) bytes

-- ---- the others: what waits, two deep messages, the array of two "a" written, also where the output is too short, a message fed byte by byte that
-- lacks a row, fewer rows lent than at the beginning, and the orders: each written, all of them read in turn, and four of them fed in turn byte by byte

pub data Waits : Type 0 where
  waiting : Cursor → m.Memory → Waits
  other : Waits

abbrev seen : s.State → Waits
seen (s.wait x ts c m) = waiting c m
seen (s.over e) = other
seen (s.none m) = other

abbrev fed_to : List ℕ → a.Fed → Waits
fed_to [] (a.fed x n m) = seen (k.state_of n m)
fed_to (b ∷ bs) (a.fed x n m) = fed_to bs (a.feed_call n m (b ∷ []))

abbrev again : ℕ → List ℕ → List ℕ → List ℕ
again zero x l = l
again (suc n) x l = x ++ again n x l

-- the answer, with room for 64 rows and as many objects
abbrev told : a.Read → Answer
told (a.read x m) = x

abbrev deeply : List ℕ → Answer
deeply bytes = told (a.read_call (m.memory (replicate 768 7) [] [] (replicate 64 7) [] []) bytes)

-- the answer to bytes, with other loans than before
abbrev said : a.Fed → Answer
said (a.fed x n m) = x

abbrev relent : a.Fed → m.Memory → List ℕ → Answer
relent (a.fed x n l) m bytes = said (a.feed_call n m bytes)

pub others :
    (fed_to (0x09 ∷ 0x05 ∷ 0x01 ∷ 0x06 ∷ 0x03 ∷ []) (a.begin_call lent)
    ≡ waiting (m.cursor 5 2 1 0 1 0 0) (loans (gives 5 (row 9 keyless 0 0 0 0 0 0 ∷ row 6 keyless 0 1 0 0 0 0 ∷ []) [] [] (0 ∷ []) [] [])))
    × (deeply (again 63 (0x09 ∷ 0x03 ∷ 0x01 ∷ []) (0x09 ∷ 0x01 ∷ 0x01 ∷ [])) ≡ Finished 64 0 192)
    × (deeply (again 64 (0x09 ∷ 0x03 ∷ 0x01 ∷ []) (0x01 ∷ [])) ≡ Refused 9 0 193 0)
    × (a.write_call (joined (row 9 keyless 0 0 0 0 2 3 ∷ row 6 keyless 0 1 0 0 0 2 ∷ row 6 keyless 0 1 0 0 0 3 ∷ [])) (0x61 ∷ []) (replicate 12 7)
    ≡ a.output (Ok 9) (0x09 ∷ 0x05 ∷ 0x01 ∷ 0x06 ∷ 0x03 ∷ 0x61 ∷ 0x06 ∷ 0x03 ∷ 0x61 ∷ 7 ∷ 7 ∷ 7 ∷ []))
    × (a.write_call (joined (row 9 keyless 0 0 0 0 2 3 ∷ row 6 keyless 0 1 0 0 0 2 ∷ row 6 keyless 0 1 0 0 0 3 ∷ [])) (0x61 ∷ []) (replicate 8 7)
    ≡ a.output (Err (a.refusal_of 10 7 8)) (replicate 8 7))
    × (dribble (0x09 ∷ 0x0D ∷ 0x01 ∷ replicate 6 0x01) (a.begin_call lent) 0 ≡ dribbled (Refused 10 1 9 0) (loans (refuses 10 1 9)) 9)
    × (relent (a.begin_call lent) (m.memory (replicate 60 0) (replicate 16 0) (replicate 4 0) (replicate 4 0) (replicate 10 0) (replicate 2 0)) (0x01 ∷ []) ≡ Refused 12 0 0 0)
    × (map writes orders ≡ map due orders)
    × (q.read_in_turn 12 lent (joined (map bytes_sent orders)) ≡ q.findings (map bytes_sent orders) (map tree_sent orders) [])
    × (q.fed_in_turn 17 (a.begin_call lent) (map (λ b. b ∷ []) (joined (map bytes_sent (take 4 orders)))) ≡ q.fed_findings (map tree_sent (take 4 orders)) (a.begin_call lent) [])
unfolding u.part_of u.groups u.more_of u.u29 w.size_of w.shape_of z.integer_of z.column_of z.of_column n.number_of n.bytes_of n.digit_of y.finite y.refused_date o.tells o.sayable
    x.step_of x.fold_of g.follow g.valid_text m.message_limit m.open_limit m.loan_fault m.zeroed m.put_row m.col d.kind_of d.new_row d.marker d.closed d.numbered
    d.integer_end d.date_end d.bodied d.classed d.object_class d.vector_class d.flagged d.counted d.key_end d.grown d.old_text d.reserved d.stored d.judged d.text_end d.entered
    d.referred d.trait_holds d.old_trait d.named d.trait_end d.sealed_key d.starred r.byte r.u29 r.number r.chars r.fill r.text_of r.text r.entries r.pair r.pairs_by r.pairs r.couple
    r.names r.dynamics r.members r.inlined r.object_of r.room r.chars_of r.filled r.new_of r.sized_of r.marked r.value r.ended r.reading s.task_of s.frame_of s.go
    s.entry s.pop s.keyed s.naming s.had s.text_done s.reserved_for s.string_sized s.roomy s.texting s.filling s.opened s.body_sized s.object_shaped s.worded
    s.number_done s.flag_done s.raw_grown s.begun s.shown s.act s.step s.run s.end s.begin k.frame_at k.frames_of k.laid k.body_purpose k.mode_of k.use_work k.work_of k.state_of
    k.numbers_of k.lent_of k.same_lent k.counts_fit k.use_fits k.word_fits k.mode_fits k.sound k.sound_step k.after_step k.byte_step t.byte t.bytes t.word t.chars t.kept_text t.size_says t.object_says t.follows t.text_of
    t.text t.opened t.shut t.finished_object t.object_at t.names t.new_traits t.class_given t.starred t.trees t.sealed t.pairs_from t.pairs t.dynamics t.entries t.members
    t.object_of t.new_of t.sized_of t.marked t.value t.standard t.count t.count_pairs t.count_entries t.name_bytes t.trait_word t.encode_plain t.array_head t.object_head
    t.vector_head t.dictionary_head t.encode t.encode_trees t.encode_pairs t.encode_values t.encode_dynamic t.encode_entries v.part v.home v.after v.trees_at
    v.pairs_at v.entries_at v.node v.tree_at v.unfolded f.span_fits f.mark_fits f.columns_fit f.signed_fits f.value_fits f.children f.closes f.gives f.parent_in f.number_in f.given
    f.well_formed f.number_writable f.body_writable f.key_writable f.writable f.test_from f.tested e.◌then◌ e.these e.stream_bytes e.is_deep e.emit_trees e.emit_pairs
    e.emit_values e.emit_dynamic e.emit_entries e.emit_in e.emit e.settle e.writing a.begin_call a.run_held a.taken_by a.feed_call a.end_call a.read_call a.write_call
    q.read_in_turn q.fed_in_turn ieee.odd ieee.of_fields ieee.of_bits
others = (refl, refl, refl, refl, refl, refl, refl, refl, refl, refl)
