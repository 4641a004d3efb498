-- Along a run from the beginning every open value's row, with one for each of its finished entries, lies below the rows of what is open in it: so that pairs
-- done are below the used rows.
use Rattle.std.proofs.Common.{Option, Some, None}
use mathlib.Core.Bool.{Bool, true, false, cond}
use mathlib.Core.List.{List, [], ◌∷◌}
use Prim.Native.Nat.{ℕ, zero, suc, ◌+◌, ◌-◌, ◌≤◌, ◌<◌}
use native.Mathlib.Omega.{arith}
use native.Mathlib.Nat.{le_refl}
use lib.Dec.{leb, eqb}
use lib.ListN.{length}
use Rattle.rows.specs.declared.Cursor.{Cursor}
use Rattle.rows.specs.declared.Span.{Span}
use Rattle.rows.specs.declared.Trait.{Trait}
use Rattle.rows.specs.Memory.{Memory, fault_of, message_limit, open_limit, no_span}
use Rattle.wire.specs.declared.Part.{Part}
use Rattle.wire.specs.declared.Part.TheVariants.{More, Whole}
use Rattle.wire.specs.declared.Size.{Size}
use Rattle.wire.specs.declared.Size.TheVariants.{Old, New}
use Rattle.wire.specs.declared.Shape.{Shape}
use Rattle.wire.specs.declared.Shape.TheVariants.{Object, Known, External, Inline}
use Rattle.wire.specs.Word.{size_of, shape_of}
use Rattle.wire.specs.U29.{part_of}
use Rattle.wire.specs.Big.{digit_of}
use Rattle.format.specs.declared.Frame.{Frame}
use Rattle.format.specs.Decide.{stop, give, Width, closed, numbered, integer_end, date_end, bodied, object_class, vector_class, flagged, counted, key_end}
use Rattle.format.specs.Decide.{grown, old_text, reserved, stored, judged, text_end, entered, referred, old_trait, named, trait_end, sealed_key, starred}
use Rattle.format.specs.Decide.{Out, lift, looking, on_rows, on_store, on_strings, on_objects, on_traits, on_names, kind_of}
use Rattle.format.specs.Decide.{Body, xml, date, array, bytes, raw, objects, dictionary, Kind, leaf, integer, double, string, object, sized}
use Rattle.format.specs.Step.{Pairing, assoc, dynamics, dense, vector, Task, pairs_of, items_of, members_of, keys_of, values_of, strange, task_of, frame_of}
use Rattle.format.specs.Step.{Use, for_string, for_key, for_class, for_external, for_name, for_vector, Text, xml_text, table_text, Word, integer_word}
use Rattle.format.specs.Step.{object_word, size_word, text_word, Number, double_bits, date_bits, Flag, raw_flag, objects_flag, dictionary_flag, Raw, byte_array}
use Rattle.format.specs.Step.{raw_vector, raw_row, Mode, at_marker, at_word, at_number, at_flag, at_text, at_raw, astray, State, wait, over, none, on}
use Rattle.format.specs.Step.{go, entry, pop, onward, keyed, naming, had, text_done, reserved_for, string_sized, roomy, texting, filling, opened}
use Rattle.format.specs.Step.{body_sized, object_shaped, worded, number_done, flag_done, raw_grown, begun, shown, on_part, act, step, run, begin_at, begin}
use Rattle.format.specs.Reading.{Ended, taken}
use Rattle.rows.specs.declared.lent.Lent.{Lent}
use Rattle.format.specs.Numbers.{number_row}
use Rattle.format.specs.Codes.{task_pairs, task_dynamics, task_dense, task_vector, task_members, task_keys, task_values}
use Rattle.format.proofs.Tests.{on_bool}
use Rattle.format.proofs.Used.{PairsIn}
use Rattle.format.proofs.Kept.{Keeps, refuses, gives, NewRow, keeps-closed, keeps-numbered, keeps-integer, keeps-date, keeps-bodied}
use Rattle.format.proofs.Kept.{keeps-object, keeps-vector, keeps-flagged, keeps-counted, keeps-key-end, keeps-grown, keeps-referred, keeps-marker}
use Rattle.format.proofs.Kept.{keeps-old-text, keeps-reserved, keeps-stored, keeps-judged, keeps-pushed-text, keeps-entered, keeps-old_trait}
use Rattle.format.proofs.Kept.{keeps-named, keeps_trait_end, keeps-sealed, keeps-starred}

-- ---- frames

-- each frame's row, and one for each of its finished entries, is below what lies in it
abbrev pub Above : List Frame → ℕ → Type 0
Above [] n = Unit
Above (f ∷ ts) n = (f.row + f.done < n) × Above ts f.row

-- a row of n is in work over these frames; and so many entries of it are finished
pub record Under (ts : List Frame) (row n : ℕ) : Type 0 where
  pub above : Above ts row
  pub below : row < n

pub record Due (ts : List Frame) (row done n : ℕ) : Type 0 where
  pub above : Above ts row
  pub below : row + done < n

-- ---- states

-- what a mode has in work lies over its frames, with n rows used
abbrev pub UseOn : Use → List Frame → ℕ → Type 0
UseOn (for_string row) ts n = Under ts row n
UseOn (for_key (assoc row left done)) ts n = Due ts row done n
UseOn (for_key (dynamics row done)) ts n = Due ts row done n
UseOn (for_class row names y) ts n = Under ts row n
UseOn for_external ts n = Unit
UseOn (for_name row t more) ts n = Under ts row n
UseOn (for_vector row entries) ts n = Under ts row n

abbrev pub TextOn : Text → List Frame → ℕ → Type 0
TextOn (xml_text row) ts n = Under ts row n
TextOn (table_text u) ts n = UseOn u ts n

abbrev pub WordOn : Word → List Frame → ℕ → Type 0
WordOn (integer_word row) ts n = Under ts row n
WordOn (object_word row) ts n = Under ts row n
WordOn (size_word row body) ts n = Under ts row n
WordOn (text_word u) ts n = UseOn u ts n

abbrev pub FlagOn : Flag → List Frame → ℕ → Type 0
FlagOn (raw_flag row w s) ts n = Under ts row n
FlagOn (objects_flag row entries) ts n = Under ts row n
FlagOn (dictionary_flag row entries) ts n = Under ts row n

abbrev pub ModeOn : Mode → List Frame → ℕ → Type 0
ModeOn (at_marker k) ts n = Above ts n
ModeOn (at_word w left part) ts n = WordOn w ts n
ModeOn (at_number d left part) ts n = Under ts (number_row d) n
ModeOn (at_flag f) ts n = FlagOn f ts n
ModeOn (at_text x s left test) ts n = TextOn x ts n
ModeOn (at_raw r s left) ts n = Under ts (raw_row r) n
ModeOn astray ts n = Unit

-- of a state that has ended, or was never begun, nothing is asked
pub data Stacked : State → Type 0 where
  waits : {x : Mode} {ts : List Frame} {c : Cursor} {m : Memory} → ModeOn x ts c.rows → Stacked (wait x ts c m)
  ends : {e : Ended} → Stacked (over e)
  never : {m : Memory} → Stacked (none m)

-- then pairs done are below the used rows
pairs_of_lem : (u : Use) (ts : List Frame) (c : Cursor) (left part : ℕ) → UseOn u ts c.rows → PairsIn (at_word (text_word u) left part) c
pairs_of_lem (for_string row) ts c left part h = tt
pairs_of_lem (for_key (assoc row n done)) ts c left part h = omega (arith, h.below)
pairs_of_lem (for_key (dynamics row done)) ts c left part h = omega (arith, h.below)
pairs_of_lem (for_class row names y) ts c left part h = tt
pairs_of_lem for_external ts c left part h = tt
pairs_of_lem (for_name row t more) ts c left part h = tt
pairs_of_lem (for_vector row entries) ts c left part h = tt

pub mode-pairs : (x : Mode) (ts : List Frame) (c : Cursor) → ModeOn x ts c.rows → PairsIn x c
mode-pairs (at_marker k) ts c h = tt
mode-pairs (at_word (integer_word row) left part) ts c h = tt
mode-pairs (at_word (object_word row) left part) ts c h = tt
mode-pairs (at_word (size_word row body) left part) ts c h = tt
mode-pairs (at_word (text_word u) left part) ts c h = pairs_of_lem u ts c left part h
mode-pairs (at_number d left part) ts c h = tt
mode-pairs (at_flag f) ts c h = tt
mode-pairs (at_text (xml_text row) s left test) ts c h = tt
mode-pairs (at_text (table_text u) s left test) ts c h = pairs_of_lem u ts c left test h
mode-pairs (at_raw r s left) ts c h = tt
mode-pairs astray ts c h = tt

-- ---- more rows are used

module _ {n k : ℕ} (l : n ≤ k) where
  under_up : {ts : List Frame} {row : ℕ} → Under ts row n → Under ts row k
  under_up h = record { above = h.above; below = omega (arith, h.below) }

  due-up : {ts : List Frame} {row done : ℕ} → Due ts row done n → Due ts row done k
  due-up h = record { above = h.above; below = omega (arith, h.below) }

  use_up : (u : Use) (ts : List Frame) → UseOn u ts n → UseOn u ts k
  use_up (for_string row) ts h = under_up h
  use_up (for_key (assoc row left done)) ts h = due-up h
  use_up (for_key (dynamics row done)) ts h = due-up h
  use_up (for_class row names y) ts h = under_up h
  use_up for_external ts h = tt
  use_up (for_name row t more) ts h = under_up h
  use_up (for_vector row entries) ts h = under_up h

  text-up : (x : Text) (ts : List Frame) → TextOn x ts n → TextOn x ts k
  text-up (xml_text row) ts h = under_up h
  text-up (table_text u) ts h = use_up u ts h

-- how many entries of a row are finished
module _ {ts : List Frame} {row n : ℕ} where
  -- none is
  due-none : Under ts row n → Due ts row 0 n
  due-none h = record { above = h.above; below = omega (arith, h.below) }

  -- one less is; whatever is
  due-more : {done : ℕ} → Due ts row (suc done) n → Due ts row done n
  due-more h = record { above = h.above; below = omega (arith, h.below) }

  due-under : {done : ℕ} → Due ts row done n → Under ts row n
  due-under h = record { above = h.above; below = omega (arith, h.below) }

-- some row is in work
data Room (ts : List Frame) (n : ℕ) : Type 0 where
  room : (row : ℕ) → Under ts row n → Room ts n

room-up : {ts : List Frame} {n k : ℕ} → n ≤ k → Room ts n → Room ts k
room-up l (room row h) = room row (under_up l h)

-- ---- after a decision

-- a decision gives back no row
data Rows {S A : Type 0} (c : Cursor) : Out S A → Type 0 where
  stops : {n told place : ℕ} → Rows c (stop n told place)
  goes : {a : A} {s : S} {d : Cursor} → c.rows ≤ d.rows → Rows c (give a s d)

-- what the law for all decisions says of it
rows_of : {S A : Type 0} {P : S → Type 0} {Q : A → Cursor → Type 0} {lent : Lent} {c : Cursor} (o : Out S A) → Keeps ⊥ P Q lent c o → Rows c o
rows_of o (refuses t) = stops
rows_of o (gives p v q) = goes v.grows.rows

-- where no length of a loan is asked for
abbrev any_lent : Lent
any_lent = record { rows = 0; store = 0; strings = 0; objects = 0; traits = 0; names = 0 }

module _ (row : ℕ) (R : List ℕ) (c : Cursor) where
  rows-closed : Rows c (closed row R c)
  rows-closed = rows_of _ (keeps-closed row R any_lent c)

  rows-numbered : (n : ℕ) → Rows c (numbered row n R c)
  rows-numbered n = rows_of _ (keeps-numbered row R any_lent c n)

  rows-integer : (w : ℕ) → Rows c (integer_end row w R c)
  rows-integer w = rows_of _ (keeps-integer row R any_lent c w)

  rows-date : (bits : ℕ) → Rows c (date_end row bits R c)
  rows-date bits = rows_of _ (keeps-date row R any_lent c bits (λ x. absurd x))

  rows-bodied : (s : Span) → Rows c (bodied row s R c)
  rows-bodied s = rows_of _ (keeps-bodied row R any_lent c s)

  rows-object : (t : Trait) → Rows c (object_class row t R c)
  rows-object t = rows_of _ (keeps-object row R any_lent c t)

  rows-vector : (star : Bool) (s : Span) → Rows c (vector_class row star s R c)
  rows-vector star s = rows_of _ (keeps-vector row R any_lent c star s)

  rows-flagged : (flag : ℕ) → Rows c (flagged row flag R c)
  rows-flagged flag = rows_of _ (keeps-flagged row R any_lent c flag)

  rows-counted : (col done : ℕ) → Rows c (counted row col done R c)
  rows-counted col done = rows_of _ (keeps-counted row R any_lent c col done)

  rows-key-end : (done : ℕ) → Rows c (key_end row done R c)
  rows-key-end done = rows_of _ (keeps-key-end row R any_lent c done)

  rows_grown : (w : Width) (s : Span) (n : ℕ) → Rows c (grown row w s n R c)
  rows_grown w s n = rows_of _ (keeps-grown row R any_lent c w s n)

  rows-referred : (i : ℕ) (O : List ℕ) → Rows c (referred row i O R c)
  rows-referred i O = rows_of _ (keeps-referred row R any_lent c i O (λ x. absurd x) (λ x. absurd x))

module _ (m : Memory) (c : Cursor) where
  rows-old-text : (i : ℕ) → Rows c (old_text i m.strings c)
  rows-old-text i = rows_of _ (keeps-old-text m c i (λ x. absurd x))

  rows-reserved : (n : ℕ) → Rows c (reserved n m.store c)
  rows-reserved n = rows_of _ (keeps-reserved m c n)

  rows-stored : (s : Span) (n b : ℕ) → Rows c (stored s n b m.store c)
  rows-stored s n b = rows_of _ (keeps-stored m c s n b)

  rows-judged : (valid : Bool) → Rows c (judged valid c)
  rows-judged valid = rows_of _ (keeps-judged m c valid)

  rows-text-end : (s : Span) (valid : Bool) → Rows c (text_end s valid m.strings c)
  rows-text-end s valid = rows_of _ (keeps-pushed-text m c s valid)

  rows-entered : (row : ℕ) → Rows c (entered row m.objects c)
  rows-entered row = rows_of _ (keeps-entered m c row)

  rows-old_trait : (i : ℕ) → Rows c (old_trait i m.traits c)
  rows-old_trait i = rows_of _ (keeps-old_trait m c i (λ x. absurd x))

  rows_named : (s : Span) → Rows c (named s m.names c)
  rows_named s = rows_of _ (keeps-named m c s)

  rows_trait_end : (t : Trait) → Rows c (trait_end t m.traits c)
  rows_trait_end t = rows_of _ (keeps_trait_end m c t)

  rows-sealed : (i : ℕ) → Rows c (sealed_key i m.names c)
  rows-sealed i = rows_of _ (keeps-sealed m c i)

  rows-starred : (s : Span) → Rows c (starred s m.store c)
  rows-starred s = rows_of _ (keeps-starred m c s)

-- what follows a decision on a loan follows with no fewer rows
module _ {A : Type 0} (m : Memory) (c : Cursor) (g : A → Cursor → Memory → State) where
  stacked-on : {S : Type 0} (to : S → Memory) (o : Out S A) → Rows c o
      → ((a : A) (d : Cursor) (m : Memory) → c.rows ≤ d.rows → Stacked (g a d m)) → Stacked (on (lift to o) m g)
  stacked-on to o stops h = ends
  stacked-on to o (goes l) h = h _ _ _ l

  stacked-looking : (f : Memory → Cursor → Out (Unit {0}) A) → Rows c (f m c)
      → ((a : A) (d : Cursor) (m : Memory) → c.rows ≤ d.rows → Stacked (g a d m)) → Stacked (on (looking f m c) m g)
  stacked-looking f = stacked-on _ (f m c)

  stacked-rows : (f : List ℕ → Cursor → Out (List ℕ) A) → Rows c (f m.rows c)
      → ((a : A) (d : Cursor) (m : Memory) → c.rows ≤ d.rows → Stacked (g a d m)) → Stacked (on (on_rows f m c) m g)
  stacked-rows f = stacked-on _ (f m.rows c)

  stacked-store : (f : List ℕ → Cursor → Out (List ℕ) A) → Rows c (f m.store c)
      → ((a : A) (d : Cursor) (m : Memory) → c.rows ≤ d.rows → Stacked (g a d m)) → Stacked (on (on_store f m c) m g)
  stacked-store f = stacked-on _ (f m.store c)

  stacked-strings : (f : List ℕ → Cursor → Out (List ℕ) A) → Rows c (f m.strings c)
      → ((a : A) (d : Cursor) (m : Memory) → c.rows ≤ d.rows → Stacked (g a d m)) → Stacked (on (on_strings f m c) m g)
  stacked-strings f = stacked-on _ (f m.strings c)

  stacked-objects : (f : List ℕ → Cursor → Out (List ℕ) A) → Rows c (f m.objects c)
      → ((a : A) (d : Cursor) (m : Memory) → c.rows ≤ d.rows → Stacked (g a d m)) → Stacked (on (on_objects f m c) m g)
  stacked-objects f = stacked-on _ (f m.objects c)

  stacked-traits : (f : List ℕ → Cursor → Out (List ℕ) A) → Rows c (f m.traits c)
      → ((a : A) (d : Cursor) (m : Memory) → c.rows ≤ d.rows → Stacked (g a d m)) → Stacked (on (on_traits f m c) m g)
  stacked-traits f = stacked-on _ (f m.traits c)

  stacked-names : (f : List ℕ → Cursor → Out (List ℕ) A) → Rows c (f m.names c)
      → ((a : A) (d : Cursor) (m : Memory) → c.rows ≤ d.rows → Stacked (g a d m)) → Stacked (on (on_names f m c) m g)
  stacked-names f = stacked-on _ (f m.names c)

ruleset stacking = (stacked-looking, stacked-rows, stacked-store, stacked-strings, stacked-objects, stacked-traits, stacked-names, ends, waits, tt)

ruleset rising = (stacking, room-up, under_up, due-up, use_up, text-up, due-none, due-under)

-- ---- tasks

-- what a task has finished, as it goes on; with one entry more in work, below what lies in it
abbrev TaskOn : Task → List Frame → ℕ → Type 0
TaskOn (pairs_of (assoc row left done)) ts n = Due ts row done n
TaskOn (pairs_of (dynamics row done)) ts n = Due ts row done n
TaskOn (items_of i row left done) ts n = Due ts row done n
TaskOn (members_of row left done first y) ts n = Due ts row done n
TaskOn (keys_of row left done) ts n = Due ts row done n
TaskOn (values_of row left done) ts n = Due ts row done n
TaskOn strange ts n = ⊥

abbrev TaskIn : Task → List Frame → ℕ → Type 0
TaskIn (pairs_of (assoc row left done)) ts n = Due ts row (suc done) n
TaskIn (pairs_of (dynamics row done)) ts n = Due ts row (suc done) n
TaskIn (items_of i row left done) ts n = Due ts row (suc done) n
TaskIn (members_of row left done first y) ts n = Due ts row (suc done) n
TaskIn (keys_of row left done) ts n = Due ts row (suc done) n
TaskIn (values_of row left done) ts n = Due ts row (suc done) n
TaskIn strange ts n = Unit

-- the frame of a task lies below the used rows
framed : (t : Task) (ts : List Frame) (n : ℕ) → TaskOn t ts n → Above (frame_of t ∷ ts) n
unfolding frame_of
framed (pairs_of (assoc row left done)) ts n h = (h.below, h.above)
framed (pairs_of (dynamics row done)) ts n h = (h.below, h.above)
framed (items_of dense row left done) ts n h = (h.below, h.above)
framed (items_of vector row left done) ts n h = (h.below, h.above)
framed (members_of row left done first y) ts n h = (h.below, h.above)
framed (keys_of row left done) ts n h = (h.below, h.above)
framed (values_of row left done) ts n h = (h.below, h.above)
framed strange ts n h = absurd h

-- by the frame's code
task-cond : (t : Bool) (x y : Task) (ts : List Frame) (n : ℕ) → TaskIn x ts n → TaskIn y ts n → TaskIn (cond t x y) ts n
task-cond true x y ts n h k = h
task-cond false x y ts n h k = k

-- of a frame whose entry in work is row r
task_in : (f : Frame) (ts : List Frame) (r n : ℕ) → Above (f ∷ ts) r → r < n → TaskIn (task_of f) ts n
unfolding task_of
task_in f ts r n (h, k) l =
    let d : Due ts f.row (suc f.done) n = record { above = k; below = omega arith } in
    task-cond (eqb f.task task_pairs) _ _ ts n d (task-cond (eqb f.task task_dynamics) _ _ ts n d (task-cond (eqb f.task task_dense) _ _ ts n d
    (task-cond (eqb f.task task_vector) _ _ ts n d (task-cond (eqb f.task task_members) _ _ ts n d (task-cond (eqb f.task task_keys) _ _ ts n d
    (task-cond (eqb f.task task_values) _ _ ts n d tt))))))

module _ (ts : List Frame) where
  stacked-go : (k : Cursor → Memory → State) → ((c : Cursor) (m : Memory) → Room ts c.rows → Stacked (k c m))
      → (t : Task) (c : Cursor) (m : Memory) → TaskOn t ts c.rows → Stacked (go k ts t c m)
  unfolding go
  stacked-go k g (pairs_of (assoc row n done)) c m h = search rising
  stacked-go k g (pairs_of (dynamics row done)) c m h = search rising
  stacked-go k g (items_of i row zero done) c m h = search (rising, rows-closed, room row (due-under h))
  stacked-go k g (items_of i row (suc n) done) c m h = waits (framed (items_of i row n done) ts c.rows h)
  stacked-go k g (members_of row zero done first zero) c m h = search (rising, rows-closed, room row (due-under h))
  stacked-go k g (members_of row zero done first (suc y)) c m h = search rising
  stacked-go k g (members_of row (suc n) done first y) c m h = search (rising, rows-sealed, framed (members_of row n done first y))
  stacked-go k g (keys_of row zero done) c m h = search (rising, rows-closed, room row (due-under h))
  stacked-go k g (keys_of row (suc n) done) c m h = waits (framed (keys_of row n done) ts c.rows h)
  stacked-go k g (values_of row n done) c m h = waits (framed (values_of row n done) ts c.rows h)
  stacked-go k g strange c m h = ends

  stacked-entry : (f : Task → Cursor → Memory → State) → ((t : Task) (c : Cursor) (m : Memory) → TaskOn t ts c.rows → Stacked (f t c m))
      → (t : Task) (c : Cursor) (m : Memory) → TaskIn t ts c.rows → Stacked (entry t c m f)
  unfolding entry
  stacked-entry f g (pairs_of (assoc row n done)) c m h = search (rising, rows-counted)
  stacked-entry f g (pairs_of (dynamics row done)) c m h = search (rising, rows-counted)
  stacked-entry f g (items_of i row n done) c m h = search (rising, rows-counted)
  stacked-entry f g (members_of row n done first y) c m h = search (rising, rows-counted)
  stacked-entry f g (keys_of row n done) c m h = search (rising, rows-key-end, due-more)
  stacked-entry f g (values_of row n done) c m h = search (rising, rows-counted)
  stacked-entry f g strange c m h = ends

-- a value is finished, some row of which is in work
stacked-pop : (ts : List Frame) (c : Cursor) (m : Memory) → Room ts c.rows → Stacked (pop ts c m)
unfolding pop
stacked-pop [] c m h = ends
stacked-pop (f ∷ ts) c m (room row h) =
    stacked-entry ts _ (stacked-go ts (pop ts) (stacked-pop ts)) (task_of f) c m (task_in f ts row c.rows h.above h.below)

module _ (ts : List Frame) where
  stacked-onward : (t : Task) (c : Cursor) (m : Memory) → TaskOn t ts c.rows → Stacked (onward ts t c m)
  stacked-onward = stacked-go ts (pop ts) (stacked-pop ts)

  stacked-keyed : (p : Pairing) (s : Span) (n : ℕ) (c : Cursor) (m : Memory) → UseOn (for_key p) ts c.rows → Stacked (keyed ts p s n c m)
  unfolding keyed
  stacked-keyed (assoc row n done) s zero c m h = stacked-onward _ c m (due-none (due-under h))
  stacked-keyed (dynamics row done) s zero c m h = search (rising, rows-closed, stacked-pop, room row (due-under h))
  stacked-keyed (assoc row n done) s (suc k) c m h = waits (framed (pairs_of (assoc row n done)) ts c.rows h)
  stacked-keyed (dynamics row done) s (suc k) c m h = waits (framed (pairs_of (dynamics row done)) ts c.rows h)

  stacked-naming : (row : ℕ) (t : Trait) (n : ℕ) (c : Cursor) (m : Memory) → Under ts row c.rows → Stacked (naming ts row t n c m)
  unfolding naming
  stacked-naming row t zero c m h = search (rising, rows_trait_end, stacked-onward)
  stacked-naming row t (suc n) c m h = search rising

  stacked-had : (u : Use) (s : Span) (c : Cursor) (m : Memory) → UseOn u ts c.rows → Stacked (had ts u s c m)
  unfolding had
  stacked-had (for_string row) s c m h = search (rising, rows-bodied, rows-closed, stacked-pop, room row h) depth 8
  stacked-had (for_key p) s c m h = stacked-keyed p s s.size c m h
  stacked-had (for_class row n y) s c m h = search (rising, rows-object, stacked-naming)
  stacked-had for_external s c m h = ends
  stacked-had (for_name row t n) s c m h = search (rising, rows_named, stacked-naming)
  stacked-had (for_vector row n) s c m h = search (rising, rows-starred, rows-vector, stacked-onward) depth 8

  stacked-text : (x : Text) (s : Span) (valid : Bool) (c : Cursor) (m : Memory) → TextOn x ts c.rows → Stacked (text_done ts x s valid c m)
  unfolding text_done
  stacked-text (xml_text row) s valid c m h = search (rising, rows-judged, rows-closed, stacked-pop, room row h) depth 8
  stacked-text (table_text u) s valid c m h = search (rising, rows-text-end, stacked-had)

  stacked_use : (u : Use) (s : Span) (c : Cursor) (m : Memory) (g : Unit {0} → Cursor → Memory → State)
      → ((a : Unit {0}) (d : Cursor) (m : Memory) → c.rows ≤ d.rows → Stacked (g a d m)) → Stacked (on (reserved_for u s m c) m g)
  unfolding reserved_for
  stacked_use (for_string row) s c m g h = search (rising, rows-bodied)
  stacked_use (for_key p) s c m g h = h tt c m (le_refl _)
  stacked_use (for_class row n y) s c m g h = h tt c m (le_refl _)
  stacked_use for_external s c m g h = h tt c m (le_refl _)
  stacked_use (for_name row t n) s c m g h = h tt c m (le_refl _)
  stacked_use (for_vector row n) s c m g h = h tt c m (le_refl _)

  stacked-string : (u : Use) (z : Size) (c : Cursor) (m : Memory) → UseOn u ts c.rows → Stacked (string_sized ts u z c m)
  unfolding string_sized
  stacked-string u (Old i) c m h = search (rising, rows-old-text, stacked-had)
  stacked-string u (New zero) c m h = stacked-had u no_span c m h
  stacked-string u (New (suc n)) c m h = search (rising, rows-reserved, stacked_use) depth 8

  stacked-room : (row n : ℕ) (c : Cursor) (m : Memory) (f : Span → Cursor → Memory → State)
      → ((s : Span) (d : Cursor) (m : Memory) → c.rows ≤ d.rows → Stacked (f s d m)) → Stacked (roomy row n c m f)
  unfolding roomy
  stacked-room row zero c m f h = h no_span c m (le_refl _)
  stacked-room row (suc n) c m f h =
      stacked-looking m c _ (λ m. reserved (suc n) m.store) (rows-reserved m c (suc n))
      (λ s d m l. stacked-rows m d _ (bodied row s) (rows-bodied row m.rows d s) (λ x e m k. h s e m (omega arith)))

  stacked-texting : (row : ℕ) (s : Span) (n : ℕ) (c : Cursor) (m : Memory) → Under ts row c.rows → Stacked (texting ts row s n c m)
  unfolding texting
  stacked-texting row s zero c m h = search (rising, rows-closed, stacked-pop, room row h)
  stacked-texting row s (suc n) c m h = search rising

  stacked-filling : (r : Raw) (s : Span) (n : ℕ) (c : Cursor) (m : Memory) → Under ts (raw_row r) c.rows → Stacked (filling ts r s n c m)
  unfolding filling
  stacked-filling r s zero c m h = search (rising, rows-closed, stacked-pop, room (raw_row r) h)
  stacked-filling r s (suc n) c m h = search rising

  stacked-opened : (row : ℕ) (body : Body) (n : ℕ) (c : Cursor) (m : Memory) → Under ts row c.rows → Stacked (opened ts row body n c m)
  unfolding opened
  stacked-opened row xml n c m h = search (rising, stacked-room, stacked-texting) depth 8
  stacked-opened row date n c m h = search rising
  stacked-opened row array n c m h = search rising
  stacked-opened row bytes n c m h = search (rising, stacked-room, stacked-filling) depth 8
  stacked-opened row (raw w) n c m h = search (rising, stacked-room)
  stacked-opened row objects n c m h = search rising
  stacked-opened row dictionary n c m h = search rising

  stacked-body : (row : ℕ) (body : Body) (z : Size) (c : Cursor) (m : Memory) → Under ts row c.rows → Stacked (body_sized ts row body z c m)
  unfolding body_sized
  stacked-body row body (Old i) c m h = search (rising, rows-referred, stacked-pop, room row h)
  stacked-body row body (New n) c m h = search (rising, rows-entered, stacked-opened)

  stacked-object : (row : ℕ) (z : Shape) (c : Cursor) (m : Memory) → Under ts row c.rows → Stacked (object_shaped ts row z c m)
  unfolding object_shaped
  stacked-object row (Object i) c m h = search (rising, rows-referred, stacked-pop, room row h)
  stacked-object row (Known i) c m h = search (rising, rows-entered, rows-old_trait, rows-object, stacked-onward) depth 10
  stacked-object row External c m h = search (rising, rows-entered)
  stacked-object row (Inline n y) c m h = search (rising, rows-entered)

  stacked-word : (w : Word) (n : ℕ) (c : Cursor) (m : Memory) → WordOn w ts c.rows → Stacked (worded ts w n c m)
  unfolding worded
  stacked-word (integer_word row) n c m h = search (rising, rows-integer, stacked-pop, room row h)
  stacked-word (object_word row) n c m h = stacked-object row (shape_of n) c m h
  stacked-word (size_word row body) n c m h = stacked-body row body (size_of n) c m h
  stacked-word (text_word u) n c m h = stacked-string u (size_of n) c m h

  stacked-number : (d : Number) (bits : ℕ) (c : Cursor) (m : Memory) → Under ts (number_row d) c.rows → Stacked (number_done ts d bits c m)
  unfolding number_done
  stacked-number (double_bits row) bits c m h = search (rising, rows-numbered, stacked-pop, room row h)
  stacked-number (date_bits row) bits c m h = search (rising, rows-date, stacked-pop, room row h)

  stacked-flag : (f : Flag) (b : ℕ) (c : Cursor) (m : Memory) → FlagOn f ts c.rows → Stacked (flag_done ts f b c m)
  unfolding flag_done
  stacked-flag (raw_flag row w s) b c m h = search (rising, rows-flagged, stacked-filling)
  stacked-flag (objects_flag row n) b c m h = search (rising, rows-flagged)
  stacked-flag (dictionary_flag row n) b c m h = search (rising, rows-flagged, stacked-onward)

  stacked-begun : (row : ℕ) (k : Kind) (c : Cursor) (m : Memory) → Under ts row c.rows → Stacked (begun ts row k c m)
  unfolding begun
  stacked-begun row leaf c m h = stacked-pop ts c m (room row h)
  stacked-begun row integer c m h = search rising
  stacked-begun row double c m h = search rising
  stacked-begun row string c m h = search rising
  stacked-begun row object c m h = search rising
  stacked-begun row (sized body) c m h = search rising

  -- a new row lies over all frames
  stacked-marked : {P : List ℕ → Type 0} {lent : Lent} (to : List ℕ → Memory) (m : Memory) (kind : Kind) {c : Cursor} (o : Out (List ℕ) ℕ)
      → Keeps ⊥ P (NewRow c) lent c o → Above ts c.rows → Stacked (on (lift to o) m (λ row. begun ts row kind))
  stacked-marked to m kind o (refuses t) h = ends
  stacked-marked to m kind o (gives p v (e, l)) h = stacked-begun _ kind _ _ (record { above = rw e h; below = l })

  stacked-part : (p : Option Part) (m : Memory) (more whole : ℕ → State) → ((n : ℕ) → Stacked (more n)) → ((n : ℕ) → Stacked (whole n)) → Stacked (on_part p m more whole)
  stacked-part (Some (More n)) m more whole f g = f n
  stacked-part (Some (Whole n)) m more whole f g = g n
  stacked-part None m more whole f g = ends

stacked-raw : (r : Raw) (s : Span) (n : ℕ) (c : Cursor) (m : Memory) (g : Unit {0} → Cursor → Memory → State)
    → ((a : Unit {0}) (d : Cursor) (m : Memory) → c.rows ≤ d.rows → Stacked (g a d m)) → Stacked (on (raw_grown r s n m c) m g)
unfolding raw_grown
stacked-raw (byte_array row) s n c m g h = h tt c m (le_refl _)
stacked-raw (raw_vector row w) s n c m g h = search (rising, rows_grown)

-- what a byte makes of a mode, the cursor already past it
stacked-act : (x : Mode) (b : ℕ) (ts : List Frame) (c : Cursor) (m : Memory) → ModeOn x ts c.rows → Stacked (act x b ts c m)
unfolding act
stacked-act (at_marker k) b ts c m h =
    stacked-marked ts _ m (kind_of b) _ (keeps-marker m c (shown k) (open_limit - length ts) b (λ x. absurd x)) h
stacked-act (at_word w left n) b ts c m h = stacked-part ts (part_of left n b) m _ _ (λ k. waits h) (λ k. stacked-word ts w k c m h)
stacked-act (at_number d left n) b ts c m h = stacked-part ts (digit_of left n b) m _ _ (λ k. waits h) (λ k. stacked-number ts d k c m h)
stacked-act (at_flag f) b ts c m h = stacked-flag ts f b c m h
stacked-act (at_text x s zero t) b ts c m h = search (rising, rows-stored, stacked-text) depth 8
stacked-act (at_text x s (suc n) t) b ts c m h = search (rising, rows-stored) depth 8
stacked-act (at_raw r s n) b ts c m h = search (rising, rows-stored, stacked-raw, stacked-filling) depth 10
stacked-act astray b ts c m h = ends

-- ---- a step, a run, the beginning

pub stacked-step : (b : ℕ) (s : State) → Stacked s → Stacked (step b s)
unfolding step
stacked-step b s (waits {x = x} {ts = ts} {c = c} {m = m} h) = on_bool (leb message_limit c.at) (λ e. rw e ends) (λ e. rw e (stacked-act x b ts (taken c) m h))
stacked-step b s ends = ends
stacked-step b s never = ends

pub stacked-run : (s : State) (bs : List ℕ) → Stacked s → Stacked (run s bs)
unfolding run
stacked-run s [] h = h
stacked-run s (b ∷ bs) h = stacked-run (step b s) bs (stacked-step b s h)

stacked-begin-at : (fault : ℕ) (m : Memory) → Stacked (begin_at fault m)
stacked-begin-at zero m = waits tt
stacked-begin-at (suc loan) m = ends

pub stacked-begin : (m : Memory) → Stacked (begin m)
unfolding begin
stacked-begin m = stacked-begin-at (fault_of m) m
