-- Along a run from the beginning the loans keep their lengths, no more of them is used than there is, the place counts the bytes taken, no more values are
-- open than may be, what a mode holds lies in what is used, and a refusal is one that a reading can say.
use Rattle.std.proofs.Common.{Option, Some, None}
use mathlib.Core.Path.{◌≡◌, refl, ap, ◌∙◌}
use mathlib.Core.Bool.{Bool, true, false, cond}
use mathlib.Core.List.{List, [], ◌∷◌}
use Prim.Native.Nat.{ℕ, zero, suc, ◌+◌, ◌*◌, ◌-◌, ◌^◌, ◌≤◌, ◌<◌}
use native.Mathlib.Omega.{arith}
use native.Mathlib.Nat.{add-zero, add_assoc, le_refl, le_of_lt}
use native.Mathlib.Numerals.{add-one}
use native.Mathlib.Decide.{dec_lt}
use Prim.Native.Nat.{zero-le}
use lib.Dec.{T, leb, eqb, lit<, lit≤}
use borrow.Author.Tests.{leb-true, leb-false, le-leb, eq-eqb}
use lib.ListN.{length, length-replicate}
use Rattle.rows.specs.declared.Cursor.{Cursor}
use Rattle.rows.specs.declared.Span.{Span}
use Rattle.rows.specs.declared.Key.{Key}
use Rattle.rows.specs.declared.Trait.{Trait}
use Rattle.rows.specs.Memory.{Memory, fresh, zeroed, fault_of, message_most, message_limit, open_limit, no_span, no_key}
use Rattle.rows.specs.Memory.{faulty, loan_fault, loan_rows, loan_store, loan_strings, loan_objects, loan_traits, loan_names, row_width, span_width, trait_width}
use Rattle.rows.specs.Memory.{rows_most, store_most, strings_most, objects_most, traits_most, names_most}
use Rattle.wire.specs.declared.Part.{Part}
use Rattle.wire.specs.declared.Part.TheVariants.{More, Whole}
use Rattle.wire.specs.declared.Size.{Size}
use Rattle.wire.specs.declared.Size.TheVariants.{Old, New}
use Rattle.wire.specs.declared.Shape.{Shape}
use Rattle.wire.specs.declared.Shape.TheVariants.{Object, Known, External, Inline}
use Rattle.wire.specs.Word.{bit, size_of, shape_of}
use Rattle.wire.specs.U29.{word_more, word_bits, part_of}
use Rattle.wire.specs.Big.{number_more, number_bits, digit_of}
use Rattle.wire.proofs.U29 as u29
use Rattle.wire.proofs.Big.{digit-within, digit-last, digit-more}
use Rattle.wire.proofs.Digits.{one_more, before_small, can, cannot, guard}
use Rattle.wire.proofs.Octets.{Bytes}
use Rattle.utf8.proofs.States.{step_le}
use Rattle.format.specs.declared.Frame.{Frame}
use Rattle.format.specs.Decide.{Out, lift, looking, on_rows}
use Rattle.format.specs.Decide.{Body, xml, date, array, bytes, raw, objects, dictionary, Kind, leaf, integer, double, string, object, sized}
use Rattle.format.specs.Decide.{kind_of, marker, class_of, trait_of, reserved}
use Rattle.format.specs.Step.{Pairing, assoc, dynamics, Task, pairs_of, items_of, members_of, keys_of, values_of, strange, task_of, Use}
use Rattle.format.specs.Step.{for_string, for_key, for_class, for_external, for_name, for_vector, Text, xml_text, table_text, Word, integer_word, object_word}
use Rattle.format.specs.Step.{size_word, text_word, Number, double_bits, date_bits, Flag, raw_flag, objects_flag, dictionary_flag, Raw, byte_array, raw_vector}
use Rattle.format.specs.Step.{Mode, at_marker, at_word, at_number, at_flag, at_text, at_raw, astray, State, wait, over, on, broken}
use Rattle.format.specs.Step.{go, entry, pop, onward, keyed, naming, had, text_done, reserved_for, string_sized, roomy, texting}
use Rattle.format.specs.Step.{raw_row, filling, opened, body_sized, object_shaped, worded, number_done, flag_done, raw_grown, begun, shown, on_part, act, step, run}
use Rattle.format.specs.Step.{begin_at, begin}
use Rattle.format.specs.Reading.{finished, refused, taken}
use Rattle.rows.specs.declared.lent.Lent.{Lent}
use Rattle.format.specs.Numbers.{lent_of, memory_of}
use Rattle.format.specs.Answers.{cost, cost_from}
use Rattle.format.proofs.Tests.{on_bool, clash}
use Rattle.format.proofs.Used.{RowIn, SpanIn, KeyIn, Roomy, UseIn, TextIn, WordIn, FlagIn, ModeIn, WorkIn, SmallIn, PartIn, mode_in, mode-parts, Grows, grows_same, grows-on, row_up, span-up}
use Rattle.format.proofs.Used.{names-up, use_up, text-up, word-up, number_up, flag_up}
use Rattle.format.proofs.Kept.{moves-same, says, strays, Keeps, refuses, gives, RowOf, NewRow, Any, Lends, Holds, says-sayable, holds-objects, keeps-looking, keeps-on-rows, keeps-on-store}
use Rattle.format.proofs.Kept.{keeps-on-strings, keeps-on-objects, keeps-on-traits, keeps-on-names, keeps-closed, keeps-numbered}
use Rattle.format.proofs.Kept.{keeps-integer, keeps-date, keeps-bodied, keeps-object, keeps-vector, keeps-flagged, keeps-counted, keeps-key-end}
use Rattle.format.proofs.Kept.{keeps-grown, keeps-referred, keeps-marker, keeps-shut, keeps-old-text, keeps-reserved, keeps-stored, keeps-judged}
use Rattle.format.proofs.Kept.{keeps-text-end, keeps-entered, keeps-old_trait, keeps-named, keeps_trait_end, keeps-sealed, keeps-starred}
use Rattle.format.specs.Refusals as no
pub use Rattle.format.specs.Together.{Fits}

-- a task needs its row where it may have a key to read
abbrev TaskIn : Task → Cursor → Type 0
TaskIn (pairs_of (assoc row n done)) c = RowIn row c
TaskIn (pairs_of (dynamics row done)) c = RowIn row c
TaskIn (items_of i row n done) c = Unit
TaskIn (members_of row n done first y) c = RowIn row c
TaskIn (keys_of row n done) c = Unit
TaskIn (values_of row n done) c = Unit
TaskIn strange c = Unit

paired : {A B : Type 0} → A → B → A × B
paired a b = (a, b)

-- of a word, or of eight bytes, nothing was read
word-begins : PartIn word_more word_bits word_more 0
word-begins = (le_refl _, lit< tt)

number-begins : PartIn number_more number_bits number_more 0
number-begins = (le_refl _, lit< tt)

ruleset used = (row_up, span-up, names-up, use_up, text-up, word-up, number_up, word-begins, number-begins, step_le, paired, zero-le, le_refl, le_of_lt, tt)

-- what a refusal leaves: 1 the loans as found, any other one all of them zero
pub data Left : ℕ → Memory → Type 0 where
  found : {m : Memory} → Left 1 m
  wiped : {n : ℕ} (k : Memory) → Left n (zeroed k)

-- a state at a place
pub data Good (lent : Lent) (at : ℕ) : State → Type 0 where
  waits : {x : Mode} {ts : List Frame} {c : Cursor} {m : Memory} → Holds lent at c m → Fits x (length ts) → ModeIn x c → Good lent at (wait x ts c m)
  finishes : {c : Cursor} {m : Memory} → Holds lent at c m → Good lent at (over (finished c m))
  declines : {n told place : ℕ} {m : Memory} → T (no.sayable n told place) → Lends lent m → Left n m → Good lent at (over (refused n told place m))

-- zeroed loans keep their lengths
pub lends-zeroed : (lent : Lent) (m : Memory) → Lends lent m → Lends lent (zeroed m)
unfolding zeroed lent_of
lends-zeroed lent m h = simp length-replicate h

-- the same where B says that the bytes so far are ones: without it only parts of numbers, and what is told of them, may be too large
pub data Able (B : Type 0) (lent : Lent) (at : ℕ) : State → Type 0 where
  awaits : {x : Mode} {ts : List Frame} {c : Cursor} {m : Memory} → Holds lent at c m → Fits x (length ts) → WorkIn x c → (B → SmallIn x)
      → Able B lent at (wait x ts c m)
  completes : {c : Cursor} {m : Memory} → Holds lent at c m → Able B lent at (over (finished c m))
  rejects : {n told place : ℕ} {m : Memory} → (B → T (no.sayable n told place)) → Lends lent m → Left n m → Able B lent at (over (refused n told place m))

module _ {B : Type 0} {lent : Lent} {at : ℕ} where
  -- with B it is good
  pub able_good : (s : State) → B → Able B lent at s → Good lent at s
  able_good s b (awaits {x = x} {c = c} h f u p) = waits h f (mode_in x c u (p b))
  able_good s b (completes h) = finishes h
  able_good s b (rejects t h z) = declines (t b) h z

  -- where more is asked of the bytes
  pub able_less : {C : Type 0} (s : State) → (C → B) → Able B lent at s → Able C lent at s
  able_less s f (awaits h g u p) = awaits h g u (λ c. p (f c))
  able_less s f (completes h) = completes h
  able_less s f (rejects t h z) = rejects (λ c. t (f c)) h z

  -- whatever the bytes, the loans keep their lengths
  pub able_lends : (s : State) → Able B lent at s → Lends lent (memory_of s)
  able_lends s (awaits h f u p) = h.lends
  able_lends s (completes h) = h.lends
  able_lends s (rejects t h z) = h

-- a good state needs nothing of the bytes
pub good_able : {lent : Lent} {at : ℕ} (s : State) → Good lent at s → Able (Unit {0}) lent at s
good_able s (waits {x = x} {c = c} h f u) = let (w, p) = mode-parts x c u in awaits h f w (λ b. p)
good_able s (finishes h) = completes h
good_able s (declines t h z) = rejects (λ b. t) h z

-- ---- numbers that bytes give

module _ (left n b k : ℕ) where
  -- what says more leaves a part that bytes can give
  part_in : left ≤ word_more → b < 2 ^ 8 → part_of left n b ≡ Some (More k) → PartIn word_more word_bits (left - 1) k
  part_in h hb e = (omega arith, (u29.part-within left n b k hb e).1)

  digit_in : left ≤ number_more → b < 2 ^ 8 → digit_of left n b ≡ Some (More k) → PartIn number_more number_bits (left - 1) k
  digit_in h hb e = (omega arith, (digit-within left n b k hb e).1)

  -- a whole word has 29 bits, a whole number 64
  part-whole : b < 2 ^ 8 → part_of left n b ≡ Some (Whole k) → k < 2 ^ 29
  part-whole hb = of (u29.step left n b)
    where
      of : {x : Option Part} → u29.Step left n b x → x ≡ Some (Whole k) → k < 2 ^ 29
      of (u29.astray a) e = clash cc
      of (u29.fourth z f) e = let v : n * 2 ^ 8 + b ≡ k = cc in omega arith
      of (u29.last l h f g) e =
          let v : n * 2 ^ 7 + b ≡ k = cc in
          omega (arith, before_small 7 3 (left - 1) (one_more 7 3 left n b l h f g))
      of (u29.more l h f g) e = clash cc

  digit-whole : b < 2 ^ 8 → digit_of left n b ≡ Some (Whole k) → k < 2 ^ 64
  unfolding digit_of
  digit-whole hb e =
      elim (guard 8 7 left n) [
        | cannot a f ↦ (let d : digit_of left n b ≡ None = f _ in clash cc)
        | can h f ↦ elim (dec_lt 0 left) [
          | no l ↦
              (let d = digit-last left n b h f (omega arith) in let v : n * 2 ^ 8 + b ≡ k = cc in omega (arith, before_small 8 7 left f))
          | yes l ↦ (let d = digit-more left n b h f l in clash cc)
        ]
      ]

-- an index that a word gives is below 2 ^ 28
abbrev OldIn : Type 0 → Size → Type 0
OldIn B (Old i) = B → i < 2 ^ 28
OldIn B (New n) = Unit

abbrev ShapedIn : Type 0 → Shape → Type 0
ShapedIn B (Object i) = B → i < 2 ^ 28
ShapedIn B (Known i) = B → i < 2 ^ 28
ShapedIn B External = Unit
ShapedIn B (Inline n y) = Unit

-- what a word below 2 ^ 29 says
module _ {B : Type 0} (w : ℕ) (few : B → w < 2 ^ 29) where
  old_in : OldIn B (size_of w)
  unfolding size_of
  old_in = on_bool (eqb (bit 0 w) 0) (λ e. rw e (λ b. omega (arith, few b))) (λ e. rw e tt)

  shaped_in : ShapedIn B (shape_of w)
  unfolding shape_of
  shaped_in = on_bool (eqb (bit 0 w) 0) (λ e. rw e (λ b. omega (arith, few b))) (λ e. rw e
      (on_bool (eqb (bit 1 w) 0) (λ e. rw e (λ b. omega (arith, few b))) (λ e. rw e
      (on_bool (eqb (bit 2 w) 0) (λ e. rw e tt) (λ e. rw e tt)))))

-- a new trait's first name is none or the next
trait_first : (s : Span) (n y : ℕ) (c : Cursor) → (trait_of s n y c).first ≤ c.names
trait_first s n y c = on_bool (eqb n 0) (λ e. rw e zero-le) (λ e. rw e (le_refl _))

-- ---- after a byte

-- a decision that gives what is used, and one of which nothing else is asked
good-given : {A : Type 0} (Q : A → Cursor → Type 0) {B : Type 0} {lent : Lent} {at : ℕ} (o : Out Memory A) (m : Memory) (f : A → Cursor → Memory → State) {c : Cursor}
    → Holds lent (suc at) c m → Keeps B (Lends lent) Q lent c o
    → ((a : A) (d : Cursor) (m : Memory) → Holds lent (suc at) d m → Grows c d → Q a d → Able B lent (suc at) (f a d m)) → Able B lent (suc at) (on o m f)
good-given Q {lent} o m f h (refuses t) g = rejects (says-sayable h t) (lends-zeroed lent m h.lends) (wiped _)
good-given Q o m f h (gives p v q) g =
    g _ _ _ (record { lends = p; clean = h.clean; place = v.place ∙ h.place; within = h.within; counts = v.counts h.counts }) v.grows q

module _ {B : Type 0} {lent : Lent} {at : ℕ} where
  good-on : {A : Type 0} (o : Out Memory A) (m : Memory) (f : A → Cursor → Memory → State) {c : Cursor} → Holds lent (suc at) c m → Keeps B (Lends lent) Any lent c o
      → ((a : A) (d : Cursor) (m : Memory) → Holds lent (suc at) d m → Grows c d → Able B lent (suc at) (f a d m)) → Able B lent (suc at) (on o m f)
  good-on o m f h k g = good-given Any o m f h k (λ a d m h v q. g a d m h v)

  -- one that never gives
  good-stop : {A : Type 0} {Q : A → Cursor → Type 0} {lent' : Lent} (o : Out (List ℕ) A) (to : List ℕ → Memory) (m : Memory)
      (f : A → Cursor → Memory → State) {c : Cursor} → Holds lent (suc at) c m → Keeps B (λ (l : List ℕ). ⊥) Q lent' c o → Able B lent (suc at) (on (lift to o) m f)
  good-stop o to m f h (refuses t) = rejects (says-sayable h t) (lends-zeroed lent m h.lends) (wiped _)
  good-stop o to m f h (gives p v q) = absurd p

  -- room is reserved
  good-reserved : (n : ℕ) (f : Span → Cursor → Memory → State) (c : Cursor) (m : Memory) → Holds lent (suc at) c m
      → ((s : Span) (d : Cursor) (m : Memory) → Holds lent (suc at) d m → Grows c d → SpanIn s d → n ≤ s.size → Able B lent (suc at) (f s d m))
      → Able B lent (suc at) (on (looking (λ m. reserved n m.store) m c) m f)
  good-reserved n f c m h g =
      good-given (Roomy n) _ m f h (keeps-looking h (λ m. reserved n m.store) (keeps-reserved m c n)) (λ s d m h v r. g s d m h v r.0 r.1)

  -- 12
  good-broken : {c : Cursor} {m : Memory} → Holds lent (suc at) c m → Able B lent (suc at) (broken m)
  good-broken h = rejects (says-sayable h strays) (lends-zeroed lent _ h.lends) (wiped _)

ruleset good = (used, good-on, good-broken, awaits, keeps-looking, keeps-on-rows, keeps-on-store, keeps-on-strings, keeps-on-objects, keeps-on-traits, keeps-on-names)

module _ {B : Type 0} {lent : Lent} {at : ℕ} (ts : List Frame) (fits : length ts < open_limit) where
  good-go : (k : Cursor → Memory → State) → ((c : Cursor) (m : Memory) → Holds lent (suc at) c m → Able B lent (suc at) (k c m))
      → (t : Task) (c : Cursor) (m : Memory) → Holds lent (suc at) c m → TaskIn t c → Able B lent (suc at) (go k ts t c m)
  unfolding go
  good-go k g (pairs_of (assoc row n done)) c m h has = search good
  good-go k g (pairs_of (dynamics row done)) c m h has = search good
  good-go k g (items_of i row zero done) c m h has = search (good, keeps-closed)
  good-go k g (items_of i row (suc n) done) c m h has = search good
  good-go k g (members_of row zero done first zero) c m h has = search (good, keeps-closed)
  good-go k g (members_of row zero done first (suc y)) c m h has = search good
  good-go k g (members_of row (suc n) done first y) c m h has = search (good, good-given KeyIn, keeps-sealed)
  good-go k g (keys_of row zero done) c m h has = search (good, keeps-closed)
  good-go k g (keys_of row (suc n) done) c m h has = search good
  good-go k g (values_of row n done) c m h has = search good
  good-go k g strange c m h has = search good

good-entry : {B : Type 0} {lent : Lent} {at : ℕ} (f : Task → Cursor → Memory → State)
    → ((t : Task) (c : Cursor) (m : Memory) → Holds lent (suc at) c m → TaskIn t c → Able B lent (suc at) (f t c m))
    → (t : Task) (c : Cursor) (m : Memory) → Holds lent (suc at) c m → Able B lent (suc at) (entry t c m f)
unfolding entry
good-entry f g (pairs_of (assoc row n done)) c m h = search (good, good-given (RowOf row), keeps-counted)
good-entry f g (pairs_of (dynamics row done)) c m h = search (good, good-given (RowOf row), keeps-counted)
good-entry f g (items_of i row n done) c m h = search (good, good-given (RowOf row), keeps-counted)
good-entry f g (members_of row n done first y) c m h = search (good, good-given (RowOf row), keeps-counted)
good-entry f g (keys_of row n done) c m h = search (good, good-given (RowOf row), keeps-key-end)
good-entry f g (values_of row n done) c m h = search (good, good-given (RowOf row), keeps-counted)
good-entry f g strange c m h = search good

good-pop : {B : Type 0} {lent : Lent} {at : ℕ} (ts : List Frame) → length ts ≤ open_limit → (c : Cursor) (m : Memory) → Holds lent (suc at) c m → Able B lent (suc at) (pop ts c m)
unfolding pop
good-pop [] fits c m h = completes h
good-pop (f ∷ ts) fits c m h = good-entry _ (good-go ts fits (pop ts) (good-pop ts (omega arith))) (task_of f) c m h

module _ {B : Type 0} {lent : Lent} {at : ℕ} (ts : List Frame) (fits : length ts < open_limit) where
  good-popped : (c : Cursor) (m : Memory) → Holds lent (suc at) c m → Able B lent (suc at) (pop ts c m)
  good-popped = good-pop ts (omega arith)

  good-onward : (t : Task) (c : Cursor) (m : Memory) → Holds lent (suc at) c m → TaskIn t c → Able B lent (suc at) (onward ts t c m)
  good-onward = good-go ts fits (pop ts) good-popped

  good-keyed : (p : Pairing) (s : Span) (n : ℕ) (c : Cursor) (m : Memory) → Holds lent (suc at) c m → UseIn (for_key p) c → SpanIn s c
      → Able B lent (suc at) (keyed ts p s n c m)
  unfolding keyed
  good-keyed (assoc row n done) s zero c m h has sp = good-onward _ c m h tt
  good-keyed (dynamics row done) s zero c m h has sp = search (good, keeps-closed, good-popped)
  good-keyed (assoc row n done) s (suc k) c m h has sp = search good
  good-keyed (dynamics row done) s (suc k) c m h has sp = search good

  good-naming : (row : ℕ) (t : Trait) (n : ℕ) (c : Cursor) (m : Memory) → Holds lent (suc at) c m → RowIn row c → SpanIn (class_of t) c
      → t.first ≤ c.names → Able B lent (suc at) (naming ts row t n c m)
  unfolding naming
  good-naming row t zero c m h has sp first = search (good, keeps_trait_end, good-onward)
  good-naming row t (suc n) c m h has sp first = search good

  good-had : (u : Use) (s : Span) (c : Cursor) (m : Memory) → Holds lent (suc at) c m → UseIn u c → SpanIn s c → Able B lent (suc at) (had ts u s c m)
  unfolding had no.tells
  good-had (for_string row) s c m h has sp = search (good, keeps-bodied, keeps-closed, good-popped) depth 8
  good-had (for_key p) s c m h has sp = good-keyed p s s.size c m h has sp
  good-had (for_class row n y) s c m h has sp = search (good, keeps-object, good-naming, trait_first) depth 8
  good-had for_external s c m h has sp = rejects (says-sayable h (says (λ b. tt))) (lends-zeroed lent m h.lends) (wiped _)
  good-had (for_name row t n) s c m h ((has, class), first) sp = search (good, keeps-named, good-naming)
  good-had (for_vector row n) s c m h has sp = search (good, keeps-starred, keeps-vector, good-onward) depth 8

  good-text : (x : Text) (s : Span) (valid : Bool) (c : Cursor) (m : Memory) → Holds lent (suc at) c m → TextIn x c → SpanIn s c
      → Able B lent (suc at) (text_done ts x s valid c m)
  unfolding text_done
  good-text (xml_text row) s valid c m h has sp = search (good, keeps-judged, keeps-closed, good-popped) depth 8
  good-text (table_text u) s valid c m h has sp = search (good, good-given SpanIn, keeps-text-end, good-had)

  keeps_use : (u : Use) (s : Span) (c : Cursor) (m : Memory) → Holds lent (suc at) c m → Keeps B (Lends lent) Any lent c (reserved_for u s m c)
  unfolding reserved_for
  keeps_use (for_string row) s c m h = search (keeps-on-rows, keeps-bodied)
  keeps_use (for_key p) s c m h = gives h.lends moves-same tt
  keeps_use (for_class row n y) s c m h = gives h.lends moves-same tt
  keeps_use for_external s c m h = gives h.lends moves-same tt
  keeps_use (for_name row t n) s c m h = gives h.lends moves-same tt
  keeps_use (for_vector row n) s c m h = gives h.lends moves-same tt

  good-string : (u : Use) (z : Size) (c : Cursor) (m : Memory) → Holds lent (suc at) c m → UseIn u c → OldIn B z → Able B lent (suc at) (string_sized ts u z c m)
  unfolding string_sized
  good-string u (Old i) c m h has few = search (good, good-given SpanIn, keeps-old-text, good-had)
  good-string u (New zero) c m h has few = good-had u no_span c m h has zero-le
  good-string u (New (suc n)) c m h has few = good-reserved (suc n) _ c m h (λ s d m h v sp room. search (good, keeps_use) depth 8)

  good-room : (row n : ℕ) (f : Span → Cursor → Memory → State) (c : Cursor) (m : Memory) → Holds lent (suc at) c m
      → ((s : Span) (d : Cursor) (m : Memory) → Holds lent (suc at) d m → Grows c d → SpanIn s d → n ≤ s.size → Able B lent (suc at) (f s d m))
      → Able B lent (suc at) (roomy row n c m f)
  unfolding roomy
  good-room row zero f c m h g = g no_span c m h (grows_same c) zero-le zero-le
  good-room row (suc n) f c m h g = good-reserved (suc n) _ c m h (λ s d m h v sp room. search (good, grows-on, keeps-bodied) depth 8)

  good-texting : (row : ℕ) (s : Span) (n : ℕ) (c : Cursor) (m : Memory) → Holds lent (suc at) c m → RowIn row c → SpanIn s c → n ≤ s.size
      → Able B lent (suc at) (texting ts row s n c m)
  unfolding texting
  good-texting row s zero c m h has sp room = search (good, keeps-closed, good-popped)
  good-texting row s (suc n) c m h has sp room = search good

  good-filling : (r : Raw) (s : Span) (n : ℕ) (c : Cursor) (m : Memory) → Holds lent (suc at) c m → RowIn (raw_row r) c → SpanIn s c → n ≤ s.size
      → Able B lent (suc at) (filling ts r s n c m)
  unfolding filling
  good-filling r s zero c m h has sp room = search (good, keeps-closed, good-popped)
  good-filling r s (suc n) c m h has sp room = search good

  good-opened : (row : ℕ) (body : Body) (n : ℕ) (c : Cursor) (m : Memory) → Holds lent (suc at) c m → RowIn row c → Able B lent (suc at) (opened ts row body n c m)
  unfolding opened
  good-opened row xml n c m h has = search (used, good-room, good-texting) depth 8
  good-opened row date n c m h has = search good
  good-opened row array n c m h has = search good
  good-opened row bytes n c m h has = search (used, good-room, good-filling) depth 8
  good-opened row (raw w) n c m h has = search (good-room, good)
  good-opened row objects n c m h has = search good
  good-opened row dictionary n c m h has = search good

  good-body : (row : ℕ) (body : Body) (z : Size) (c : Cursor) (m : Memory) → Holds lent (suc at) c m → RowIn row c → OldIn B z
      → Able B lent (suc at) (body_sized ts row body z c m)
  unfolding body_sized
  good-body row body (Old i) c m h has few = search (good, keeps-referred, holds-objects, good-popped)
  good-body row body (New n) c m h has few = search (good, keeps-entered, good-opened)

  good-object : (row : ℕ) (z : Shape) (c : Cursor) (m : Memory) → Holds lent (suc at) c m → RowIn row c → ShapedIn B z
      → Able B lent (suc at) (object_shaped ts row z c m)
  unfolding object_shaped
  good-object row (Object i) c m h has few = search (good, keeps-referred, holds-objects, good-popped)
  good-object row (Known i) c m h has few = search (good, keeps-entered, keeps-old_trait, keeps-object, good-onward) depth 10
  good-object row External c m h has few = search (good, keeps-entered)
  good-object row (Inline n y) c m h has few = search (good, keeps-entered)

  good-word : (w : Word) (n : ℕ) (c : Cursor) (m : Memory) → Holds lent (suc at) c m → WordIn w c → (B → n < 2 ^ 29) → Able B lent (suc at) (worded ts w n c m)
  unfolding worded
  good-word (integer_word row) n c m h has few = search (good, keeps-integer, good-popped)
  good-word (object_word row) n c m h has few = good-object row (shape_of n) c m h has (shaped_in n few)
  good-word (size_word row body) n c m h has few = good-body row body (size_of n) c m h has (old_in n few)
  good-word (text_word u) n c m h has few = good-string u (size_of n) c m h has (old_in n few)

  good-number : (d : Number) (bits : ℕ) (c : Cursor) (m : Memory) → Holds lent (suc at) c m → (B → bits < 2 ^ 64) → Able B lent (suc at) (number_done ts d bits c m)
  unfolding number_done
  good-number (double_bits row) bits c m h few = search (good, keeps-numbered, good-popped)
  good-number (date_bits row) bits c m h few = search (good, keeps-date, good-popped)

  good-flag : (f : Flag) (b : ℕ) (c : Cursor) (m : Memory) → Holds lent (suc at) c m → FlagIn f c → Able B lent (suc at) (flag_done ts f b c m)
  unfolding flag_done
  good-flag (raw_flag row w s) b c m h (has, sp) = search (good, keeps-flagged, good-filling)
  good-flag (objects_flag row n) b c m h has = search (good, keeps-flagged)
  good-flag (dictionary_flag row n) b c m h has = search (good, keeps-flagged, good-onward)

  good-begun : (row : ℕ) (k : Kind) (c : Cursor) (m : Memory) → Holds lent (suc at) c m → RowIn row c → Able B lent (suc at) (begun ts row k c m)
  unfolding begun
  good-begun row leaf c m h has = good-popped c m h
  good-begun row integer c m h has = search good
  good-begun row double c m h has = search good
  good-begun row string c m h has = search good
  good-begun row object c m h has = search good
  good-begun row (sized body) c m h has = search good

  good-part : (p : Option Part) (more whole : ℕ → State) (c : Cursor) (m : Memory) → Holds lent (suc at) c m
      → ((n : ℕ) → p ≡ Some (More n) → Able B lent (suc at) (more n)) → ((n : ℕ) → p ≡ Some (Whole n) → Able B lent (suc at) (whole n)) → Able B lent (suc at) (on_part p m more whole)
  good-part (Some (More n)) more whole c m h f g = f n refl
  good-part (Some (Whole n)) more whole c m h f g = g n refl
  good-part None more whole c m h f g = good-broken h

keeps-raw : {B : Type 0} {lent : Lent} {at : ℕ} (r : Raw) (s : Span) (n : ℕ) (c : Cursor) (m : Memory) → Holds lent (suc at) c m → Keeps B (Lends lent) Any lent c (raw_grown r s n m c)
unfolding raw_grown
keeps-raw (byte_array row) s n c m h = gives h.lends moves-same tt
keeps-raw (raw_vector row w) s n c m h = search (keeps-on-rows, keeps-grown)

module _ {B : Type 0} {lent : Lent} {at : ℕ} where
  -- a marker, where so many may still open
  good-marker : (k : Key) (b : ℕ) (ts : List Frame) (c : Cursor) (m : Memory) → Holds lent (suc at) c m → (left : ℕ) → open_limit - length ts ≡ left
      → (B → b < 2 ^ 8) → Able B lent (suc at) (on (on_rows (marker k left b) m c) m (λ row. begun ts row (kind_of b)))
  good-marker k b ts c m h zero e few = good-stop (marker k 0 b m.rows c) _ m _ h (keeps-shut m c k b few)
  good-marker k b ts c m h (suc left) e few =
      let fits : length ts < open_limit = omega arith in
      good-given (NewRow c) _ m _ h (keeps-on-rows h (marker k (suc left) b) (keeps-marker m c k (suc left) b few))
      (λ row d m h v q. good-begun ts fits row (kind_of b) d m h q.1)

  -- what a byte makes of a mode, the cursor already past it
  good-act : {c : Cursor} (x : Mode) (b : ℕ) (ts : List Frame) (d : Cursor) (m : Memory) → Holds lent (suc at) d m → Fits x (length ts)
      → Grows c d → WorkIn x c → (B → SmallIn x) → (B → b < 2 ^ 8) → Able B lent (suc at) (act x b ts d m)
  unfolding act
  good-act (at_marker k) b ts d m h fits g has small few = good-marker (shown k) b ts d m h (open_limit - length ts) refl few
  good-act (at_word w left n) b ts d m h fits g has small few =
      good-part ts fits (part_of left n b) _ _ d m h (λ k e. awaits h fits (word-up g w has) (λ t. part_in left n b k (small t).0 (few t) e))
      (λ k e. good-word ts fits w k d m h (word-up g w has) (λ t. part-whole left n b k (few t) e))
  good-act (at_number x left n) b ts d m h fits g has small few =
      good-part ts fits (digit_of left n b) _ _ d m h (λ k e. awaits h fits (number_up g x has) (λ t. digit_in left n b k (small t).0 (few t) e))
      (λ k e. good-number ts fits x k d m h (λ t. digit-whole left n b k (few t) e))
  good-act (at_flag f) b ts d m h fits g has small few = good-flag ts fits f b d m h (flag_up g f has)
  good-act (at_text x s zero t) b ts d m h fits g ((has, (sp, room)), test) small few = search (good, keeps-stored, good-text) depth 8
  good-act (at_text x s (suc n) t) b ts d m h fits g ((has, (sp, room)), test) small few = search (good, keeps-stored) depth 8
  good-act (at_raw r s n) b ts d m h fits g (has, (sp, room)) small few = search (good, keeps-stored, keeps-raw, good-filling) depth 10
  good-act astray b ts d m h fits g has small few = absurd fits

-- ---- a step, a run, the beginning

-- a byte is one more, where it is taken
able_cost : {B : Type 0} {lent : Lent} {at : ℕ} (s : State) → Able B lent (suc at) s → Able B lent (at + cost s) s
able_cost s (awaits h f u p) = rw add-one (awaits h f u p)
able_cost s (completes h) = rw add-one (completes h)
able_cost s (rejects t h z) = rejects t h z

-- 11 is said at the limit
too_long_lem : (at : ℕ) → message_limit ≤ at → at ≤ message_limit → T (no.sayable no.too_long 0 at)
unfolding no.sayable message_limit
too_long_lem at h k = let e : at ≡ message_most = omega arith in rw (eq-eqb at message_most e) tt

-- one byte, whatever it is
pub able_step : {B : Type 0} {lent : Lent} {at : ℕ} (b : ℕ) (s : State) → Able B lent at s → Able (B × (b < 2 ^ 8)) lent (at + cost_from s (step b s)) (step b s)
unfolding step
able_step {B} {lent} {at} b s (awaits {x = x} {ts = ts} {c = c} {m = m} h f u p) = on_bool (leb message_limit c.at)
    (λ e. rw e (rejects (λ t. too_long_lem c.at (leb-true message_limit c.at e) here) (lends-zeroed lent m h.lends) (wiped _)))
    (λ e. rw e (able_cost (act x b ts (taken c) m) (good-act x b ts (taken c) m (next e) f (omega arith) u (λ t. p t.0) (λ t. t.1))))
  where
    here : c.at ≤ message_limit
    here = let i = h.place in let w = h.within in omega arith

    next : leb message_limit c.at ≡ false → Holds lent (suc at) (taken c) m
    next e = record { lends = h.lends; clean = h.clean; place = ap suc h.place; within = omega (arith, leb-false); counts = h.counts }
able_step b s (completes h) = rw add-zero (completes h)
able_step b s (rejects t h z) = rejects (λ (i, j). t i) h z

-- one that is a byte
pub good-step : {lent : Lent} {at : ℕ} (b : ℕ) (s : State) → b < 2 ^ 8 → Good lent at s → Good lent (at + cost_from s (step b s)) (step b s)
good-step b s h g = able_good (step b s) (tt, h) (able_step b s (good_able s g))

-- whatever the byte, the loans keep their lengths
pub lends_step : {lent : Lent} {at : ℕ} (b : ℕ) (s : State) → Good lent at s → Lends lent (memory_of (step b s))
lends_step b s g = able_lends (step b s) (able_step b s (good_able s g))

-- the bytes that a run takes
unfoldable pub takes : State → List ℕ → ℕ
takes s [] = 0
takes s (b ∷ bs) = cost_from s (step b s) + takes (step b s) bs

-- bytes, whatever they are; those that are bytes
pub able_run : {B : Type 0} {lent : Lent} {at : ℕ} (s : State) (bs : List ℕ) → Able B lent at s → Able (B × Bytes bs) lent (at + takes s bs) (run s bs)
unfolding run takes
able_run s [] g = rw add-zero (able_less s (λ (t, o). t) g)
able_run {B} {lent} {at} s (b ∷ bs) g =
    rw (← add_assoc) (able_less (run (step b s) bs) (λ (t, o). ((t, o 0), λ i. o (suc i)))
    (able_run {B = B × b < 2 ^ 8} {at = at + cost_from s (step b s)} (step b s) bs (able_step b s g)))

pub good-run : {lent : Lent} {at : ℕ} (s : State) (bs : List ℕ) → Bytes bs → Good lent at s → Good lent (at + takes s bs) (run s bs)
good-run s bs o g = able_good (run s bs) (tt, o) (able_run s bs (good_able s g))

-- what 1 tells is a loan
lowest-most : (a b c d e f : Bool)
    → cond a loan_rows (cond b loan_store (cond c loan_strings (cond d loan_objects (cond e loan_traits (cond f loan_names 0))))) ≤ loan_names
lowest-most true b c d e f = lit≤ tt
lowest-most false true c d e f = lit≤ tt
lowest-most false false true d e f = lit≤ tt
lowest-most false false false true e f = lit≤ tt
lowest-most false false false false true f = lit≤ tt
lowest-most false false false false false true = lit≤ tt
lowest-most false false false false false false = lit≤ tt

fault-most : (m : Memory) → fault_of m ≤ loan_names
unfolding loan_fault
fault-most m =
    lowest-most (faulty rows_most row_width (length m.rows)) (faulty store_most 1 (length m.store)) (faulty strings_most span_width (length m.strings))
    (faulty objects_most 1 (length m.objects)) (faulty traits_most trait_width (length m.traits)) (faulty names_most span_width (length m.names))

-- so 1 can be said
fault-sayable : (m : Memory) (loan : ℕ) → fault_of m ≡ suc loan → T (no.sayable no.bad_loan (suc loan) 0)
unfolding no.sayable
fault-sayable m loan e =
    let h : suc loan ≤ loan_names = rw e at (fault-most m) in
    rw (le-leb (suc loan) loan_names h, le-leb loan_rows (suc loan) (omega arith)) tt

good-begin-at : (m : Memory) (fault : ℕ) → fault_of m ≡ fault → Good (lent_of m) 0 (begin_at fault m)
unfolding lent_of
good-begin-at m zero e =
    let fits : 0 ≤ open_limit = omega arith in
    let used : KeyIn no_key fresh = λ h. zero-le in
    waits {c = fresh} (record { lends = lends-zeroed _ m refl; clean = e; place = refl; within = omega arith; counts = omega arith }) fits used
good-begin-at m (suc loan) e = declines (fault-sayable m loan e) refl found

pub good-begin : (m : Memory) → Good (lent_of m) 0 (begin m)
unfolding begin
good-begin m = good-begin-at m (fault_of m) refl
