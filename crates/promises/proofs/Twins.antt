-- A byte's step beside the same step with no frames around: both wait; both are refused alike, by 12 only where a lookup of the value itself strays; or the value is
-- finished, and the frames go on from there.
use Rattle.std.proofs.Common.{Option, Some, None}
use mathlib.Core.Path.{◌≡◌, refl, sym, ap, ◌∙◌}
use mathlib.Core.Bool.{Bool, true, false, cond, not}
use mathlib.Core.Logic.{◌≢◌}
use mathlib.Core.List.{List, []}
use Prim.Native.Nat.{ℕ, zero, suc, ◌+◌, ◌-◌, ◌/◌, ◌^◌, ◌<◌}
use native.Mathlib.Omega.{arith}
use native.Mathlib.Decide.{dec_lt}
use Prim.Native.Nat.{zero-le}
use borrow.Author.Tests.{eqb-true, ne_eqb}
use lib.Dec.{T, ltb, eqb}
use lib.ListN.{length}
use Rattle.rows.specs.declared.Cursor.{Cursor}
use Rattle.rows.specs.declared.Span.{Span}
use Rattle.rows.specs.declared.Key.{Key}
use Rattle.rows.specs.declared.Trait.{Trait}
use Rattle.rows.specs.Memory.{Memory, span_width, trait_width, open_limit, col_count, col_count2, no_span, span_at}
use Rattle.wire.specs.declared.Part.{Part}
use Rattle.wire.specs.declared.Part.TheVariants.{More, Whole}
use Rattle.wire.specs.declared.Size.{Size}
use Rattle.wire.specs.declared.Size.TheVariants.{Old, New}
use Rattle.wire.specs.declared.Shape.{Shape}
use Rattle.wire.specs.declared.Shape.TheVariants.{Object, Known, External, Inline}
use Rattle.wire.specs.U29.{word_more, word_bits, part_of}
use Rattle.wire.specs.Big.{number_more, number_bits, digit_of}
use Rattle.wire.specs.Word.{size_of, shape_of}
use Rattle.wire.proofs.Digits.{given}
use Rattle.utf8.specs.States.{step_of}
use Rattle.format.specs.declared.Frame.{Frame}
use Rattle.format.specs.Decide.{Out, lift, class_of, trait_at, trait_of, names_to, marker}
use Rattle.format.specs.Decide.{Body, xml, date, array, bytes, raw, objects, dictionary, Kind, leaf, integer, double, string, object, sized, kind_of}
use Rattle.format.specs.Reading.{finished, refused, taken}
use Rattle.format.specs.Step.{Pairing, assoc, dynamics, count_of, Task, pairs_of, items_of, members_of, keys_of, values_of, strange, Use}
use Rattle.format.specs.Step.{for_string, for_key, for_class, for_external, for_name, for_vector, Text, xml_text, table_text, Word, integer_word, object_word}
use Rattle.format.specs.Step.{size_word, text_word, Number, double_bits, date_bits, Flag, raw_flag, objects_flag, dictionary_flag, Raw, byte_array, raw_vector, vector}
use Rattle.format.specs.Step.{Mode, at_marker, at_word, at_number, at_flag, at_text, at_raw, astray, State, wait, over, on}
use Rattle.format.specs.Step.{go, entry, pop, onward, keyed, naming, had, text_done, reserved_for, string_sized, roomy, texting}
use Rattle.format.specs.Step.{raw_row, filling, opened, body_sized, object_shaped, worded, number_done, flag_done, raw_grown, begun, shown, on_part, act}
use Rattle.format.specs.Together.{TraitIn, NameIn}
use Rattle.format.specs.Limits.{There, by_text, by_number, by_none}
use Rattle.format.specs.Strays.{Strays}
use Rattle.format.specs.Strays as out
use Rattle.format.proofs.Tests.{clash}
use Rattle.format.proofs.Used.{RowIn, SpanIn, UseIn, TextIn, WordIn, NumberIn, FlagIn, ModeIn, PartIn, Grows, span-up, text-up, word-up, number_up, flag_up}
use Rattle.promises.proofs.Verdicts.{Watch, Sits, Still, Sure, stops, goes, Any, name-up, sure_closed, sure_numbered, sure_integer, sure_date, sure_bodied}
use Rattle.promises.proofs.Verdicts.{sure_object, sure_vector, sure_flagged, sure_grown, sure_counted, sure_key-end, sure_referred, sure_marker, sure_old-text}
use Rattle.promises.proofs.Verdicts.{sure_reserved, sure_stored, sure_judged, sure_text-end, sure_entered, sure_old_trait, sure_trait_end, sure_named, sure_sealed}
use Rattle.promises.proofs.Verdicts.{sure_starred}
use Rattle.promises.proofs.Verdicts as verdicts
use Rattle.format.specs.Refusals as refusals

-- a state beside the one with no frames around
pub data Twin (w : Watch) (ts : List Frame) : State → State → Type 0 where
  waits : {x y : Mode} {us vs : List Frame} {c d : Cursor} {m k : Memory} → Twin w ts (wait x us c m) (wait y vs d k)
  finishes : {c : Cursor} {m : Memory} → Sits w c m → Twin w ts (pop ts c m) (over (finished c m))
  declines : {n told place : ℕ} {m : Memory} → T (not (eqb n refusals.lost)) → Twin w ts (over (refused n told place m)) (over (refused n told place m))
  strays : {m : Memory} → w.stray → Twin w ts (over (refused refusals.lost 0 0 m)) (over (refused refusals.lost 0 0 m))

-- a trait that fits what is used still does
pub trait_up : {c d : Cursor} → Grows c d → (t : Trait) → TraitIn t c → TraitIn t d
trait_up g t (l, f) = (span-up g (class_of t) l, omega arith)

-- ---- what must be known where a lookup strays

-- a trait whose last name comes, or the name of its first sealed member
pub record Makes (w : Watch) (t : Trait) : Type 0 where
  pub made : w.from.names < length w.base.names / span_width → (TraitIn t (names_to w.from (w.from.names + 1)) → ⊥) → w.stray
  pub made_name : w.from.names < length w.base.names / span_width → TraitIn t (names_to w.from (w.from.names + 1))
      → w.from.traits < length w.base.traits / trait_width → 0 < t.count → t.first < w.from.names
      → (SpanIn (span_at w.base.names t.first) w.from → ⊥) → w.stray

-- of a string: a trait's last name
abbrev UseStrays : Watch → Use → Type 0
UseStrays w (for_string row) = Unit
UseStrays w (for_key p) = Unit
UseStrays w (for_class row n y) = Unit
UseStrays w for_external = Unit
UseStrays w (for_name row t more) = more ≡ 0 → Makes w t
UseStrays w (for_vector row n) = Unit

-- of a text
abbrev TextStrays : Watch → Text → Type 0
TextStrays w (xml_text row) = Unit
TextStrays w (table_text u) = UseStrays w u

-- of a task that goes on: its row is used, and the next sealed member's name can stray
abbrev TaskFits : Watch → Task → Cursor → Memory → Type 0
TaskFits w (pairs_of p) c m = Unit
TaskFits w (items_of i row n done) c m = RowIn row w.from
TaskFits w (members_of row n done first y) c m = RowIn row w.from × (0 < n → (NameIn (first + done) c m → ⊥) → w.stray)
TaskFits w (keys_of row n done) c m = RowIn row w.from
TaskFits w (values_of row n done) c m = Unit
TaskFits w strange c m = ⊥

-- of an entry in work: its row isn't used, or not each entry before has a row
abbrev CountStrays : Watch → ℕ → ℕ → Type 0
CountStrays w row done = (RowIn row w.from × (done < w.from.rows) → ⊥) → w.stray

-- of a task with an entry in work
abbrev pub EntryStrays : Watch → Task → Type 0
EntryStrays w (pairs_of (assoc row n done)) = CountStrays w row done
EntryStrays w (pairs_of (dynamics row done)) = CountStrays w row done
EntryStrays w (items_of i row n done) = CountStrays w row done
EntryStrays w (members_of row n done first y) =
    CountStrays w row done × (RowIn row w.from × (done < w.from.rows) → 0 < n → (NameIn (first + suc done) w.from w.base → ⊥) → w.stray)
EntryStrays w (keys_of row n done) = CountStrays w row done
EntryStrays w (values_of row n done) = CountStrays w row done
EntryStrays w strange = w.stray

module _ {w : Watch} (ts : List Frame) where
  -- what follows a decision goes on side by side if it does from what the decision gives
  twin_on : {S A : Type 0} {to : S → Memory} {Q : A → Cursor → Memory → Type 0} {c : Cursor} {o : Out S A} (m : Memory) {f g : A → Cursor → Memory → State}
      → Sure w to Q c o → ((a : A) (d : Cursor) (k : Memory) → Sits w d k → Grows c d → Q a d k → Twin w ts (f a d k) (g a d k))
      → Twin w ts (on (lift to o) m f) (on (lift to o) m g)
  twin_on m (stops t) f = declines t
  twin_on m (verdicts.strays x) f = strays x
  twin_on m (goes s v q) f = f _ _ _ s v q

  -- a value is finished
  twin_pop : (c : Cursor) (m : Memory) → Sits w c m → Twin w ts (pop ts c m) (pop [] c m)
  unfolding pop
  twin_pop c m h = finishes h

  -- it is finished by a decision
  twin_ends : {S : Type 0} {to : S → Memory} {c : Cursor} {o : Out S (Unit {0})} (m : Memory) → Sure w to Any c o
      → Twin w ts (on (lift to o) m (λ x. pop ts)) (on (lift to o) m (λ x. pop []))
  twin_ends m z = twin_on m z (λ x d k s v q. twin_pop d k s)

  -- ---- tasks

  -- a task goes on
  twin_go : (t : Task) (c : Cursor) (m : Memory) → Sits w c m → TaskFits w t c m → Twin w ts (go (pop ts) ts t c m) (go (pop []) [] t c m)
  unfolding go
  twin_go (pairs_of p) c m h l = waits
  twin_go (items_of i row zero done) c m h l = twin_on m (sure_closed h row l) (λ x d k s v q. twin_pop d k s)
  twin_go (items_of i row (suc n) done) c m h l = waits
  twin_go (members_of row zero done first zero) c m h (l, f) = twin_on m (sure_closed h row l) (λ x d k s v q. twin_pop d k s)
  twin_go (members_of row zero done first (suc y)) c m h l = waits
  twin_go (members_of row (suc n) done first y) c m h (l, f) = twin_on m (sure_sealed h (first + done) (f (omega arith))) (λ x d k s v q. waits)
  twin_go (keys_of row zero done) c m h l = twin_on m (sure_closed h row l) (λ x d k s v q. twin_pop d k s)
  twin_go (keys_of row (suc n) done) c m h l = waits
  twin_go (values_of row n done) c m h l = waits
  twin_go strange c m h l = absurd l

  -- an entry is counted
  pub twin_entry : (t : Task) (m : Memory) → Sits w w.from m → EntryStrays w t
      → Twin w ts (entry t w.from m (λ t. go (pop ts) ts t)) (entry t w.from m (λ t. go (pop []) [] t))
  unfolding entry
  twin_entry (pairs_of (assoc row n done)) m h f = twin_on m (sure_counted h row col_count done f) (λ x d k s v q. twin_go _ d k s tt)
  twin_entry (pairs_of (dynamics row done)) m h f = twin_on m (sure_counted h row col_count2 done f) (λ x d k s v q. twin_go _ d k s tt)
  twin_entry (items_of i row n done) m h f = twin_on m (sure_counted h row (count_of i) done f) (λ x d k s v q. twin_go _ d k s q.0)
  twin_entry (members_of row n done first y) m h (f, g) =
      twin_on m (sure_counted h row col_count done f) (λ x d k s v q. twin_go _ d k s (q.0, λ o z. g q o (λ a. z (name-up s _ a))))
  twin_entry (keys_of row n done) m h f = twin_on m (sure_key-end h row done f) (λ x d k s v q. twin_go _ d k s tt)
  twin_entry (values_of row n done) m h f = twin_on m (sure_counted h row col_count done f) (λ x d k s v q. twin_go _ d k s q.0)
  twin_entry strange m h f = strays f

  -- ---- strings

  -- a key is read
  twin_keyed : (p : Pairing) (s : Span) (n : ℕ) (c : Cursor) (m : Memory) → Sits w c m → UseIn (for_key p) w.from
      → Twin w ts (keyed ts p s n c m) (keyed [] p s n c m)
  unfolding keyed
  twin_keyed (assoc row n done) s zero c m h l = twin_go _ c m h l
  twin_keyed (dynamics row done) s zero c m h l = twin_ends m (sure_closed h row l)
  twin_keyed (assoc row n done) s (suc k) c m h l = waits
  twin_keyed (dynamics row done) s (suc k) c m h l = waits

  -- an object's members, by a trait that fits what is used: the first one's name can stray
  twin_members : (row : ℕ) (t : Trait) (c : Cursor) (m : Memory) → Sits w c m → RowIn row w.from → (0 < t.count → (NameIn t.first c m → ⊥) → w.stray)
      → Twin w ts (onward ts (members_of row t.count 0 t.first t.dynamic) c m) (onward [] (members_of row t.count 0 t.first t.dynamic) c m)
  twin_members row t c m h l f = let e : t.first + 0 ≡ t.first = omega arith in twin_go _ c m h (l, rw e f)

  -- so many names are to come; with the last the trait can stray, and the name of its first member
  twin_naming : (row : ℕ) (t : Trait) (n : ℕ) (c : Cursor) (m : Memory) → Sits w c m → RowIn row w.from → (n ≡ 0 → (TraitIn t c → ⊥) → w.stray)
      → (n ≡ 0 → TraitIn t c → c.traits < length m.traits / trait_width → 0 < t.count → (d : Cursor) (k : Memory) → Sits w d k → t.first < d.names
      → (SpanIn (span_at k.names t.first) d → ⊥) → w.stray)
      → Twin w ts (naming ts row t n c m) (naming [] row t n c m)
  unfolding naming
  twin_naming row t zero c m h l f g =
      twin_on m (sure_trait_end h t (f refl)) (λ x d k s v (i, o).
      twin_members row t d k s l (λ p z. let a = i.1 in let b : t.first < d.names = omega arith in g refl i o p d k s b (λ y. z (b, y))))
  twin_naming row t (suc n) c m h l f g = waits

  -- a name of a trait is there
  twin_named : (row : ℕ) (t : Trait) (n : ℕ) (s : Span) (c : Cursor) (m : Memory) → Sits w c m → Still w c m → UseIn (for_name row t n) w.from
      → (n ≡ 0 → Makes w t) → SpanIn s c → Twin w ts (had ts (for_name row t n) s c m) (had [] (for_name row t n) s c m)
  unfolding had
  twin_named row t n s c m h (((a, b), st), (p, q)) ((l, class), first) z sp =
      twin_on m (sure_named h s sp) (λ x d k o v ((i, r), (j, u)).
      let room : w.from.names < length w.base.names / span_width = rw (a, p) at r in
      let su = o.since in
      twin_naming row t n d k o l
      (λ e f. (z e).made room (λ (y, y'). f (span-up su (class_of t) y, omega arith)))
      (λ e y rt o' d' k' h' l' f. elim (dec_lt t.first w.from.names) [
        | yes g ↦ (z e).made_name room (class, (let y' = y.1 in omega arith)) (rw (j ∙ b, u ∙ q) at rt) o' g (λ a'. f (h'.names t.first (λ r'. a') l'))
        | no g ↦ absurd (f (h'.names t.first (λ r'. absurd (g r')) l'))
      ]))

  -- a string is there
  twin_had : (u : Use) (s : Span) (c : Cursor) (m : Memory) → Sits w c m → Still w c m → UseIn u w.from → UseStrays w u → SpanIn s c
      → Twin w ts (had ts u s c m) (had [] u s c m)
  unfolding had
  twin_had (for_string row) s c m h b l z sp = twin_on m (sure_bodied h row s l) (λ x d k a v q. twin_ends k (sure_closed a row l))
  twin_had (for_key p) s c m h b l z sp = twin_keyed p s s.size c m h l
  twin_had (for_class row n y) s c m h b l z sp =
      twin_on m (sure_object h row (trait_of s n y c) l) (λ x d k a v q.
      twin_naming row (trait_of s n y c) n d k a l (λ e f. absurd (f (span-up v s sp, rw e zero-le))) (λ e y rt o d' k' h' l' f. absurd (omega arith)))
  twin_had for_external s c m h b l z sp = declines tt
  twin_had (for_name row t n) s c m h b l z sp = twin_named row t n s c m h b l z sp
  twin_had (for_vector row n) s c m h b l z sp =
      twin_on m (sure_starred h s sp) (λ star d k a v q. twin_on k (sure_vector a row star s l) (λ x e j o y r. twin_go (items_of vector row n 0) e j o l))

  -- the last byte of a text
  twin_text : (x : Text) (s : Span) (valid : Bool) (c : Cursor) (m : Memory) → Sits w c m → Still w c m → TextIn x w.from
      → (valid ≡ true → c.strings < length m.strings / span_width → TextStrays w x) → SpanIn s c → Twin w ts (text_done ts x s valid c m) (text_done [] x s valid c m)
  unfolding text_done
  twin_text (xml_text row) s valid c m h b l z sp = twin_on m (sure_judged h valid) (λ x d k a v q. twin_ends k (sure_closed a row l))
  twin_text (table_text u) s valid c m h b l z sp =
      twin_on m (sure_text-end h s valid sp) (λ s d k a v ((i, g), (e, r)). twin_had u s d k a (g b) l (z e r) i)

  -- a string whose room is reserved waits
  twin_use : (u : Use) (s : Span) (c : Cursor) (m : Memory) (f g : Unit {0} → Cursor → Memory → State) → Sits w c m → UseIn u w.from
      → ((x : Unit {0}) (d : Cursor) (k : Memory) → Twin w ts (f x d k) (g x d k)) → Twin w ts (on (reserved_for u s m c) m f) (on (reserved_for u s m c) m g)
  unfolding reserved_for
  twin_use (for_string row) s c m f g h l z = twin_on m (sure_bodied h row s l) (λ x d k a v q. z x d k)
  twin_use (for_key p) s c m f g h l z = z _ _ _
  twin_use (for_class row n y) s c m f g h l z = z _ _ _
  twin_use for_external s c m f g h l z = z _ _ _
  twin_use (for_name row t n) s c m f g h l z = z _ _ _
  twin_use (for_vector row n) s c m f g h l z = z _ _ _

  -- ---- bodies

  -- room for a body
  twin_room : (row n : ℕ) (f g : Span → Cursor → Memory → State) (c : Cursor) (m : Memory) → Sits w c m → RowIn row w.from
      → ((s : Span) (d : Cursor) (k : Memory) → Sits w d k → Twin w ts (f s d k) (g s d k)) → Twin w ts (roomy row n c m f) (roomy row n c m g)
  unfolding roomy
  twin_room row zero f g c m h l z = z no_span c m h
  twin_room row (suc n) f g c m h l z =
      twin_on m (sure_reserved h (suc n)) (λ s d k a v q. twin_on k (sure_bodied a row s l) (λ x e j o y r. z s e j o))

  -- a text is next
  twin_texting : (row : ℕ) (s : Span) (n : ℕ) (c : Cursor) (m : Memory) → Sits w c m → RowIn row w.from → Twin w ts (texting ts row s n c m) (texting [] row s n c m)
  unfolding texting
  twin_texting row s zero c m h l = twin_ends m (sure_closed h row l)
  twin_texting row s (suc n) c m h l = waits

  -- raw bytes are next
  twin_filling : (r : Raw) (s : Span) (n : ℕ) (c : Cursor) (m : Memory) → Sits w c m → RowIn (raw_row r) w.from → Twin w ts (filling ts r s n c m) (filling [] r s n c m)
  unfolding filling
  twin_filling r s zero c m h l = twin_ends m (sure_closed h (raw_row r) l)
  twin_filling r s (suc n) c m h l = waits

  -- a new value by its kind
  twin_opened : (row : ℕ) (body : Body) (n : ℕ) (c : Cursor) (m : Memory) → Sits w c m → RowIn row w.from
      → Twin w ts (opened ts row body n c m) (opened [] row body n c m)
  unfolding opened
  twin_opened row xml n c m h l = twin_room row n _ _ c m h l (λ s d k a. twin_texting row s n d k a l)
  twin_opened row date n c m h l = waits
  twin_opened row array n c m h l = waits
  twin_opened row bytes n c m h l = twin_room row n _ _ c m h l (λ s d k a. twin_filling (byte_array row) s n d k a l)
  twin_opened row (raw z) n c m h l = twin_room row _ _ _ c m h l (λ s d k a. waits)
  twin_opened row objects n c m h l = waits
  twin_opened row dictionary n c m h l = waits

  -- eight bytes are whole
  twin_number : (d : Number) (bits : ℕ) (c : Cursor) (m : Memory) → Sits w c m → NumberIn d w.from → Twin w ts (number_done ts d bits c m) (number_done [] d bits c m)
  unfolding number_done
  twin_number (double_bits row) bits c m h l = twin_ends m (sure_numbered h row bits l)
  twin_number (date_bits row) bits c m h l = twin_ends m (sure_date h row bits l)

  -- a flag is there
  twin_flag : (f : Flag) (b : ℕ) (c : Cursor) (m : Memory) → Sits w c m → FlagIn f w.from → Twin w ts (flag_done ts f b c m) (flag_done [] f b c m)
  unfolding flag_done
  twin_flag (raw_flag row z s) b c m h (l, sp) = twin_on m (sure_flagged h row _ l) (λ x d k a v q. twin_filling (raw_vector row z) s s.size d k a l)
  twin_flag (objects_flag row n) b c m h l = twin_on m (sure_flagged h row _ l) (λ x d k a v q. waits)
  twin_flag (dictionary_flag row n) b c m h l = twin_on m (sure_flagged h row _ l) (λ x d k a v q. twin_go (keys_of row n 0) d k a l)

  -- a marker is there
  twin_begun : (row : ℕ) (k : Kind) (c : Cursor) (m : Memory) → Sits w c m → Twin w ts (begun ts row k c m) (begun [] row k c m)
  unfolding begun
  twin_begun row leaf c m h = twin_pop c m h
  twin_begun row integer c m h = waits
  twin_begun row double c m h = waits
  twin_begun row string c m h = waits
  twin_begun row object c m h = waits
  twin_begun row (sized body) c m h = waits

  -- a raw byte is stored
  twin_raw : (r : Raw) (s : Span) (n : ℕ) (c : Cursor) (m : Memory) → Sits w c m → RowIn (raw_row r) w.from
      → Twin w ts (on (raw_grown r s n m c) m (λ x. filling ts r s n)) (on (raw_grown r s n m c) m (λ x. filling [] r s n))
  unfolding raw_grown
  twin_raw (byte_array row) s n c m h l = twin_filling (byte_array row) s n c m h l
  twin_raw (raw_vector row z) s n c m h l = twin_on m (sure_grown h row z s n l) (λ x d k a v q. twin_filling (raw_vector row z) s n d k a l)

  -- ---- parts of numbers

  -- a part that bytes can give goes on
  twin_part : (p : Option Part) (m : Memory) (more more' whole whole' : ℕ → State) → p ≢ None → ((n : ℕ) → Twin w ts (more n) (more' n))
      → ((n : ℕ) → p ≡ Some (Whole n) → Twin w ts (whole n) (whole' n)) → Twin w ts (on_part p m more whole) (on_part p m more' whole')
  twin_part (Some (More n)) m more more' whole whole' z f g = f n
  twin_part (Some (Whole n)) m more more' whole whole' z f g = g n refl
  twin_part None m more more' whole whole' z f g = absurd (z refl)

-- a word's part goes on
word-goes : (left n b : ℕ) → PartIn word_more word_bits left n → part_of left n b ≢ None
unfolding part_of
word-goes left n b (h, f) e = of (eqb left 0) (ltb b (2 ^ 7)) _ _ _ (sym (given word_bits word_more left n _ h f) ∙ e)
  where
    of : (s t : Bool) (i j k : ℕ) → cond s (Some (Whole i)) (cond t (Some (Whole j)) (Some (More k))) ≢ None
    of true t i j k q = clash cc
    of false true i j k q = clash cc
    of false false i j k q = clash cc

-- a part of eight bytes does
number-goes : (left n b : ℕ) → PartIn number_more number_bits left n → digit_of left n b ≢ None
unfolding digit_of
number-goes left n b (h, f) e = of (eqb left 0) _ _ (sym (given number_bits number_more left n _ h f) ∙ e)
  where
    of : (s : Bool) (i j : ℕ) → cond s (Some (Whole i)) (Some (More j)) ≢ None
    of true i j q = clash cc
    of false i j q = clash cc

-- ---- a byte

-- a marker makes the same of one more that may open as of many more
marker-left : (k : Key) (i j b : ℕ) (R : List ℕ) (c : Cursor) → 0 < i → 0 < j → marker k i b R c ≡ marker k j b R c
unfolding marker
marker-left k i j b R c p q = rw (ne_eqb i 0 (λ e. omega arith), ne_eqb j 0 (λ e. omega arith))

module _ (b : ℕ) (ts : List Frame) (c : Cursor) (m : Memory) where
  -- a byte's step begins where the byte is taken
  abbrev pub watch : Mode → Watch
  watch x = record { stray = Strays b x ts c m; from = taken c; base = m }

  -- what was used before the byte is used
  upto : Grows c (taken c)
  upto = omega arith

  -- where it begins, nothing was added
  still : (x : Mode) → Still (watch x) (taken c) m
  still x = (((refl, refl), refl), (refl, refl))

  -- what is known where a trait's last name is there
  makes : {x : Mode} {row : ℕ} {t : Trait} → There c m b x (for_name row t 0) → Makes (watch x) t
  makes n = record { made = λ r f. out.new_trait n r f; made_name = λ r i u o l f. out.new_trait_name n r i u o l f }

  -- by a word
  makes_word : (u : Use) (left part : ℕ) → There c m b (at_word (text_word u) left part) u → UseStrays (watch (at_word (text_word u) left part)) u
  makes_word (for_string row) left part f = tt
  makes_word (for_key p) left part f = tt
  makes_word (for_class row n y) left part f = tt
  makes_word for_external left part f = tt
  makes_word (for_name row t more) left part f = λ e. rw e (makes {row = row} (rw e at f))
  makes_word (for_vector row n) left part f = tt

  -- by a text that is whole and valid
  makes-text : (x : Text) (s : Span) (test : ℕ) → step_of test b ≡ 0 → c.strings < length m.strings / span_width → TextStrays (watch (at_text x s 0 test)) x
  makes-text (xml_text row) s test e r = tt
  makes-text (table_text (for_string row)) s test e r = tt
  makes-text (table_text (for_key p)) s test e r = tt
  makes-text (table_text (for_class row n y)) s test e r = tt
  makes-text (table_text for_external) s test e r = tt
  makes-text (table_text (for_name row t more)) s test e r = λ z. makes {row = row} (rw z (by_text e r))
  makes-text (table_text (for_vector row n)) s test e r = tt

  module _ (left part n : ℕ) (e : part_of left part b ≡ Some (Whole n)) where
    -- the size of a string
    twin_string : (u : Use) (z : Size) → size_of n ≡ z → Sits (watch (at_word (text_word u) left part)) (taken c) m → UseIn u (taken c)
        → Twin (watch (at_word (text_word u) left part)) ts (string_sized ts u z (taken c) m) (string_sized [] u z (taken c) m)
    unfolding string_sized
    twin_string u (Old i) q h l =
        twin_on ts m (sure_old-text h i (λ o f. out.string_entry e q o f)) (λ s d k a v ((sp, g), (o, r)).
        twin_had ts u s d k a (g (still (at_word (text_word u) left part))) l (makes_word u left part (by_number e q o)) sp)
    twin_string u (New zero) q h l =
        twin_had ts u no_span (taken c) m h (still (at_word (text_word u) left part)) l (makes_word u left part (by_none e q)) zero-le
    twin_string u (New (suc k)) q h l = twin_on ts m (sure_reserved h (suc k)) (λ s d k a v q. twin_use ts u s d k _ _ a l (λ x e j. waits))

    -- a size word is whole
    twin_body : (row : ℕ) (body : Body) (z : Size) → size_of n ≡ z → Sits (watch (at_word (size_word row body) left part)) (taken c) m → RowIn row c
        → Twin (watch (at_word (size_word row body) left part)) ts (body_sized ts row body z (taken c) m) (body_sized [] row body z (taken c) m)
    unfolding body_sized
    twin_body row body (Old i) q h l = twin_ends ts m (sure_referred h row i l (λ o f. out.object_entry e q o f))
    twin_body row body (New k) q h l = twin_on ts m (sure_entered h row l) (λ x d j a v q. twin_opened ts row body k d j a l)

    -- an object word is whole
    twin_object : (row : ℕ) (z : Shape) → shape_of n ≡ z → Sits (watch (at_word (object_word row) left part)) (taken c) m → RowIn row c
        → Twin (watch (at_word (object_word row) left part)) ts (object_shaped ts row z (taken c) m) (object_shaped [] row z (taken c) m)
    unfolding object_shaped
    twin_object row (Object i) q h l = twin_ends ts m (sure_referred h row i l (λ o f. out.object_entry e q o f))
    twin_object row (Known i) q h l =
        twin_on ts m (sure_entered h row l) (λ x d k a v (g, r).
        let (((names, traits), store), (loan, table)) = g (still (at_word (object_word row) left part)) in
        twin_on ts k (sure_old_trait a i (λ o f. out.trait_entry e q r (rw traits at o) (λ y. f (rw table (trait_up v (trait_at m.traits i) y)))))
        (λ t d' k' a' v' ((o, y), u).
        let same : t ≡ trait_at m.traits i = y ∙ ap (λ (U : List ℕ). trait_at U i) table in
        twin_on ts k' (sure_object a' row t l) (λ x d'' k'' a'' v'' q''.
        twin_members ts row t d'' k'' a'' l (λ p f.
        out.entry_name e q r (rw traits at o) (rw (same, store, names) at u) (rw same at p) (λ z. f (name-up a'' t.first (rw same z)))))))
    twin_object row External q h l = twin_on ts m (sure_entered h row l) (λ x d k a v q. waits)
    twin_object row (Inline k y) q h l = twin_on ts m (sure_entered h row l) (λ x d j a v q. waits)

    -- a word is whole
    twin_word : (x : Word) → Sits (watch (at_word x left part)) (taken c) m → WordIn x (taken c)
        → Twin (watch (at_word x left part)) ts (worded ts x n (taken c) m) (worded [] x n (taken c) m)
    unfolding worded
    twin_word (integer_word row) h l = twin_ends ts m (sure_integer h row n l)
    twin_word (object_word row) h l = twin_object row (shape_of n) refl h l
    twin_word (size_word row body) h l = twin_body row body (size_of n) refl h l
    twin_word (text_word u) h l = twin_string u (size_of n) refl h l

  -- what a byte makes of a mode, with fewer frames around than can be
  pub twin_act : (x : Mode) → length ts < open_limit → Sits (watch x) (taken c) m → ModeIn x c → Twin (watch x) ts (act x b ts (taken c) m) (act x b [] (taken c) m)
  unfolding act
  twin_act (at_marker k) o h l =
      rw (marker-left (shown k) (open_limit - length ts) (open_limit - 0) b m.rows (taken c) (omega arith) (omega arith))
      (twin_on ts m (sure_marker h (shown k) (open_limit - 0) b) (λ row d j a v q. twin_begun ts row (kind_of b) d j a))
  twin_act (at_word x left n) o h (l, p) =
      twin_part ts (part_of left n b) m _ _ _ _ (word-goes left n b p) (λ k. waits) (λ k e. twin_word left n k e x h (word-up upto x l))
  twin_act (at_number x left n) o h (l, p) =
      twin_part ts (digit_of left n b) m _ _ _ _ (number-goes left n b p) (λ k. waits) (λ k e. twin_number ts x k (taken c) m h (number_up upto x l))
  twin_act (at_flag f) o h l = twin_flag ts f b (taken c) m h (flag_up upto f l)
  twin_act (at_text x s zero t) o h ((l, (sp, left)), p) =
      twin_on ts m (sure_stored h s zero b sp left) (λ y d k a v (g, (i, j)).
      twin_text ts x s _ d k a (g (still (at_text x s zero t))) (text-up upto x l) (λ e r. makes-text x s t (eqb-true _ _ e) (rw (i, j) at r)) (span-up v s sp))
  twin_act (at_text x s (suc n) t) o h ((l, (sp, left)), p) = twin_on ts m (sure_stored h s (suc n) b sp left) (λ y d k a v q. waits)
  twin_act (at_raw r s n) o h (l, (sp, left)) = twin_on ts m (sure_stored h s n b sp left) (λ y d k a v q. twin_raw ts r s n d k a l)
  twin_act astray o h l = absurd l
