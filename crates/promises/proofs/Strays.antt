-- Of a state whose head holds together the next byte is refused by 12 exactly where what it looks up strays.
use Rattle.std.proofs.Common.{Some}
use mathlib.Core.Path.{◌≡◌, refl, ◌∙◌}
use mathlib.Core.Bool.{Bool, true, false, cond}
use mathlib.Core.List.{List, [], ◌∷◌}
use Prim.Native.Nat.{ℕ, zero, suc, ◌+◌, ◌*◌, ◌-◌, ◌/◌, ◌^◌, ◌≤◌, ◌<◌}
use native.Mathlib.Omega.{arith}
use native.Mathlib.Decide.{dec_lt}
use borrow.Author.Tests.{leb-true, eqb-true, lt-ltb, le-ltb, le-leb, lt-leb, eq-eqb, leb-false}
use lib.Dec.{ltb, eqb}
use lib.ListN.{length, get_or, set, length-set}
use lib.Seq.{sets, length-sets}
use Rattle.rows.specs.declared.Cursor.{Cursor}
use Rattle.rows.specs.declared.Span.{Span}
use Rattle.rows.specs.declared.Key.{Key}
use Rattle.rows.specs.declared.Trait.{Trait}
use Rattle.rows.specs.Memory.{Memory, zeroed, row_width, span_width, trait_width, message_limit, open_limit, col_count, col_count2}
use Rattle.rows.specs.Memory.{col_end, col_class_mark, col_body_begin, col_body_size, col, put, row_used, span_at, span_used}
use Rattle.wire.specs.declared.Part.TheVariants.{Whole}
use Rattle.wire.specs.declared.Shape.TheVariants.{Known}
use Rattle.wire.specs.declared.Size.TheVariants.{Old}
use Rattle.wire.specs.U29.{part_of}
use Rattle.wire.specs.Word.{size_of, shape_of}
use Rattle.utf8.specs.States.{step_of}
use Rattle.format.specs.declared.Answer.TheVariants.{Refused}
use Rattle.rows.specs.declared.lent.Lent.{Lent}
use Rattle.format.specs.declared.Frame.{Frame}
use Rattle.format.specs.Codes.{task_pairs, task_dynamics, task_dense, task_vector, task_members, task_keys, task_values}
use Rattle.format.specs.Decide.{give, lost, trait_at, names_to, strings_to, objects_to, traits_to, marker, classed, object_class, counted, key_end, old_text}
use Rattle.format.specs.Decide.{stored, text_end, entered, referred, trait_holds, old_trait, named, trait_end, sealed_key}
use Rattle.format.specs.Reading.{finished, refused, taken}
use Rattle.format.specs.Step.{assoc, dynamics, Items, dense, vector, count_of, Task, pairs_of, items_of, members_of, keys_of, values_of, strange, task_of}
use Rattle.format.specs.Step.{Use, for_name, Word, integer_word, object_word, size_word, text_word, Mode, at_marker, at_word, at_number, at_flag, at_text, at_raw, astray}
use Rattle.format.specs.Step.{State, wait, over, go, entry, pop, naming, had, text_done, string_sized, body_sized, object_shaped, worded, act}
use Rattle.format.specs.Numbers.{Numbers, state_of, lent_of}
use Rattle.format.specs.Answers.{fed, feed_call}
use Rattle.format.specs.Claims.{lost_numbers}
use Rattle.format.specs.Together.{TaskCode, pairs_task, dynamics_task, dense_task, vector_task, members_task, keys_task, values_task, Counts, Fits, Together}
use Rattle.format.specs.Together.{RowIn, SpanIn, ModeIn, FrameIn, TraitIn, ObjectIn, NameIn}
use Rattle.format.specs.Limits.{There, by_text, by_number, by_none}
use Rattle.format.specs.Strays.{FrameStrays, Refers, Strays, next_name, outer_frame, string_entry, object_entry, trait_entry, entry_name, new_trait, new_trait_name, frames}
use Rattle.format.specs.Strays as out
use Rattle.format.proofs.Tests.{on_bool, clash}
use Rattle.format.proofs.Lists.{Kept, kept_sets}
use Rattle.format.proofs.Used.{grows_same}
use Rattle.format.proofs.Pieces.{answer_in}
use Rattle.promises.proofs.Answered.{step-lost}
use Rattle.promises.proofs.Together.{together-sound, together-unfit}
use Rattle.promises.proofs.Verdicts.{Room, Watch, Sits, Still, to_objects, room_row, trait-holds, trait_held}
use Rattle.promises.proofs.Twins.{Twin, waits, finishes, declines, strays, EntryStrays, twin_entry, watch, twin_act}
use Rattle.format.specs.Refusals as refusals

-- ---- the two states side by side

module _ {w : Watch} {ts : List Frame} where
  -- a 12 is that of a lookup of the value, or the value is finished and it is the frames'
  twin_lost : {s t : State} {X : Type 0} (l : Memory) → Twin w ts s t → s ≡ over (refused refusals.lost 0 0 l) → (w.stray → X)
      → ((d : Cursor) (k : Memory) → t ≡ over (finished d k) → Sits w d k → pop ts d k ≡ over (refused refusals.lost 0 0 l) → X) → X
  twin_lost l waits e f g = clash cc
  twin_lost l (finishes h) e f g = g _ _ refl h e
  twin_lost l (declines {n = n} t) e f g = let q : n ≡ refusals.lost = cc in absurd (rw q at t)
  twin_lost l (strays x) e f g = f x

  -- where the value is finished, the frames go on from there
  pub twin_finished : {s t : State} (d : Cursor) (k : Memory) → Twin w ts s t → t ≡ over (finished d k) → (s ≡ pop ts d k) × Sits w d k
  twin_finished d k waits e = clash cc
  twin_finished d k (finishes {c = c} {m = m} h) e =
      let p : c ≡ d = cc in
      let q : m ≡ k = cc in
      (rw (p, q), rw (p, q) at h)
  twin_finished d k (declines t) e = clash cc
  twin_finished d k (strays x) e = clash cc

-- where a step begins it sits so, if no more is used than is lent
pub sits_first : {P : Type 0} (c : Cursor) (m : Memory) → Room c m → Sits (record { stray = P; from = c; base = m }) c m
sits_first c m h = record { room = h; since = grows_same c; names = λ i a l. a l }

-- ---- frames

-- a frame's task, by its code
data Coded (f : Frame) : Task → Type 0 where
  pairing : TaskCode f.task → Coded f (pairs_of (assoc f.row f.left f.done))
  dynamic : TaskCode f.task → Coded f (pairs_of (dynamics f.row f.done))
  item : (i : Items) → TaskCode f.task → Coded f (items_of i f.row f.left f.done)
  member : TaskCode f.task → f.task ≡ task_members → Coded f (members_of f.row f.left f.done f.first f.dynamic)
  key : TaskCode f.task → Coded f (keys_of f.row f.left f.done)
  value : TaskCode f.task → Coded f (values_of f.row f.left f.done)
  other : (TaskCode f.task → ⊥) → Coded f strange

-- a number that none of the seven is equal to is no code
no_code : (n : ℕ) → eqb n task_pairs ≡ false → eqb n task_dynamics ≡ false → eqb n task_dense ≡ false → eqb n task_vector ≡ false → eqb n task_members ≡ false
    → eqb n task_keys ≡ false → eqb n task_values ≡ false → TaskCode n → ⊥
no_code n p d e v m k w pairs_task = clash cc
no_code n p d e v m k w dynamics_task = clash cc
no_code n p d e v m k w dense_task = clash cc
no_code n p d e v m k w vector_task = clash cc
no_code n p d e v m k w members_task = clash cc
no_code n p d e v m k w keys_task = clash cc
no_code n p d e v m k w values_task = clash cc

-- every frame's task is one of these
coded : (f : Frame) → Coded f (task_of f)
unfolding task_of
coded f =
    on_bool (eqb f.task task_pairs) (λ a. rw a (pairing (rw (eqb-true f.task task_pairs a) pairs_task))) (λ a.
    on_bool (eqb f.task task_dynamics) (λ b. rw (a, b) (dynamic (rw (eqb-true f.task task_dynamics b) dynamics_task))) (λ b.
    on_bool (eqb f.task task_dense) (λ c. rw (a, b, c) (item dense (rw (eqb-true f.task task_dense c) dense_task))) (λ c.
    on_bool (eqb f.task task_vector) (λ d. rw (a, b, c, d) (item vector (rw (eqb-true f.task task_vector d) vector_task))) (λ d.
    on_bool (eqb f.task task_members) (λ e. rw (a, b, c, d, e) (member (rw (eqb-true f.task task_members e) members_task) (eqb-true f.task task_members e))) (λ e.
    on_bool (eqb f.task task_keys) (λ g. rw (a, b, c, d, e, g) (key (rw (eqb-true f.task task_keys g) keys_task))) (λ g.
    on_bool (eqb f.task task_values) (λ h. rw (a, b, c, d, e, g, h) (value (rw (eqb-true f.task task_values h) values_task))) (λ h.
    rw (a, b, c, d, e, g, h) (other (no_code f.task a b c d e g h)))))))))

module _ (f : Frame) (ts : List Frame) (c : Cursor) (m : Memory) where
  -- a value is finished in this frame
  abbrev frame-watch : Watch
  frame-watch = record { stray = FrameStrays (f ∷ ts) c m; from = c; base = m }

  -- a frame whose row or entries stray
  frame-out : (RowIn f.row c × (f.done < c.rows) → ⊥) → FrameStrays (f ∷ ts) c m
  frame-out z = out.this_frame (λ h. z (h.here, h.counted))

  -- what is known where it strays, by its task
  entry-strays : (t : Task) → Coded f t → EntryStrays frame-watch t
  entry-strays t (pairing k) = frame-out
  entry-strays t (dynamic k) = frame-out
  entry-strays t (item i k) = frame-out
  entry-strays t (member k e) = (frame-out, λ (l, o) n z. next_name (record { code = k; here = l; counted = o }) e n z)
  entry-strays t (key k) = frame-out
  entry-strays t (value k) = frame-out
  entry-strays t (other x) = out.this_frame (λ h. x h.code)

  -- the frame goes on beside the same with none around it
  pub twin_frame : Room c m → Twin frame-watch ts (pop (f ∷ ts) c m) (pop (f ∷ []) c m)
  unfolding pop
  twin_frame h = twin_entry ts (task_of f) m (sits_first c m h) (entry-strays (task_of f) (coded f))

-- where a value is finished, a 12 is of a frame that strays
pop-strays : (ts : List Frame) (c : Cursor) (m l : Memory) → Room c m → pop ts c m ≡ over (refused refusals.lost 0 0 l) → FrameStrays ts c m
unfolding pop
pop-strays [] c m l h e = clash cc
pop-strays (f ∷ ts) c m l h e = twin_lost l (twin_frame f ts c m h) e (λ x. x) (λ d k q s r. outer_frame q (pop-strays ts d k l s.room r))

-- ---- what a decision gives, and where it is 12

-- a span that isn't used fails its test
span_fails : (s : Span) (c : Cursor) → (SpanIn s c → ⊥) → span_used c s ≡ false
span_fails s c f = on_bool (span_used c s) (λ e. absurd (f (leb-true (s.begin + s.size) c.store e))) (λ e. e)

-- a trait that doesn't fit what is used fails its test
trait_fails : (t : Trait) (c : Cursor) → (TraitIn t c → ⊥) → trait_holds c t ≡ false
trait_fails t c f = on_bool (trait_holds c t) (λ e. absurd (f (trait_held t c e))) (λ e. e)

module _ (c : Cursor) where
  -- a string by number whose span is used is given
  text-gives : (i : ℕ) (L : List ℕ) → c.strings ≤ length L / span_width → i < c.strings → SpanIn (span_at L i) c → old_text i L c ≡ give (span_at L i) tt c
  unfolding old_text
  text-gives i L h l s = rw (le-ltb _ _ h, lt-leb _ _ l, le-leb _ _ s)

  -- one whose span isn't is 12
  text-lost : (i : ℕ) (L : List ℕ) → c.strings ≤ length L / span_width → i < c.strings → (SpanIn (span_at L i) c → ⊥) → old_text i L c ≡ lost
  unfolding old_text
  text-lost i L h l s = rw (le-ltb _ _ h, lt-leb _ _ l, span_fails (span_at L i) c s)

  -- a byte of a used span is stored
  stored-gives : (s : Span) (n b : ℕ) (B : List ℕ) → c.store ≤ length B → SpanIn s c → n < s.size
      → stored s n b B c ≡ give tt (set B (s.begin + (s.size - (n + 1))) b) c
  unfolding stored
  stored-gives s n b B h l f = rw (le-ltb _ _ h, lt-leb _ _ f, le-leb _ _ l)

  -- a valid text with room among the strings enters them
  text-end-gives : (s : Span) (valid : Bool) (L : List ℕ) → c.strings < length L / span_width → valid ≡ true
      → text_end s valid L c ≡ give s (sets L (c.strings * span_width) (s.begin ∷ s.size ∷ [])) (strings_to c (c.strings + 1))
  unfolding text_end
  text-end-gives s valid L h e = rw (le-ltb (length L / span_width) c.strings (omega arith), e, lt-leb _ _ h)

  -- a used row with room among the objects enters them
  entered-gives : (row : ℕ) (O : List ℕ) → row < c.rows → c.objects < length O → entered row O c ≡ give tt (set O c.objects row) (objects_to c (c.objects + 1))
  unfolding entered
  entered-gives row O l h = rw (lt-leb _ _ l, le-ltb (length O) c.objects (omega arith), lt-leb _ _ h)

  -- an object by number whose row isn't used, or that row's end, is 12
  referred-lost : (row i : ℕ) (m : Memory) → Room c m → i < c.objects → (ObjectIn i c m → ⊥) → referred row i m.objects m.rows c ≡ lost
  unfolding referred
  referred-lost row i m h l f = elim (dec_lt (get_or m.objects i 0) c.rows) [
    | yes o ↦ rw (le-ltb _ _ h.objects, lt-leb _ _ l, room_row h (get_or m.objects i 0) o, lt-ltb c.rows (col m.rows (get_or m.objects i 0) col_end) (past o))
    | no o ↦ rw (le-ltb _ _ h.objects, lt-leb _ _ l, le-ltb (get_or m.objects i 0) c.rows (omega arith))
  ]
    where
      past : RowIn (get_or m.objects i 0) c → c.rows < col m.rows (get_or m.objects i 0) col_end
      past o = elim (dec_lt c.rows (col m.rows (get_or m.objects i 0) col_end)) [ yes p ↦ p | no p ↦ absurd (f (o, omega arith)) ]

  -- a trait by number that fits what is used is given
  old_trait_gives : (i : ℕ) (U : List ℕ) → c.traits ≤ length U / trait_width → i < c.traits → TraitIn (trait_at U i) c → old_trait i U c ≡ give (trait_at U i) tt c
  unfolding old_trait
  old_trait_gives i U h l t = rw (le-ltb _ _ h, lt-leb _ _ l, trait-holds (trait_at U i) c t)

  -- one that doesn't is 12
  old_trait_lost : (i : ℕ) (U : List ℕ) → c.traits ≤ length U / trait_width → i < c.traits → (TraitIn (trait_at U i) c → ⊥) → old_trait i U c ≡ lost
  unfolding old_trait
  old_trait_lost i U h l t = rw (le-ltb _ _ h, lt-leb _ _ l, trait_fails (trait_at U i) c t)

  -- a name with room is added
  named-gives : (s : Span) (N : List ℕ) → c.names < length N / span_width
      → named s N c ≡ give s (sets N (c.names * span_width) (s.begin ∷ s.size ∷ [])) (names_to c (c.names + 1))
  unfolding named
  named-gives s N h = rw (le-ltb (length N / span_width) c.names (omega arith), lt-leb _ _ h)

  -- a whole trait that fits what is used, with room, is added
  trait_end-gives : (t : Trait) (U : List ℕ) → c.traits < length U / trait_width → TraitIn t c
      → trait_end t U c ≡ give tt (sets U (c.traits * trait_width) (t.begin ∷ t.size ∷ t.dynamic ∷ t.first ∷ t.count ∷ [])) (traits_to c (c.traits + 1))
  unfolding trait_end
  trait_end-gives t U h f = rw (le-ltb (length U / trait_width) c.traits (omega arith), trait-holds t c f, lt-leb _ _ h)

  -- one that doesn't fit is 12
  trait_end-lost : (t : Trait) (U : List ℕ) → c.traits ≤ length U / trait_width → (TraitIn t c → ⊥) → trait_end t U c ≡ lost
  unfolding trait_end
  trait_end-lost t U h f = rw (le-ltb _ _ h, trait_fails t c f)

  -- a used row gets its class
  class-gives : (row : ℕ) (t : Trait) (m : Memory) → Room c m → RowIn row c
      → (R : List ℕ) × (object_class row t m.rows c ≡ give tt R c)
  unfolding object_class classed
  class-gives row t m h l =
      (put (put (put m.rows row col_class_mark (cond (eqb t.size 0) 0 1)) row col_body_begin t.begin) row col_body_size t.size, rw (room_row h row l))

  -- a sealed member's name that isn't used, or whose span isn't, is 12
  sealed-lost : (i : ℕ) (N : List ℕ) → c.names ≤ length N / span_width → (i < c.names → SpanIn (span_at N i) c → ⊥) → sealed_key i N c ≡ lost
  unfolding sealed_key
  sealed-lost i N h f = elim (dec_lt i c.names) [
    | yes l ↦ rw (le-ltb _ _ h, lt-leb _ _ l, span_fails (span_at N i) c (f l))
    | no l ↦ rw (le-ltb _ _ h, le-leb c.names i (omega arith))
  ]

  -- a row that isn't used fails its test
  row_fails : (row : ℕ) (R : List ℕ) → (RowIn row c → ⊥) → row_used R c row ≡ false
  row_fails row R f = rw (le-ltb row c.rows (elim (dec_lt row c.rows) [ yes l ↦ absurd (f l) | no l ↦ omega arith ]))

  -- an entry of a used row is counted, if each one before it has a row
  counted-gives : (row col done : ℕ) (m : Memory) → Room c m → RowIn row c → done < c.rows
      → counted row col done m.rows c ≡ give tt (put m.rows row col (done + 1)) c
  unfolding counted
  counted-gives row col done m h l o = rw (lt-leb _ _ o, room_row h row l)

  -- any other is 12
  counted-lost : (row col done : ℕ) (R : List ℕ) → (RowIn row c × (done < c.rows) → ⊥) → counted row col done R c ≡ lost
  unfolding counted
  counted-lost row col done R f = elim (dec_lt done c.rows) [
    | yes l ↦ rw (lt-leb _ _ l, row_fails row R (λ r. f (r, l)))
    | no l ↦ rw (le-leb c.rows done (omega arith))
  ]

  -- and so is a dictionary's key
  key-end-lost : (row done : ℕ) (R : List ℕ) → (RowIn row c × (done < c.rows) → ⊥) → key_end row done R c ≡ lost
  unfolding key_end
  key-end-lost row done R f = elim (dec_lt done c.rows) [
    | yes l ↦ rw (lt-leb _ _ l, row_fails row R (λ r. f (r, l)))
    | no l ↦ rw (le-leb c.rows done (omega arith))
  ]

-- ---- what strays is 12

-- a state that is 12
abbrev Lostly : State → Type 0
Lostly s = (l : Memory) × (s ≡ over (refused refusals.lost 0 0 l))

module _ (ts : List Frame) (k : Cursor → Memory → State) where
  -- a sealed member is next, and its name strays
  members-lost : (row n done first y : ℕ) (c : Cursor) (m : Memory) → c.names ≤ length m.names / span_width → 0 < n
      → (first + done < c.names → SpanIn (span_at m.names (first + done)) c → ⊥) → Lostly (go k ts (members_of row n done first y) c m)
  unfolding go
  members-lost row zero done first y c m h o f = absurd (omega arith)
  members-lost row (suc n) done first y c m h o f = (zeroed m, rw (sealed-lost c (first + done) m.names h f))

-- a frame with a code strays by its row or its entries
no-entry : (f : Frame) (c : Cursor) → TaskCode f.task → (FrameIn f c → ⊥) → RowIn f.row c × (f.done < c.rows) → ⊥
no-entry f c k z (l, o) = z (record { code = k; here = l; counted = o })

-- the frame around a value strays
entry-lost : (f : Frame) (t : Task) (c : Cursor) (m : Memory) (g : Task → Cursor → Memory → State) → Coded f t → (FrameIn f c → ⊥) → Lostly (entry t c m g)
unfolding entry
entry-lost f t c m g (pairing k) z = (zeroed m, rw (counted-lost c f.row col_count f.done m.rows (no-entry f c k z)))
entry-lost f t c m g (dynamic k) z = (zeroed m, rw (counted-lost c f.row col_count2 f.done m.rows (no-entry f c k z)))
entry-lost f t c m g (item i k) z = (zeroed m, rw (counted-lost c f.row (count_of i) f.done m.rows (no-entry f c k z)))
entry-lost f t c m g (member k e) z = (zeroed m, rw (counted-lost c f.row col_count f.done m.rows (no-entry f c k z)))
entry-lost f t c m g (key k) z = (zeroed m, rw (key-end-lost c f.row f.done m.rows (no-entry f c k z)))
entry-lost f t c m g (value k) z = (zeroed m, rw (counted-lost c f.row col_count f.done m.rows (no-entry f c k z)))
entry-lost f t c m g (other x) z = (zeroed m, refl)

-- the next member's name strays
entry-name-lost : (f : Frame) (ts : List Frame) (c : Cursor) (m : Memory) → Room c m → FrameIn f c → f.task ≡ task_members → 0 < f.left
    → (NameIn (f.first + suc f.done) c m → ⊥) → Lostly (entry (task_of f) c m (λ t. go (pop ts) ts t))
unfolding task_of entry
entry-name-lost f ts c m h i e o z =
    rw (e, counted-gives c f.row col_count f.done m h i.here i.counted)
    (members-lost ts (pop ts) f.row f.left (suc f.done) f.first f.dynamic c _ h.names o (λ l s. z (l, s)))

-- where a value is finished, what strays is 12
pop-lost : {ts : List Frame} {c : Cursor} {m : Memory} → FrameStrays ts c m → Room c m → Lostly (pop ts c m)
unfolding pop
pop-lost (out.this_frame {f = f} {ts = ts} {c = c} {m = m} z) h = entry-lost f (task_of f) c m (λ t. go (pop ts) ts t) (coded f) z
pop-lost (next_name {f = f} {ts = ts} {c = c} {m = m} i e o z) h = entry-name-lost f ts c m h i e o z
pop-lost (outer_frame {f = f} {ts = ts} {c = c} {d = d} {m = m} {k = k} q s) h =
    let (e, g) = twin_finished d k (twin_frame f ts c m h) q in
    let (l, r) = pop-lost s g.room in
    (l, e ∙ r)

module _ (b : ℕ) (ts : List Frame) (c : Cursor) (m : Memory) (h : Room (taken c) m) where
  -- a string by number that strays is 12
  string-lost : (u : Use) (left part n i : ℕ) → part_of left part b ≡ Some (Whole n) → size_of n ≡ Old i → i < c.strings → (SpanIn (span_at m.strings i) c → ⊥)
      → Lostly (act (at_word (text_word u) left part) b ts (taken c) m)
  unfolding act worded string_sized
  string-lost u left part n i e q o f = (zeroed m, rw (e, q, text-lost (taken c) i m.strings h.strings o f))

  -- an object by number that strays is 12
  object-lost : (x : Word) (left part n i : ℕ) → part_of left part b ≡ Some (Whole n) → Refers x n i → i < c.objects → (ObjectIn i c m → ⊥)
      → Lostly (act (at_word x left part) b ts (taken c) m)
  unfolding act worded object_shaped body_sized
  object-lost (integer_word row) left part n i e r o f = absurd r
  object-lost (object_word row) left part n i e r o f = (zeroed m, rw (e, r, referred-lost (taken c) row i m h o f))
  object-lost (size_word row body) left part n i e r o f = (zeroed m, rw (e, r, referred-lost (taken c) row i m h o f))
  object-lost (text_word u) left part n i e r o f = absurd r

  module _ (row left part n i : ℕ) (e : part_of left part b ≡ Some (Whole n)) (q : shape_of n ≡ Known i) (l : RowIn row c) (r : c.objects < length m.objects) (o : i < c.traits) where
    -- a trait by number that strays is 12
    trait_lost : (TraitIn (trait_at m.traits i) c → ⊥) → Lostly (act (at_word (object_word row) left part) b ts (taken c) m)
    unfolding act worded object_shaped
    trait_lost f =
        rw (e, q, entered-gives (taken c) row m.objects l r, old_trait_lost (objects_to (taken c) (c.objects + 1)) i m.traits h.traits o f) (_, refl)

    -- and so is the name of its first member
    trait_name-lost : TraitIn (trait_at m.traits i) c → 0 < (trait_at m.traits i).count → (NameIn (trait_at m.traits i).first c m → ⊥)
        → Lostly (act (at_word (object_word row) left part) b ts (taken c) m)
    unfolding act worded object_shaped
    trait_name-lost t p f =
        let z : (trait_at m.traits i).first + 0 ≡ (trait_at m.traits i).first = omega arith in
        let d = objects_to (taken c) (c.objects + 1) in
        let g : Room d (to_objects m (set m.objects c.objects row)) = (let y = length-set m.objects c.objects row in omega arith) in
        let (R, y) = class-gives d row (trait_at m.traits i) (to_objects m (set m.objects c.objects row)) g l in
        rw (e, q, entered-gives (taken c) row m.objects l r, old_trait_gives d i m.traits h.traits o t, y)
        (members-lost ts (pop ts) row (trait_at m.traits i).count 0 (trait_at m.traits i).first (trait_at m.traits i).dynamic d _ h.names p
        (rw z (λ a s. f (a, s))))

  -- a trait's last name is there: it is had where no name and no trait was added
  comes_named : (row : ℕ) (t : Trait) {x : Mode} → There c m b x (for_name row t 0) → ModeIn x c
      → ((s : Span) (d : Cursor) (k : Memory) → Room d k → Still (watch b ts c m x) d k → Lostly (had ts (for_name row t 0) s d k)) → Lostly (act x b ts (taken c) m)
  unfolding act text_done worded string_sized
  comes_named row t (by_text {s = s} {test = test} e r) ((l, (sp, left)), p) f =
      let u = length-set m.store (s.begin + (s.size - 1)) b in
      let y = length-sets m.strings (c.strings * span_width) (s.begin ∷ s.size ∷ []) in
      rw (stored-gives (taken c) s 0 b m.store h.store sp left, text-end-gives (taken c) s (eqb (step_of test b) 0) m.strings r (eq-eqb _ _ e))
      (f s _ _ (omega arith) (((refl, refl), refl), (refl, refl)))
  comes_named row t (by_number {left = left} {part = part} {w = n} {i = i} e q o) l f =
      on_bool (span_used c (span_at m.strings i))
      (λ u. rw (e, q, text-gives (taken c) i m.strings h.strings o (leb-true _ _ u)) (f _ _ _ h (((refl, refl), refl), (refl, refl))))
      (λ u. string-lost (for_name row t 0) left part n i e q o (λ s. omega (arith, s, leb-false ((span_at m.strings i).begin + (span_at m.strings i).size) c.store u)))
  comes_named row t (by_none e q) l f = rw (e, q) (f _ _ _ h (((refl, refl), refl), (refl, refl)))

-- a trait that strays with its last name is 12
made-lost : (ts : List Frame) (row : ℕ) (t : Trait) (s : Span) (c : Cursor) (m : Memory) → Room c m → c.names < length m.names / span_width
    → (TraitIn t (names_to c (c.names + 1)) → ⊥) → Lostly (had ts (for_name row t 0) s c m)
unfolding had naming
made-lost ts row t s c m h r f = rw (named-gives c s m.names r, trait_end-lost (names_to c (c.names + 1)) t m.traits h.traits f) (_, refl)

-- and so is the name of its first member
made-name-lost : (ts : List Frame) (row : ℕ) (t : Trait) (s : Span) (c : Cursor) (m : Memory) → Room c m → c.names < length m.names / span_width
    → TraitIn t (names_to c (c.names + 1)) → c.traits < length m.traits / trait_width → 0 < t.count → t.first < c.names
    → (SpanIn (span_at m.names t.first) c → ⊥) → Lostly (had ts (for_name row t 0) s c m)
unfolding had naming
made-name-lost ts row t s c m h r i u p o f =
    let y = length-sets m.names (c.names * span_width) (s.begin ∷ s.size ∷ []) in
    let z : t.first + 0 ≡ t.first = omega arith in
    rw (named-gives c s m.names r, trait_end-gives (names_to c (c.names + 1)) t m.traits u i)
    (members-lost ts (pop ts) row t.count 0 t.first t.dynamic _ _ (omega arith) p
    (rw z (λ a g. f (rw (same (t.first * span_width) (omega arith), same (t.first * span_width + 1) (omega arith)) at g))))
  where
    same : Kept (c.names * span_width) m.names (sets m.names (c.names * span_width) (s.begin ∷ s.size ∷ []))
    same = kept_sets (c.names * span_width) (c.names * span_width) (s.begin ∷ s.size ∷ []) m.names (omega arith)

-- whatever a byte looks up that strays is 12
act-lost : {b : ℕ} {x : Mode} {ts : List Frame} {c : Cursor} {m : Memory} → Strays b x ts c m → Room (taken c) m → ModeIn x c → Lostly (act x b ts (taken c) m)
act-lost {b} (string_entry {u = u} {left = left} {part = part} {w = n} {i = i} {ts = ts} {c = c} {m = m} e q o f) h l = string-lost b ts c m h u left part n i e q o f
act-lost {b} (object_entry {x = x} {left = left} {part = part} {w = n} {i = i} {ts = ts} {c = c} {m = m} e q o f) h l = object-lost b ts c m h x left part n i e q o f
act-lost {b} (trait_entry {row = row} {left = left} {part = part} {w = n} {i = i} {ts = ts} {c = c} {m = m} e q r o f) h (l, p) =
    trait_lost b ts c m h row left part n i e q l r o f
act-lost {b} (entry_name {row = row} {left = left} {part = part} {w = n} {i = i} {ts = ts} {c = c} {m = m} e q r o t z f) h (l, p) =
    trait_name-lost b ts c m h row left part n i e q l r o t z f
act-lost {b} (new_trait {x = x} {row = row} {t = t} {ts = ts} {c = c} {m = m} n r f) h l =
    comes_named b ts c m h row t n l (λ s d k g (((a, u), st), (y, z)). made-lost ts row t s d k g (rw (a, y) r) (rw (a, st) f))
act-lost {b} (new_trait_name {x = x} {row = row} {t = t} {ts = ts} {c = c} {m = m} n r i w p o f) h l =
    comes_named b ts c m h row t n l (λ s d k g (((a, u), st), (y, z)).
    made-name-lost ts row t s d k g (rw (a, y) r) (rw (a, st) i) (rw (u, z) w) p (rw a o) (rw (y, st) f))
act-lost {b} (frames {x = x} {ts = ts} {c = c} {d = d} {m = m} {k = k} o e s) h l =
    let (q, g) = twin_finished d k (twin_act b ts c m x o (sits_first (taken c) m h) l) e in
    let (z, r) = pop-lost s g.room in
    (z, q ∙ r)

-- ---- a 12 is what strays

-- where as many values are open as can be, a marker is refused by another number
marker-full : (k : Key) (b : ℕ) (ts : List Frame) (c : Cursor) (m l : Memory) → Room c m → open_limit ≤ length ts
    → act (at_marker k) b ts c m ≡ over (refused refusals.lost 0 0 l) → ⊥
unfolding act marker
marker-full k b ts c m l h o e =
    let z : open_limit - length ts ≡ 0 = omega arith in
    on_bool (ltb 0x11 b)
    (λ t. (let q = rw (le-ltb (length m.rows / row_width) c.rows h.rows, t) at e in clash cc))
    (λ t. (let q = rw (le-ltb (length m.rows / row_width) c.rows h.rows, t, z) at e in clash cc))

module _ (b : ℕ) (ts : List Frame) (c : Cursor) (m l : Memory) (h : Room (taken c) m) where
  -- where fewer are, a 12 is what strays
  within-strays : (x : Mode) → length ts < open_limit → ModeIn x c → act x b ts (taken c) m ≡ over (refused refusals.lost 0 0 l) → Strays b x ts c m
  within-strays x o w e =
      twin_lost l (twin_act b ts c m x o (sits_first (taken c) m h) w) e (λ z. z) (λ d k q s r. frames o q (pop-strays ts d k l s.room r))

  -- and so in every mode
  act-strays : (x : Mode) → Fits x (length ts) → ModeIn x c → act x b ts (taken c) m ≡ over (refused refusals.lost 0 0 l) → Strays b x ts c m
  act-strays (at_marker k) o w e = elim (dec_lt (length ts) open_limit) [
    | yes g ↦ within-strays (at_marker k) g w e
    | no g ↦ absurd (marker-full k b ts (taken c) m l h (omega arith) e)
  ]
  act-strays (at_word x left part) o w e = within-strays (at_word x left part) o w e
  act-strays (at_number x left part) o w e = within-strays (at_number x left part) o w e
  act-strays (at_flag x) o w e = within-strays (at_flag x) o w e
  act-strays (at_text x s left test) o w e = within-strays (at_text x s left test) o w e
  act-strays (at_raw x s left) o w e = within-strays (at_raw x s left) o w e
  act-strays astray o w e = absurd o

-- ---- through the call

-- used counts within the loans leave room
room_of : (c : Cursor) (m : Memory) → Counts (lent_of m) c → Room (taken c) m
unfolding lent_of
room_of c m h = omega arith

-- so do those of a state whose head holds together
pub together-room : {lent : Lent} {x : Mode} {ts : List Frame} {c : Cursor} {m : Memory} → Together lent x ts c m → Room (taken c) m
together-room {c = c} {m = m} h = room_of c m (rw h.loans h.counts)

-- where a byte looks up what strays: 12 with told 0 and place 0, no byte taken, the loans zero
pub strays-lost : (n : Numbers) (m : Memory) (b : ℕ) (bs : List ℕ) (x : Mode) (ts : List Frame) (c : Cursor) → state_of n m ≡ wait x ts c m
    → Together n.head.lent x ts c m → c.at < message_limit → Strays b x ts c m
    → feed_call n m (b ∷ bs) ≡ fed (Refused refusals.lost 0 0 0) (lost_numbers n) (zeroed m)
strays-lost n m b bs x ts c e h g s =
    let (l, r) = act-lost s (together-room h) h.works in
    step-lost n m b bs x ts c l e (together-sound n.head.lent x ts c m h) g r

-- and a byte is refused by 12 only where it does
pub lost-strays : (n : Numbers) (m : Memory) (b : ℕ) (x : Mode) (ts : List Frame) (c : Cursor) → b < 2 ^ 8 → state_of n m ≡ wait x ts c m
    → Together n.head.lent x ts c m → (told place k : ℕ) → answer_in (feed_call n m (b ∷ [])) ≡ Refused refusals.lost told place k
    → (c.at < message_limit) × Strays b x ts c m
lost-strays n m b x ts c o e h told place k q =
    let (l, g, r) = together-unfit n m b x ts c o e h told place k q in
    (g, act-strays b ts c m l (together-room h) x h.open_fits h.works r)
