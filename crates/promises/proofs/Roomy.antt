-- More room changes nothing but refusal 10: with longer loans a reading decides the same, byte by byte, and leaves the same, with zeros behind.
use Rattle.std.proofs.Common.{Option, Some, None}
use mathlib.Core.Path.{◌≡◌, refl, sym, ap, ◌∙◌}
use mathlib.Core.Logic.{◌≢◌}
use mathlib.Core.Bool.{Bool, true, false, cond, not}
use mathlib.Core.List.{List, [], ◌∷◌, append-nil}
use Prim.Native.Nat.{ℕ, zero, suc, ◌+◌, ◌*◌, ◌-◌, ◌/◌, ◌<◌, ◌≤◌}
use native.Mathlib.Omega.{arith}
use borrow.Author.Tests.{ltb-true, ltb-false, leb-true, leb-false, le-ltb, lt-leb, le-leb, not-false}
use lib.Dec.{leb, ltb, eqb}
use lib.ListN.{length, get_or, set, replicate, length-append, length-set, length-replicate, replicate-append-replicate}
use lib.Seq.{sets, set-append_left, take-append-le}
use Rattle.rows.specs.declared.Cursor.{Cursor}
use Rattle.rows.specs.declared.Span.{Span}
use Rattle.rows.specs.declared.Key.{Key}
use Rattle.rows.specs.declared.Trait.{Trait}
use Rattle.rows.specs.Memory.{Memory, memory, message_limit, open_limit, row_width, span_width, trait_width, col_kind, col_body_begin, col_body_size, col_class_mark, col_flag, col_number}
use Rattle.rows.specs.Memory.{col_count, col_count2, col_end, col, put, row_used, span_at, span_used, no_key, key_of, no_span, zeros, zeroed, fresh, fault_of}
use Rattle.rows.specs.Kinds.{kind_reference}
use Rattle.wire.specs.declared.Part.{Part}
use Rattle.wire.specs.declared.Part.TheVariants.{More, Whole}
use Rattle.wire.specs.declared.Size.{Size}
use Rattle.wire.specs.declared.Size.TheVariants.{Old, New}
use Rattle.wire.specs.declared.Shape.{Shape}
use Rattle.wire.specs.declared.Shape.TheVariants.{Object, Known, External, Inline}
use Rattle.wire.specs.U29.{part_of}
use Rattle.wire.specs.Word.{size_of, shape_of}
use Rattle.wire.specs.Big.{digit_of}
use Rattle.wire.specs.Date.{refused_date}
use Rattle.wire.specs.Sign.{integer_of, column_of}
use Rattle.utf8.specs.States.{step_of}
use Rattle.wire.proofs.Octets.{Bytes}
use Rattle.format.specs.Decide as k
use Rattle.format.specs.Decide.{Out, stop, give, refuse, lost, Decision, lift, looking, on_rows, on_store, on_strings, on_objects, on_traits, on_names, in_row}
use Rattle.format.specs.Decide.{Width, Body, Kind, width_of, kind_of, class_of, trait_at, trait_holds, trait_of}
use Rattle.format.specs.Decide.{closed, numbered, integer_end, date_end, bodied, classed, object_class, vector_class, flagged, counted, key_end, grown, marker, new_row}
use Rattle.format.specs.Decide.{old_text, reserved, stored, judged, text_end, entered, referred, old_trait, named, trait_end, sealed_key, starred}
use Rattle.format.specs.Reading as r
use Rattle.format.specs.Reading.{ResultOf, Result, ok, bad, bind, ◌>>=◌, ret, Reader, Values, by, decided, taken, Ended, finished, refused, ended, reading}
use Rattle.format.proofs.Tests.{both, clash}
use Rattle.meaning.proofs.Ground.{col-lent}
use Rattle.format.specs.Standard.{Tables, Tree}
use Rattle.format.proofs.Alike.{Agree}
use Rattle.format.proofs.Alike as alike
use Rattle.meaning.proofs.Tables.{Sim}
use Rattle.meaning.proofs.Stage.{Val}
use Rattle.meaning.proofs.Meaning.{never-lost, read_alike}
use Rattle.format.proofs.Memories.{numbers}
use Rattle.format.specs.Refusals as refusals
use Rattle.rows.specs.Memory.{loan_rows, loan_store, loan_strings, loan_objects, loan_traits, loan_names}
pub use Rattle.format.specs.Claims.{Longer, more, wider, widened, beyond, extra, NoShorter, Roomy, used}

-- ---- longer loans

pub more-length : (n : ℕ) (l : List ℕ) → length (more n l) ≡ length l + n
more-length n l = length-append l (replicate n 0) ∙ ap (λ z. length l + z) (length-replicate n 0)

none-there : (n i : ℕ) → get_or {A = ℕ} (replicate n 0) i 0 ≡ 0
none-there zero i = refl
none-there (suc n) zero = refl
none-there (suc n) (suc i) = none-there n i

pub more-at : (n : ℕ) (l : List ℕ) (i : ℕ) → get_or (more n l) i 0 ≡ get_or l i 0
more-at n [] i = none-there n i
more-at n (x ∷ l) zero = refl
more-at n (x ∷ l) (suc i) = more-at n l i

-- no zeros behind
none_more : (n : ℕ) (l : List ℕ) → n ≡ 0 → more n l ≡ l
none_more n l e = ap (λ (k : ℕ). more k l) e ∙ append-nil l

more-set : (n : ℕ) (l : List ℕ) (i v : ℕ) → i < length l → set (more n l) i v ≡ more n (set l i v)
more-set n l i v h = set-append_left l (replicate n 0) i v h

more-sets : (n : ℕ) (vs l : List ℕ) (i : ℕ) → i + length vs ≤ length l → sets (more n l) i vs ≡ more n (sets l i vs)
more-sets n [] l i h = refl
more-sets n (v ∷ vs) l i h = rw (more-set n l i v (omega arith)) (more-sets n vs (set l i v) (suc i) (rw length-set (omega arith)))

-- ---- decisions

-- a state that doesn't hold together; or no room in a loan that is longer
pub data Tight (w : Longer) : ℕ → ℕ → Type 0 where
  strays : Tight w refusals.lost 0
  lacks : {loan : ℕ} → 0 < extra w loan → Tight w refusals.no_room loan

-- the second, with longer loans, gives the same, or refuses the same; or the first had no room
pub data Like {S A : Type 0} (w : Longer) (to : S → S) : Out S A → Out S A → Type 0 where
  gives : {a : A} {s : S} {c : Cursor} → Like w to (give a s c) (give a (to s) c)
  stops : {n t p : ℕ} → Like w to (stop n t p) (stop n t p)
  tight : {n t p : ℕ} {o : Out S A} → Tight w n t → Like w to (stop n t p) o

module _ {w : Longer} {S A : Type 0} (to : S → S) where
  -- a refusal of the first, which the second need not make
  pub guard : (a b : Bool) (n t p : ℕ) (x y : Out S A) → Tight w n t → (a ≡ false → b ≡ false) → (a ≡ false → Like w to x y)
      → Like w to (cond a (stop n t p) x) (cond b (stop n t p) y)
  guard true b n t p x y f e h = tight f
  guard false true n t p x y f e h = let z = e refl in clash cc
  guard false false n t p x y f e h = h refl

  -- one for want of room, which the second makes if that loan isn't longer
  pub room : (a b : Bool) (loan p : ℕ) (x y : Out S A) → (extra w loan ≡ 0 → b ≡ a) → (a ≡ false → b ≡ false) → (a ≡ false → Like w to x y)
      → Like w to (cond a (stop refusals.no_room loan p) x) (cond b (stop refusals.no_room loan p) y)
  room true b loan p x y q e h = of (extra w loan) refl
    where
      of : (k : ℕ) → extra w loan ≡ k → Like w to (stop refusals.no_room loan p) (cond b (stop refusals.no_room loan p) y)
      of zero z = rw (q z) stops
      of (suc k) z = tight (lacks {loan = loan} (rw z (omega arith)))
  room false true loan p x y q e h = let z = e refl in clash cc
  room false false loan p x y q e h = h refl

  -- what only goes on where it holds
  pub keep : (a b : Bool) (x y : Out S A) → (a ≡ true → b ≡ true) → (a ≡ true → Like w to x y) → Like w to (cond a x lost) (cond b y lost)
  keep true true x y e h = h refl
  keep true false x y e h = let z = e refl in clash cc
  keep false b x y e h = tight strays

  -- the same test
  pub test : (a : Bool) (x y u v : Out S A) → (a ≡ true → Like w to x u) → (a ≡ false → Like w to y v) → Like w to (cond a x y) (cond a u v)
  test true x y u v h i = h refl
  test false x y u v h i = i refl

  pub given : {a : A} {s u : S} {c : Cursor} → u ≡ to s → Like w to (give a s c) (give a u c)
  given e = rw e gives

-- a row that is used changes
put-more : (n : ℕ) (R : List ℕ) (row col v : ℕ) → col < row_width → row * row_width + row_width ≤ length R → put (more n R) row col v ≡ more n (put R row col v)
put-more n R row col v h l = more-set n R (row * row_width + col) v (omega arith)

in-row : {w : Longer} (row : ℕ) (f : List ℕ → List ℕ) (n : ℕ) → ((R : List ℕ) → row * row_width + row_width ≤ length R → f (more n R) ≡ more n (f R))
    → (R : List ℕ) (c : Cursor) → Like w (more n) (in_row row f R c) (in_row row f (more n R) c)
in-row row f n h R c =
    keep (more n) (row_used R c row) (row_used (more n R) c row) _ _ (λ e. longer e) (λ e. given (more n) (h R (lies e)))
  where
    parts : row_used R c row ≡ true → (ltb row c.rows ≡ true) × (leb c.rows (length R / row_width) ≡ true)
    parts e = both (ltb row c.rows) (leb c.rows (length R / row_width)) e

    lies : row_used R c row ≡ true → row * row_width + row_width ≤ length R
    lies e = let a = ltb-true row c.rows (parts e).0 in let b = leb-true c.rows (length R / row_width) (parts e).1 in omega arith

    longer : row_used R c row ≡ true → row_used (more n R) c row ≡ true
    longer e =
        let b = leb-true c.rows (length R / row_width) (parts e).1 in
        rw (parts e).0 (le-leb c.rows (length (more n R) / row_width) (omega (arith, more-length n R)))

numbered_like : {w : Longer} (k row n : ℕ) (R : List ℕ) (c : Cursor) → Like w (more k) (numbered row n R c) (numbered row n (more k R) c)
unfolding numbered
numbered_like k row n R c =
    in-row row (λ R. put (put R row col_number n) row col_end c.rows) k (λ R l. rw (put-more k R row col_number n (omega arith) l)
    (put-more k (put R row col_number n) row col_end c.rows (omega arith) (rw length-set l))) R c

-- counts that hold together with a loan do so with a longer one, and room in it is room
counts : (n : ℕ) (l : List ℕ) (d u : ℕ) → ltb (length l / span_width) u ≡ false → ltb (length (more n l) / span_width) u ≡ false
counts n l d u h = let i = ltb-false (length l / span_width) u h in le-ltb (length (more n l) / span_width) u (omega (arith, more-length n l))

used-more : (n : ℕ) (R : List ℕ) (c : Cursor) (row : ℕ) → row_used R c row ≡ true → row_used (more n R) c row ≡ true
used-more n R c row e =
    let q = both (ltb row c.rows) (leb c.rows (length R / row_width)) e in
    let b = leb-true c.rows (length R / row_width) q.1 in
    rw q.0 (le-leb c.rows (length (more n R) / row_width) (omega (arith, more-length n R)))

-- a column of a used row
col-more : (n : ℕ) (R : List ℕ) (c : Cursor) (row k : ℕ) → row_used R c row ≡ true → col (more n R) row k ≡ col R row k
col-more n R c row k e =
    let q = both (ltb row c.rows) (leb c.rows (length R / row_width)) e in
    let a = ltb-true row c.rows q.0 in
    let b = leb-true c.rows (length R / row_width) q.1 in
    col-lent (more n R) row k (omega (arith, more-length n R)) ∙ more-at n R (row * row_width + k) ∙ sym (col-lent R row k (omega arith))

-- row becomes a reference
referred_like : {w : Longer} (n o row i : ℕ) (O R : List ℕ) (c : Cursor) → Like w (more n) (referred row i O R c) (referred row i (more o O) (more n R) c)
unfolding referred
referred_like n o row i O R c =
    rw (more-at o O i)
    (guard (more n) (ltb (length O) c.objects) (ltb (length (more o O)) c.objects) refusals.lost 0 0 _ _ strays
    (λ h. let j = ltb-false (length O) c.objects h in le-ltb (length (more o O)) c.objects (omega (arith, more-length o O)))
    (λ h. test (more n) (leb c.objects i) _ _ _ _ (λ z. stops) (λ z.
    guard (more n) (not (row_used R c (get_or O i 0))) (not (row_used (more n R) c (get_or O i 0))) refusals.lost 0 0 _ _ strays
    (λ h. rw (used-more n R c (get_or O i 0) (not-false _ h)))
    (λ h. rw (col-more n R c (get_or O i 0) col_end (not-false _ h))
    (test (more n) (ltb c.rows (col R (get_or O i 0) col_end)) _ _ _ _ (λ z. stops) (λ z. test (more n) (eqb (col R (get_or O i 0) col_end) 0) _ _ _ _ (λ z. stops)
    (λ z. in-row row (λ R. put (put (put R row col_kind kind_reference) row col_number (get_or O i 0)) row col_end c.rows) n
    (λ R l. rw (put-more n R row col_kind kind_reference (omega arith) l, put-more n (put R row col_kind kind_reference) row col_number (get_or O i 0) (omega arith) (rw length-set l))
    (put-more n (put (put R row col_kind kind_reference) row col_number (get_or O i 0)) row col_end c.rows (omega arith) (rw (length-set, length-set) l))) R c)))))))

-- ---- readers

pub data Wider (w : Longer) {A : Type 0} : Result A → Result A → Type 0 where
  fine : {a : A} {m : Memory} {c : Cursor} {bs : List ℕ} → Wider w (ok a m c bs) (ok a (wider w m) c bs)
  same : {n t p : ℕ} {m : Memory} → Wider w (bad n t p m) (bad n t p (wider w m))
  short : {n t p : ℕ} {m : Memory} {r : Result A} → Tight w n t → Wider w (bad n t p m) r

pub record Over (w : Longer) {A : Type 0} (f : Reader A) : Type 0 where
  pub over : (m : Memory) (c : Cursor) (bs : List ℕ) → Wider w (f m c bs) (f (wider w m) c bs)

module _ {w : Longer} where
  bind-wider : {A B : Type 0} {x y : Result A} (f : A → Reader B) → Wider w x y → ((a : A) → Over w (f a)) → Wider w (bind x f) (bind y f)
  bind-wider f (fine {a = a} {m = m} {c = c} {bs = bs}) h = (h a).over m c bs
  bind-wider f same h = same
  bind-wider f (short e) h = short e

  pub over-bind : {A B : Type 0} {g : Reader A} {f : A → Reader B} → Over w g → ((a : A) → Over w (f a)) → Over w (g >>= f)
  over-bind {f = f} h i = record { over = λ m c bs. bind-wider f (h.over m c bs) i }

  pub over-ret : {A : Type 0} {a : A} → Over w (ret a)
  over-ret = record { over = λ m c bs. fine }

  like_wider : {A : Type 0} {x y : Out Memory A} (m : Memory) (bs : List ℕ) → Like w (wider w) x y → Wider w (decided x m bs) (decided y (wider w m) bs)
  like_wider m bs gives = fine
  like_wider m bs stops = same
  like_wider m bs (tight e) = short e

  over_by : {A : Type 0} {d : Decision A} → ((m : Memory) (c : Cursor) → Like w (wider w) (d m c) (d (wider w m) c)) → Over w (by d)
  over_by h = record { over = λ m c bs. like_wider m bs (h m c) }

  pub over-lost : {A : Type 0} → Over w {A = A} (by (λ m c. lost))
  over-lost = record { over = λ m c bs. same }

  pub over-byte : Over w r.byte
  over-byte = record { over = one }
    where
      one : (m : Memory) (c : Cursor) (bs : List ℕ) → Wider w (r.byte m c bs) (r.byte (wider w m) c bs)
      one m c [] = (unfold r.byte in same)
      one m c (b ∷ bs) = (unfold r.byte in by-limit (leb message_limit c.at))
        where
          by-limit : (t : Bool) → Wider w (cond t (bad refusals.too_long 0 c.at m) (ok b m (taken c) bs)) (cond t (bad refusals.too_long 0 c.at (wider w m)) (ok b (wider w m) (taken c) bs))
          by-limit true = same
          by-limit false = fine

  -- decisions on one loan
  pub over-rows : {A : Type 0} {d : List ℕ → Cursor → Out (List ℕ) A} → ((R : List ℕ) (c : Cursor) → Like w (more w.rows) (d R c) (d (more w.rows R) c))
      → Over w (by (on_rows d))
  over-rows h = over_by (λ m c. up m (h m.rows c))
    where
      up : {A : Type 0} {x y : Out (List ℕ) A} (m : Memory) → Like w (more w.rows) x y
          → Like w (wider w) (lift (λ R. memory R m.store m.strings m.objects m.traits m.names) x)
          (lift (λ R. memory R (wider w m).store (wider w m).strings (wider w m).objects (wider w m).traits (wider w m).names) y)
      up m gives = gives
      up m stops = stops
      up m (tight e) = tight e

  over-store : {A : Type 0} {d : List ℕ → Cursor → Out (List ℕ) A} → ((B : List ℕ) (c : Cursor) → Like w (more w.store) (d B c) (d (more w.store B) c))
      → Over w (by (on_store d))
  over-store h = over_by (λ m c. up m (h m.store c))
    where
      up : {A : Type 0} {x y : Out (List ℕ) A} (m : Memory) → Like w (more w.store) x y
          → Like w (wider w) (lift (λ B. memory m.rows B m.strings m.objects m.traits m.names) x)
          (lift (λ B. memory (wider w m).rows B (wider w m).strings (wider w m).objects (wider w m).traits (wider w m).names) y)
      up m gives = gives
      up m stops = stops
      up m (tight e) = tight e

  over-strings : {A : Type 0} {d : List ℕ → Cursor → Out (List ℕ) A} → ((T : List ℕ) (c : Cursor) → Like w (more w.strings) (d T c) (d (more w.strings T) c))
      → Over w (by (on_strings d))
  over-strings h = over_by (λ m c. up m (h m.strings c))
    where
      up : {A : Type 0} {x y : Out (List ℕ) A} (m : Memory) → Like w (more w.strings) x y
          → Like w (wider w) (lift (λ T. memory m.rows m.store T m.objects m.traits m.names) x)
          (lift (λ T. memory (wider w m).rows (wider w m).store T (wider w m).objects (wider w m).traits (wider w m).names) y)
      up m gives = gives
      up m stops = stops
      up m (tight e) = tight e

  over-objects : {A : Type 0} {d : List ℕ → Cursor → Out (List ℕ) A} → ((O : List ℕ) (c : Cursor) → Like w (more w.objects) (d O c) (d (more w.objects O) c))
      → Over w (by (on_objects d))
  over-objects h = over_by (λ m c. up m (h m.objects c))
    where
      up : {A : Type 0} {x y : Out (List ℕ) A} (m : Memory) → Like w (more w.objects) x y
          → Like w (wider w) (lift (λ O. memory m.rows m.store m.strings O m.traits m.names) x)
          (lift (λ O. memory (wider w m).rows (wider w m).store (wider w m).strings O (wider w m).traits (wider w m).names) y)
      up m gives = gives
      up m stops = stops
      up m (tight e) = tight e

  over-traits : {A : Type 0} {d : List ℕ → Cursor → Out (List ℕ) A} → ((U : List ℕ) (c : Cursor) → Like w (more w.traits) (d U c) (d (more w.traits U) c))
      → Over w (by (on_traits d))
  over-traits h = over_by (λ m c. up m (h m.traits c))
    where
      up : {A : Type 0} {x y : Out (List ℕ) A} (m : Memory) → Like w (more w.traits) x y
          → Like w (wider w) (lift (λ U. memory m.rows m.store m.strings m.objects U m.names) x)
          (lift (λ U. memory (wider w m).rows (wider w m).store (wider w m).strings (wider w m).objects U (wider w m).names) y)
      up m gives = gives
      up m stops = stops
      up m (tight e) = tight e

  over-names : {A : Type 0} {d : List ℕ → Cursor → Out (List ℕ) A} → ((N : List ℕ) (c : Cursor) → Like w (more w.names) (d N c) (d (more w.names N) c))
      → Over w (by (on_names d))
  over-names h = over_by (λ m c. up m (h m.names c))
    where
      up : {A : Type 0} {x y : Out (List ℕ) A} (m : Memory) → Like w (more w.names) x y
          → Like w (wider w) (lift (λ N. memory m.rows m.store m.strings m.objects m.traits N) x)
          (lift (λ N. memory (wider w m).rows (wider w m).store (wider w m).strings (wider w m).objects (wider w m).traits N) y)
      up m gives = gives
      up m stops = stops
      up m (tight e) = tight e

  over-looking : {A : Type 0} {d : Memory → Cursor → Out Unit A} → ((m : Memory) (c : Cursor) → Like {S = Unit} w (λ x. x) (d m c) (d (wider w m) c))
      → Over w (by (looking d))
  over-looking h = over_by (λ m c. up m (h m c))
    where
      up : {A : Type 0} {x y : Out Unit A} (m : Memory) → Like {S = Unit} w (λ x. x) x y → Like w (wider w) (lift (λ z. m) x) (lift (λ z. wider w m) y)
      up m gives = gives
      up m stops = stops
      up m (tight e) = tight e

  -- ---- each decision

  over_closed : (row : ℕ) → Over w (by (on_rows (closed row)))
  unfolding closed
  over_closed row = over-rows (λ R c. in-row row (λ R. put R row col_end c.rows) w.rows (λ R l. put-more w.rows R row col_end c.rows (omega arith) l) R c)

  over-numbered : (row n : ℕ) → Over w (by (on_rows (numbered row n)))
  over-numbered row n = over-rows (numbered_like w.rows row n)

  over-integer : (row z : ℕ) → Over w (by (on_rows (integer_end row z)))
  unfolding integer_end
  over-integer row z = over-numbered row (column_of (integer_of z))

  over-bodied : (row : ℕ) (s : Span) → Over w (by (on_rows (bodied row s)))
  unfolding bodied
  over-bodied row s = over-rows (λ R c. in-row row (λ R. put (put R row col_body_begin s.begin) row col_body_size s.size) w.rows
      (λ R l. rw (put-more w.rows R row col_body_begin s.begin (omega arith) l)
      (put-more w.rows (put R row col_body_begin s.begin) row col_body_size s.size (omega arith) (rw length-set l))) R c)

  over-classed : (row mark : ℕ) (s : Span) → Over w (by (on_rows (classed row mark s)))
  unfolding classed
  over-classed row mark s = over-rows (λ R c. in-row row (λ R. put (put (put R row col_class_mark mark) row col_body_begin s.begin) row col_body_size s.size) w.rows (λ R l. rw (
    put-more w.rows R row col_class_mark mark (omega arith) l,
    put-more w.rows (put R row col_class_mark mark) row col_body_begin s.begin (omega arith) (rw length-set l),
  )
      (put-more w.rows (put (put R row col_class_mark mark) row col_body_begin s.begin) row col_body_size s.size (omega arith) (rw (length-set, length-set) l))) R c)

  over-class : (row : ℕ) (t : Trait) → Over w (by (on_rows (object_class row t)))
  unfolding object_class
  over-class row t = over-classed row _ (class_of t)

  over_type : (row : ℕ) (star : Bool) (s : Span) → Over w (by (on_rows (vector_class row star s)))
  unfolding vector_class
  over_type row true s = over-classed row 0 no_span
  over_type row false s = over-classed row 1 s

  over-flagged : (row flag : ℕ) → Over w (by (on_rows (flagged row flag)))
  unfolding flagged
  over-flagged row flag = over-rows (λ R c. in-row row (λ R. put R row col_flag flag) w.rows (λ R l. put-more w.rows R row col_flag flag (omega arith) l) R c)

  over-counted : (row col done : ℕ) → col < row_width → Over w (by (on_rows (counted row col done)))
  unfolding counted
  over-counted row col done h = over-rows (λ R c. test (more w.rows) (leb c.rows done) _ _ _ _ (λ e. tight strays)
      (λ e. in-row row (λ R. put R row col (done + 1)) w.rows (λ R l. put-more w.rows R row col (done + 1) h l) R c))

  -- between a key and its value
  over-key-end : (row done : ℕ) → Over w (by (looking (λ m. key_end row done m.rows)))
  unfolding key_end
  over-key-end row done = over-looking {d = λ m. key_end row done m.rows} (λ m c. test (λ x. x) (leb c.rows done) _ _ _ _ (λ e. tight strays)
      (λ e. keep (λ x. x) (row_used m.rows c row) (row_used (more w.rows m.rows) c row) _ _ (used-more w.rows m.rows c row) (λ e. gives)))

  over-grown : (row : ℕ) (x : Width) (s : Span) (n : ℕ) → Over w (by (on_rows (grown row x s n)))
  unfolding grown
  over-grown row x s n = over-rows (λ R c. in-row row (λ R. put R row col_count ((s.size - n) / width_of x)) w.rows
      (λ R l. put-more w.rows R row col_count ((s.size - n) / width_of x) (omega arith) l) R c)

  over-date : (row bits : ℕ) → Over w (by (on_rows (date_end row bits)))
  unfolding date_end
  over-date row bits = over-rows (λ R c. keep (more w.rows) (row_used R c row) (row_used (more w.rows R) c row) _ _ (λ e. used R c e) (λ e. date R c (refused_date bits)))
    where
      used : (R : List ℕ) (c : Cursor) → row_used R c row ≡ true → row_used (more w.rows R) c row ≡ true
      used R c e =
          let q = both (ltb row c.rows) (leb c.rows (length R / row_width)) e in
          let b = leb-true c.rows (length R / row_width) q.1 in
          rw q.0 (le-leb c.rows (length (more w.rows R) / row_width) (omega (arith, more-length w.rows R)))

      date : (R : List ℕ) (c : Cursor) (t : Bool) → Like w (more w.rows) (cond t (refuse refusals.bad_date bits c) (numbered row bits R c))
          (cond t (refuse refusals.bad_date bits c) (numbered row bits (more w.rows R) c))
      date R c true = stops
      date R c false = numbered_like w.rows row bits R c

  over-marker : (key : Key) (left b : ℕ) → Over w (by (on_rows (marker key left b)))
  unfolding marker new_row
  over-marker key left b = over-rows (λ R c.
      let n = w.rows in
      let e = more-length n R in
      guard (more n) (ltb (length R / row_width) c.rows) (ltb (length (more n R) / row_width) c.rows) refusals.lost 0 0 _ _ strays
      (λ h. let i = ltb-false (length R / row_width) c.rows h in le-ltb (length (more n R) / row_width) c.rows (omega arith))
      (λ h. test (more n) (ltb 0x11 b) _ _ _ _ (λ z. stops) (λ z. test (more n) (eqb left 0) _ _ _ _ (λ z. stops) (λ z.
      room (more n) (leb (length R / row_width) c.rows) (leb (length (more n R) / row_width) c.rows) loan_rows c.at _ _
      (λ q. ap (λ l. leb (length l / row_width) c.rows) (none_more n R q))
      (λ h. let i = leb-false (length R / row_width) c.rows h in lt-leb (length (more n R) / row_width) c.rows (omega arith))
      (λ h. given (more n) (more-sets n (new_row b key c.rows) R (c.rows * row_width)
      (let i = leb-false (length R / row_width) c.rows h in omega arith)))))))

  over-old-text : (i : ℕ) → Over w (by (looking (λ m. old_text i m.strings)))
  unfolding old_text
  over-old-text i = over-looking {d = λ m. old_text i m.strings} (λ m c.
      let n = w.strings in
      let T = m.strings in
      simp more-at
      (guard (λ x. x) (ltb (length T / span_width) c.strings) (ltb (length (more n T) / span_width) c.strings) refusals.lost 0 0 _ _ strays (λ h. counts n T 0 c.strings h)
      (λ h. test (λ x. x) (leb c.strings i) _ _ _ _ (λ z. stops) (λ z. test (λ x. x) (span_used c (span_at T i)) _ _ _ _ (λ z. gives) (λ z. tight strays)))))

  over-reserved : (z : ℕ) → Over w (by (looking (λ m. reserved z m.store)))
  unfolding reserved
  over-reserved z = over-looking (λ m c.
      let n = w.store in
      let B = m.store in
      let e = more-length n B in
      guard (λ x. x) (ltb (length B) c.store) (ltb (length (more n B)) c.store) refusals.lost 0 0 _ _ strays
      (λ h. let i = ltb-false (length B) c.store h in le-ltb (length (more n B)) c.store (omega arith))
      (λ h. room (λ x. x) (ltb (length B) (c.store + z)) (ltb (length (more n B)) (c.store + z)) loan_store c.at _ _
      (λ q. ap (λ l. ltb (length l) (c.store + z)) (none_more n B q))
      (λ h. let i = ltb-false (length B) (c.store + z) h in le-ltb (length (more n B)) (c.store + z) (omega arith)) (λ h. gives)))

  over-stored : (s : Span) (left b : ℕ) → Over w (by (on_store (stored s left b)))
  unfolding stored
  over-stored s left b = over-store (λ B c.
      let n = w.store in
      let e = more-length n B in
      guard (more n) (ltb (length B) c.store) (ltb (length (more n B)) c.store) refusals.lost 0 0 _ _ strays
      (λ h. let i = ltb-false (length B) c.store h in le-ltb (length (more n B)) c.store (omega arith))
      (λ h. test (more n) (leb s.size left) _ _ _ _ (λ z. stops) (λ z. test (more n) (span_used c s) _ _ _ _
      (λ q. given (more n) (more-set n B (s.begin + (s.size - (left + 1))) b
      (let i = ltb-false (length B) c.store h in let j = leb-false s.size left z in let k = leb-true (s.begin + s.size) c.store q in omega arith)))
      (λ z. stops))))

  over-judged : (valid : Bool) → Over w (by (looking (λ m. judged valid)))
  unfolding judged
  over-judged valid = over-looking (λ m c. test (λ x. x) valid _ _ _ _ (λ z. gives) (λ z. stops))

  over-text-end : (s : Span) (valid : Bool) → Over w (by (on_strings (text_end s valid)))
  unfolding text_end
  over-text-end s valid = over-strings (λ T c.
      let n = w.strings in
      let e = more-length n T in
      guard (more n) (ltb (length T / span_width) c.strings) (ltb (length (more n T) / span_width) c.strings) refusals.lost 0 0 _ _ strays (λ h. counts n T 0 c.strings h)
      (λ h. test (more n) valid _ _ _ _ (λ z. room (more n) (leb (length T / span_width) c.strings) (leb (length (more n T) / span_width) c.strings) loan_strings c.at _ _
      (λ q. ap (λ l. leb (length l / span_width) c.strings) (none_more n T q))
      (λ h. let i = leb-false (length T / span_width) c.strings h in lt-leb (length (more n T) / span_width) c.strings (omega arith))
      (λ h. given (more n) (more-sets n (s.begin ∷ s.size ∷ []) T (c.strings * span_width) (let i = leb-false (length T / span_width) c.strings h in omega arith))))
      (λ z. stops)))

  over-named : (s : Span) → Over w (by (on_names (named s)))
  unfolding named
  over-named s = over-names (λ T c.
      let n = w.names in
      let e = more-length n T in
      guard (more n) (ltb (length T / span_width) c.names) (ltb (length (more n T) / span_width) c.names) refusals.lost 0 0 _ _ strays (λ h. counts n T 0 c.names h)
      (λ h. room (more n) (leb (length T / span_width) c.names) (leb (length (more n T) / span_width) c.names) loan_names c.at _ _
      (λ q. ap (λ l. leb (length l / span_width) c.names) (none_more n T q))
      (λ h. let i = leb-false (length T / span_width) c.names h in lt-leb (length (more n T) / span_width) c.names (omega arith))
      (λ h. given (more n) (more-sets n (s.begin ∷ s.size ∷ []) T (c.names * span_width) (let i = leb-false (length T / span_width) c.names h in omega arith)))))

  over-entered : (row : ℕ) → Over w (by (on_objects (entered row)))
  unfolding entered
  over-entered row = over-objects (λ O c.
      let n = w.objects in
      let e = more-length n O in
      test (more n) (leb c.rows row) _ _ _ _ (λ z. stops) (λ z.
      guard (more n) (ltb (length O) c.objects) (ltb (length (more n O)) c.objects) refusals.lost 0 0 _ _ strays
      (λ h. let i = ltb-false (length O) c.objects h in le-ltb (length (more n O)) c.objects (omega arith))
      (λ h. room (more n) (leb (length O) c.objects) (leb (length (more n O)) c.objects) loan_objects c.at _ _
      (λ q. ap (λ l. leb (length l) c.objects) (none_more n O q))
      (λ h. let i = leb-false (length O) c.objects h in lt-leb (length (more n O)) c.objects (omega arith))
      (λ h. given (more n) (more-set n O c.objects row (leb-false (length O) c.objects h))))))

  over_trait_end : (t : Trait) → Over w (by (on_traits (trait_end t)))
  unfolding trait_end
  over_trait_end t = over-traits (λ U c.
      let n = w.traits in
      let e = more-length n U in
      guard (more n) (ltb (length U / trait_width) c.traits) (ltb (length (more n U) / trait_width) c.traits) refusals.lost 0 0 _ _ strays
      (λ h. let i = ltb-false (length U / trait_width) c.traits h in le-ltb (length (more n U) / trait_width) c.traits (omega arith))
      (λ h. test (more n) (not (trait_holds c t)) _ _ _ _ (λ z. stops) (λ z.
      room (more n) (leb (length U / trait_width) c.traits) (leb (length (more n U) / trait_width) c.traits) loan_traits c.at _ _
      (λ q. ap (λ l. leb (length l / trait_width) c.traits) (none_more n U q))
      (λ h. let i = leb-false (length U / trait_width) c.traits h in lt-leb (length (more n U) / trait_width) c.traits (omega arith))
      (λ h. given (more n) (more-sets n (numbers t) U (c.traits * trait_width) (let i = leb-false (length U / trait_width) c.traits h in omega arith))))))

  over-old_trait : (i : ℕ) → Over w (by (looking (λ m. old_trait i m.traits)))
  unfolding old_trait
  over-old_trait i = over-looking {d = λ m. old_trait i m.traits} (λ m c.
      let n = w.traits in
      let U = m.traits in
      simp more-at
      (guard (λ x. x) (ltb (length U / trait_width) c.traits) (ltb (length (more n U) / trait_width) c.traits) refusals.lost 0 0 _ _ strays
      (λ h. let j = ltb-false (length U / trait_width) c.traits h in le-ltb (length (more n U) / trait_width) c.traits (omega (arith, more-length n U)))
      (λ h. test (λ x. x) (leb c.traits i) _ _ _ _ (λ z. stops) (λ z. test (λ x. x) (trait_holds c (trait_at U i)) _ _ _ _ (λ z. gives) (λ z. tight strays)))))

  over-sealed-key : (i : ℕ) → Over w (by (looking (λ m. sealed_key i m.names)))
  unfolding sealed_key
  over-sealed-key i = over-looking {d = λ m. sealed_key i m.names} (λ m c.
      let n = w.names in
      let N = m.names in
      simp more-at
      (guard (λ x. x) (ltb (length N / span_width) c.names) (ltb (length (more n N) / span_width) c.names) refusals.lost 0 0 _ _ strays (λ h. counts n N 0 c.names h)
      (λ h. test (λ x. x) (leb c.names i) _ _ _ _ (λ z. stops) (λ z. test (λ x. x) (span_used c (span_at N i)) _ _ _ _ (λ z. gives) (λ z. tight strays)))))

  over-starred : (s : Span) → Over w (by (looking (λ m. starred s m.store)))
  unfolding starred
  over-starred s = over-looking {d = λ m. starred s m.store} (λ m c.
      let n = w.store in
      let B = m.store in
      simp more-at
      (test (λ x. x) (eqb s.size 1) _ _ _ _ (λ z. guard (λ x. x) (ltb (length B) c.store) (ltb (length (more n B)) c.store) refusals.lost 0 0 _ _ strays
      (λ h. let i = ltb-false (length B) c.store h in le-ltb (length (more n B)) c.store (omega (arith, more-length n B)))
      (λ h. test (λ x. x) (span_used c s) _ _ _ _ (λ z. gives) (λ z. tight strays))) (λ z. gives)))

  over-referred : (row i : ℕ) → Over w (by (λ m. on_rows (referred row i m.objects) m))
  over-referred row i = over_by {d = λ m. on_rows (referred row i m.objects) m} (λ m c. up m (referred_like w.rows w.objects row i m.objects m.rows c))
    where
      up : {A : Type 0} {x y : Out (List ℕ) A} (m : Memory) → Like w (more w.rows) x y
          → Like w (wider w) (lift (λ R. memory R m.store m.strings m.objects m.traits m.names) x)
          (lift (λ R. memory R (wider w m).store (wider w m).strings (wider w m).objects (wider w m).traits (wider w m).names) y)
      up m gives = gives
      up m stops = stops
      up m (tight e) = tight e

  -- ---- numbers and texts

  over-part : (f : ℕ → Reader ℕ) → ((n : ℕ) → Over w (f n)) → (x : Option Part) → Over w (r.on_part f x)
  over-part f h (Some (More n)) = h n
  over-part f h (Some (Whole n)) = over-ret
  over-part f h None = over-lost

  over-u29 : (left n : ℕ) → Over w (r.u29 left n)
  unfolding r.u29
  over-u29 zero n = over-bind over-byte (λ b. over-part _ (λ n. over-lost) (part_of zero n b))
  over-u29 (suc left) n = over-bind over-byte (λ b. over-part _ (λ n. over-u29 left n) (part_of (suc left) n b))

  over-number : (left n : ℕ) → Over w (r.number left n)
  unfolding r.number
  over-number zero n = over-bind over-byte (λ b. over-part _ (λ n. over-lost) (digit_of zero n b))
  over-number (suc left) n = over-bind over-byte (λ b. over-part _ (λ n. over-number left n) (digit_of (suc left) n b))

  over-chars : (s : Span) (n t : ℕ) → Over w (r.chars s n t)
  unfolding r.chars
  over-chars s zero t = over-bind over-byte (λ b. over-bind (over-stored s zero b) (λ x. over-ret))
  over-chars s (suc n) t = over-bind over-byte (λ b. over-bind (over-stored s (suc n) b) (λ x. over-chars s n (step_of t b)))

  over-chars-of : (s : Span) (n : ℕ) → Over w (r.chars_of s n)
  unfolding r.chars_of
  over-chars-of s zero = over-ret
  over-chars-of s (suc n) = over-chars s n 0

  module _ (grow : ℕ → Reader Unit) (h : (n : ℕ) → Over w (grow n)) where
    over-fill : (s : Span) (n : ℕ) → Over w (r.fill grow s n)
    unfolding r.fill
    over-fill s zero = over-bind over-byte (λ b. over-bind (over-stored s zero b) (λ x. h zero))
    over-fill s (suc n) = over-bind over-byte (λ b. over-bind (over-bind (over-stored s (suc n) b) (λ x. h (suc n))) (λ x. over-fill s n))

    over-filled : (s : Span) (n : ℕ) → Over w (r.filled grow s n)
    unfolding r.filled
    over-filled s zero = over-ret
    over-filled s (suc n) = over-fill s n

  module _ (at : Span → Reader Unit) (h : (s : Span) → Over w (at s)) where
    over-text-of : (z : Size) → Over w (r.text_of at z)
    unfolding r.text_of
    over-text-of (Old i) = over-old-text i
    over-text-of (New zero) = over-ret
    over-text-of (New (suc n)) =
        over-bind (over-reserved (suc n)) (λ s. over-bind (over-bind (h s) (λ x. over-chars s n 0)) (λ valid. over-text-end s valid))

    over-text : Over w (r.text at)
    unfolding r.text
    over-text = over-bind (over-u29 3 0) (λ z. over-text-of (size_of z))

  over_plain : Over w (r.text r.plain)
  over_plain = over-text r.plain (λ s. over-ret)

  over-room : (row n : ℕ) → Over w (r.room row n)
  unfolding r.room
  over-room row zero = over-ret
  over-room row (suc n) = over-bind (over-reserved (suc n)) (λ s. over-bind (over-bodied row s) (λ x. over-ret))

  over-names-of : (n : ℕ) → Over w (r.names n)
  unfolding r.names
  over-names-of zero = over-ret
  over-names-of (suc n) = over-bind over_plain (λ s. over-bind (over-named s) (λ x. over-names-of n))

  -- ---- values

  over-entries : (one : ℕ → Reader Unit) → ((done : ℕ) → Over w (one done)) → (row col n done : ℕ) → col < row_width → Over w (r.entries one row col n done)
  unfolding r.entries
  over-entries one h row col zero done l = over-ret
  over-entries one h row col (suc n) done l =
      over-bind (over-bind (h done) (λ x. over-counted row col done l)) (λ x. over-entries one h row col n (suc done) l)

  module _ (v : Values) (h : (key : Key) → Over w (v key)) where
    over-pair : (row col done : ℕ) (rest : Reader Unit) (s : Span) (n : ℕ) → col < row_width → Over w rest → Over w (r.pair v row col done rest s n)
    unfolding r.pair
    over-pair row col done rest s zero l i = over-ret
    over-pair row col done rest s (suc n) l i = over-bind (over-bind (h (key_of s)) (λ x. over-counted row col done l)) (λ x. i)

    -- pairs with any fuel, and with the one that they are read with
    over-pairs-by : (row col most done : ℕ) → col < row_width → Over w (r.pairs_by v row col most done)
    unfolding r.pairs_by
    over-pairs-by row col zero done l = over-lost
    over-pairs-by row col (suc most) done l =
        over-bind over_plain (λ s. over-pair row col done (r.pairs_by v row col most (suc done)) s s.size l (over-pairs-by row col most (suc done) l))

    over-pairs : (row col : ℕ) → col < row_width → Over w (r.pairs v row col 0)
    unfolding r.pairs
    over-pairs row col l = record { over = λ m c bs. (over-pairs-by row col (suc (length bs)) 0 l).over m c bs }

    -- a key of a dictionary and its value
    over-couple : (row done : ℕ) → Over w (r.couple v row done)
    unfolding r.couple
    over-couple row done = over-bind (over-bind (h no_key) (λ x. over-key-end row done)) (λ x. h no_key)

    over-dynamics : (row y : ℕ) → Over w (r.dynamics v row y)
    unfolding r.dynamics
    over-dynamics row zero = over-ret
    over-dynamics row (suc y) = over-pairs row col_count2 (omega arith)

    over-members : (row : ℕ) (t : Trait) → Over w (r.members v row t)
    unfolding r.members
    over-members row t =
        over-bind (over-bind (over-entries _ (λ done. over-bind (over-sealed-key (t.first + done)) h) row col_count t.count 0 (omega arith))
        (λ x. over-dynamics row t.dynamic)) (λ x. over_closed row)

    over-inlined : (row : ℕ) (t : Trait) → Over w (r.inlined v row t)
    unfolding r.inlined
    over-inlined row t =
        over-bind (over-bind (over-bind (over-class row t) (λ x. over-names-of t.count)) (λ x. over_trait_end t)) (λ x. over-members row t)

    over-object : (row : ℕ) (z : Shape) → Over w (r.object_of v row z)
    unfolding r.object_of
    over-object row (Object i) = over-referred row i
    over-object row (Known i) =
        over-bind (over-bind (over-entered row) (λ x. over-old_trait i)) (λ t. over-bind (over-class row t) (λ x. over-members row t))
    over-object row External = over-bind (over-bind (over-entered row) (λ x. over_plain)) (λ x. record { over = λ m c bs. same })
    over-object row (Inline n y) =
        over-bind (over-bind (over-entered row) (λ x. over_plain)) (λ s. record { over = λ m c bs. (over-inlined row (trait_of s n y c)).over m c bs })

    over-new : (row : ℕ) (body : Body) (n : ℕ) → Over w (r.new_of v row body n)
    unfolding r.new_of
    over-new row k.xml n =
        over-bind (over-room row n) (λ s. over-bind (over-chars-of s n) (λ valid. over-bind (over-judged valid) (λ x. over_closed row)))
    over-new row k.date n = over-bind (over-number 7 0) (λ bits. over-date row bits)
    over-new row k.array n =
        over-bind (over-bind (over-pairs row col_count (omega arith)) (λ x. over-entries _ (λ done. h no_key) row col_count2 n 0 (omega arith)))
        (λ x. over_closed row)
    over-new row k.bytes n = over-bind (over-room row n) (λ s. over-bind (over-filled _ (λ left. over-ret) s n) (λ x. over_closed row))
    over-new row (k.raw z) n =
        over-bind (over-room row (n * width_of z)) (λ s. over-bind over-byte (λ b. over-bind (over-bind (over-flagged row (k.fixed b))
        (λ x. over-filled _ (λ left. over-grown row z s left) s s.size)) (λ x. over_closed row)))
    over-new row k.objects n =
        over-bind over-byte (λ b. over-bind (over-bind (over-flagged row (k.fixed b)) (λ x. over_plain)) (λ s. over-bind (over-starred s)
        (λ star. over-bind (over-bind (over_type row star s) (λ x. over-entries _ (λ done. h no_key) row col_count n 0 (omega arith))) (λ x. over_closed row))))
    over-new row k.dictionary n =
        over-bind over-byte (λ b. over-bind (over-bind (over-flagged row (k.weak b))
        (λ x. over-entries _ (over-couple row) row col_count n 0 (omega arith))) (λ x. over_closed row))

    over_sized : (row : ℕ) (body : Body) (z : Size) → Over w (r.sized_of v row body z)
    unfolding r.sized_of
    over_sized row body (Old i) = over-referred row i
    over_sized row body (New n) = over-bind (over-entered row) (λ x. over-new row body n)

    over-marked : (row : ℕ) (z : Kind) → Over w (r.marked v row z)
    unfolding r.marked
    over-marked row k.leaf = over-ret
    over-marked row k.integer = over-bind (over-u29 3 0) (λ z. over-integer row z)
    over-marked row k.double = over-bind (over-number 7 0) (λ bits. over-numbered row bits)
    over-marked row k.string =
        over-bind (over-text _ (λ s. over-bodied row s)) (λ s. over-bind (over-bodied row s) (λ x. over_closed row))
    over-marked row k.object = over-bind (over-u29 3 0) (λ z. over-object row (shape_of z))
    over-marked row (k.sized body) = over-bind (over-u29 3 0) (λ z. over_sized row body (size_of z))

  pub over-value : (left : ℕ) (key : Key) → Over w (r.value left key)
  unfolding r.value
  over-value zero key = over-bind over-byte (λ b. over-bind (over-marker key zero b) (λ x. over-lost))
  over-value (suc left) key =
      over-bind over-byte (λ b. over-bind (over-marker key (suc left) b) (λ row. over-marked (r.value left) (over-value left) row (kind_of b)))

-- ---- a message

zeros-more : (n : ℕ) (l : List ℕ) → zeros (more n l) ≡ more n (zeros l)
zeros-more n l = ap (λ z. replicate z 0) (more-length n l) ∙ sym (replicate-append-replicate (length l) n 0)

zeros-long : (l l' : List ℕ) → length l ≤ length l' → zeros l' ≡ more (length l' - length l) (zeros l)
zeros-long l l' h = let e : length l' ≡ length l + (length l' - length l) = omega arith in ap (λ z. replicate z 0) e ∙ sym (replicate-append-replicate (length l) (length l' - length l) 0)

zeroed-wider : (w : Longer) (m : Memory) → zeroed (wider w m) ≡ wider w (zeroed m)
unfolding zeroed
zeroed-wider w m =
    rw (
      zeros-more w.rows m.rows,
      zeros-more w.store m.store,
      zeros-more w.strings m.strings,
      zeros-more w.objects m.objects,
      zeros-more w.traits m.traits,
      zeros-more w.names m.names,
    )

zeroed-long : (m m' : Memory) → NoShorter m m' → zeroed m' ≡ wider (beyond m m') (zeroed m)
unfolding zeroed
zeroed-long m m' h =
    rw (
      zeros-long m.rows m'.rows h.rows,
      zeros-long m.store m'.store h.store,
      zeros-long m.strings m'.strings h.strings,
      zeros-long m.objects m'.objects h.objects,
      zeros-long m.traits m'.traits h.traits,
      zeros-long m.names m'.names h.names,
    )

-- how the two end
data Ends (w : Longer) : Ended → Ended → Type 0 where
  level : {e : Ended} → Ends w e (widened w e)
  cramped : {n t p : ℕ} {m : Memory} {e : Ended} → Tight w n t → Ends w (refused n t p m) e

ended-wider : (w : Longer) {x y : Result Unit} → Wider w x y → Ends w (ended x) (ended y)
unfolding ended
ended-wider w (fine {m = m} {c = c}) = level {e = finished c m}
ended-wider w (same {n = n} {t = t} {p = p} {m = m}) = rw (zeroed-wider w m) (level {e = refused n t p (zeroed m)})
ended-wider w (short e) = cramped e

-- with longer loans
module _ (m m' : Memory) (bs : List ℕ) (octets : Bytes bs) (fault : fault_of m ≡ 0) (fault' : fault_of m' ≡ 0) (longer : NoShorter m m') where
  -- how the two readings end
  room-ends : Ends (beyond m m') (reading m bs) (reading m' bs)
  unfolding reading
  room-ends =
      rw (fault', zeroed-long m m' longer) (rw fault (ended-wider (beyond m m') ((over-value open_limit no_key).over (zeroed m) fresh bs)))

  -- what isn't refused with 10 reads the same: number, told value and place, or the cursor; and the loans have the same with zeros behind
  pub more_room : Roomy (reading m bs) → reading m' bs ≡ widened (beyond m m') (reading m bs)
  more_room roomy = met room-ends (never-lost m bs octets) roomy
    where
      met : {d e : Ended} → Ends (beyond m m') d e → ((n told place : ℕ) (m₁ : Memory) → d ≡ refused n told place m₁ → n ≢ refusals.lost) → Roomy d
          → e ≡ widened (beyond m m') d
      met level l q = refl
      met (cramped {p = p} {m = m₁} strays) l q = absurd (l refusals.lost 0 p m₁ refl refl)
      met (cramped {t = t} {p = p} {m = m₁} (lacks g)) l q = absurd (q t p m₁ refl)

  -- 10 tells the loan that lacks room: while that one isn't longer, longer ones of the others change nothing
  pub same-room : (loan place : ℕ) (m₁ : Memory) → reading m bs ≡ refused refusals.no_room loan place m₁ → extra (beyond m m') loan ≡ 0
      → reading m' bs ≡ widened (beyond m m') (reading m bs)
  same-room loan place m₁ e z = met room-ends e
    where
      met : {d e : Ended} → Ends (beyond m m') d e → d ≡ refused refusals.no_room loan place m₁ → e ≡ widened (beyond m m') d
      met level q = refl
      met (cramped strays) q = clash cc
      met (cramped {t = t} (lacks g)) q = let i : t ≡ loan = cc in let j : 0 < extra (beyond m m') loan = rw i at g in absurd (omega arith)

-- ---- the used parts

-- it lies in the loans
pub record Lies (c : Cursor) (m : Memory) : Type 0 where
  pub rows : c.rows * row_width ≤ length m.rows
  pub store : c.store ≤ length m.store
  pub strings : c.strings * span_width ≤ length m.strings
  pub objects : c.objects ≤ length m.objects
  pub traits : c.traits * trait_width ≤ length m.traits
  pub names : c.names * span_width ≤ length m.names

pub used-wider : (w : Longer) (c : Cursor) (m : Memory) → Lies c m → used c (wider w m) ≡ used c m
used-wider w c m h =
    rw (
      take-append-le (c.rows * row_width) m.rows (replicate w.rows 0) h.rows,
      take-append-le c.store m.store (replicate w.store 0) h.store,
      take-append-le (c.strings * span_width) m.strings (replicate w.strings 0) h.strings,
      take-append-le c.objects m.objects (replicate w.objects 0) h.objects,
      take-append-le (c.traits * trait_width) m.traits (replicate w.traits 0) h.traits,
      take-append-le (c.names * span_width) m.names (replicate w.names 0) h.names,
    )

lies : {c : Cursor} {m : Memory} {s : Tables} → Sim c.store m c s → Lies c m
lies x =
    record {
      rows = x.rows_in;
      store = x.store_in;
      strings = x.strings.fits;
      objects = x.objects.fits;
      traits = x.kinds.fits;
      names = x.names_in;
    }

pub finished-lies : (m : Memory) (bs : List ℕ) → Bytes bs → fault_of m ≡ 0 → (c : Cursor) (m₁ : Memory) → reading m bs ≡ finished c m₁ → Lies c m₁
unfolding reading ended
finished-lies m bs b f c m₁ e = met (read_alike (zeroed m) bs b) (rw f at e)
  where
    met : {x : Result Unit} {y : ResultOf Tables ℕ Tree} → Agree bs (Val (zeroed m) fresh no_key) x y → ended x ≡ finished c m₁ → Lies c m₁
    met (alike.fine {m = m₂} {c = c₂} l v) q =
        let g : c₂ ≡ c = cc in
        let h : m₂ ≡ m₁ = cc in
        let s = v.sim in
        rw (g, h) at (lies s)
    met (alike.both i j) q = clash cc
    met (alike.ours i j) q = clash cc

-- a reading that finished finishes with longer loans, with the same cursor and the same used parts
pub finished-room : (m m' : Memory) (bs : List ℕ) → Bytes bs → fault_of m ≡ 0 → fault_of m' ≡ 0 → NoShorter m m' → (c : Cursor) (m₁ : Memory)
    → reading m bs ≡ finished c m₁ → (m₂ : Memory) × (reading m' bs ≡ finished c m₂) × (used c m₂ ≡ used c m₁)
finished-room m m' bs b f f' h c m₁ e = (
  wider (beyond m m') m₁,
  more_room m m' bs b f f' h (λ told place m₂ q. clash cc) ∙ ap (widened (beyond m m')) e,
  used-wider (beyond m m') c m₁ (finished-lies m bs b f c m₁ e),
)
