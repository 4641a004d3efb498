-- The decisions of a reading, and its readers of numbers and texts, with the room that each takes.
use mathlib.Core.Path.{◌≡◌, refl}
use mathlib.Core.Bool.{Bool, true, false, cond, not}
use mathlib.Core.List.{List, [], ◌∷◌}
use Prim.Native.Nat.{ℕ, suc, ◌+◌, ◌*◌, ◌-◌, ◌/◌}
use native.Mathlib.Omega.{arith}
use borrow.Author.Tests.{lt-leb, le-ltb}
use lib.Dec.{leb, ltb, eqb, eqb-suc-zero}
use lib.ListN.{length, get_or, set, length-set}
use lib.Seq.{sets, length-sets}
use Rattle.rows.specs.declared.Cursor.{Cursor}
use Rattle.rows.specs.declared.Span.{Span}
use Rattle.rows.specs.declared.Key.{Key}
use Rattle.rows.specs.declared.Trait.{Trait}
use Rattle.rows.specs.Memory.{Memory, memory, row_width, span_width, trait_width, col_end, row_used, put}
use Rattle.rows.specs.Memory.{col_number, col_body_begin, col_body_size, col_class_mark, col_flag, col_count, no_span, key_of, span_at, span_used}
use Rattle.wire.specs.Date.{refused_date}
use Rattle.wire.specs.Sign.{integer_of, column_of}
use Rattle.format.specs.Decide.{Out, give, refuse, lost, lift, looking, on_rows, on_store, on_strings, on_objects, on_traits, on_names, in_row}
use Rattle.format.specs.Refusals.{bad_date}
use Rattle.format.specs.Decide.{Width, width_of, refuse, marker, new_row, closed, numbered, integer_end, date_end, bodied, classed, object_class}
use Rattle.format.specs.Decide.{vector_class, flagged, counted, key_end, grown, class_of, rows_to, store_to, strings_to, objects_to, traits_to, names_to}
use Rattle.format.specs.Decide.{reserved, stored, judged, text_end, entered, named, trait_end, trait_holds, sealed_key, starred}
use Rattle.format.specs.Reading.{by}
use Rattle.format.specs.Holds.{room, nothing, a_row}
use Rattle.format.proofs.Memories.{numbers}
use Rattle.meaning.proofs.Holds.{Any, Goes, Decides, Spent, Costs, costless, costs, costs-cond, costs-lift, spent_none, goes_by, in-row}

-- ---- decisions on a row

-- one that uses nothing more
ruleset costing = (costs-cond, costs-lift, costless, costs, spent_none, tt)

on-rows : (d : List ℕ → Cursor → Out (List ℕ) Unit)
    → ((m : Memory) (c : Cursor) → Decides Any nothing m c (on_rows d m c)) → ((R : List ℕ) (c : Cursor) → Costs Any nothing c (d R c))
    → Goes Any (by (on_rows d)) [] nothing
on-rows d h k = goes_by Any nothing (on_rows d) (λ m c e. h m c) (λ m c. costs-lift _ (d m.rows c) (k m.rows c))

module _ (row : ℕ) where
  pub goes-closed : Goes Any (by (on_rows (closed row))) [] nothing
  unfolding closed
  goes-closed = on-rows (closed row) (λ m c. in-row row (λ R. put R row col_end c.rows) (λ R. length-set R (row * row_width + col_end) c.rows) m c)
      (λ R c. search costing)

  numbered-row : (n : ℕ) (m : Memory) (c : Cursor) → Decides Any nothing m c (on_rows (numbered row n) m c)
  unfolding numbered
  numbered-row n m c = in-row row (λ R. put (put R row col_number n) row col_end c.rows) (λ R. simp length-set) m c

  numbered-costs : (n : ℕ) (R : List ℕ) (c : Cursor) → Costs Any nothing c (numbered row n R c)
  unfolding numbered
  numbered-costs n R c = search costing

  pub goes-numbered : (n : ℕ) → Goes Any (by (on_rows (numbered row n))) [] nothing
  goes-numbered n = on-rows (numbered row n) (numbered-row n) (numbered-costs n)

  pub goes-integer : (w : ℕ) → Goes Any (by (on_rows (integer_end row w))) [] nothing
  unfolding integer_end
  goes-integer w = goes-numbered (column_of (integer_of w))

  pub goes-date : (bits : ℕ) → Goes Any (by (on_rows (date_end row bits))) [] nothing
  unfolding date_end
  goes-date bits = on-rows (date_end row bits) (λ m c. used m c (row_used m.rows c row) (refused_date bits)) (λ R c. search (costing, numbered-costs bits R c))
    where
      used : (m : Memory) (c : Cursor) (t u : Bool) → Decides Any nothing m c
          (lift (λ R. memory R m.store m.strings m.objects m.traits m.names)
          (cond t (cond u (refuse bad_date bits c) (numbered row bits m.rows c)) lost))
      used m c true true = refl
      used m c true false = numbered-row bits m c
      used m c false u = refl

  pub goes-bodied : (s : Span) → Goes Any (by (on_rows (bodied row s))) [] nothing
  unfolding bodied
  goes-bodied s = on-rows (bodied row s) (in-row row (λ R. put (put R row col_body_begin s.begin) row col_body_size s.size) (λ R. simp length-set))
      (λ R c. search costing)

  goes-classed : (mark : ℕ) (s : Span) → Goes Any (by (on_rows (classed row mark s))) [] nothing
  unfolding classed
  goes-classed mark s =
      on-rows (classed row mark s)
      (in-row row (λ R. put (put (put R row col_class_mark mark) row col_body_begin s.begin) row col_body_size s.size) (λ R. simp length-set))
      (λ R c. search costing)

  pub goes-class : (t : Trait) → Goes Any (by (on_rows (object_class row t))) [] nothing
  unfolding object_class
  goes-class t = goes-classed _ (class_of t)

  pub goes_type : (star : Bool) (s : Span) → Goes Any (by (on_rows (vector_class row star s))) [] nothing
  unfolding vector_class
  goes_type true s = goes-classed 0 no_span
  goes_type false s = goes-classed 1 s

  pub goes-flagged : (flag : ℕ) → Goes Any (by (on_rows (flagged row flag))) [] nothing
  unfolding flagged
  goes-flagged flag = on-rows (flagged row flag) (in-row row (λ R. put R row col_flag flag) (λ R. length-set R (row * row_width + col_flag) flag))
      (λ R c. search costing)

  pub goes-counted : (col done : ℕ) → Goes Any (by (on_rows (counted row col done))) [] nothing
  unfolding counted
  goes-counted col done = on-rows (counted row col done) (λ m c. over m c (leb c.rows done)) (λ R c. search costing)
    where
      over : (m : Memory) (c : Cursor) (t : Bool) → Decides Any nothing m c
          (lift (λ R. memory R m.store m.strings m.objects m.traits m.names)
          (cond t lost (in_row row (λ R. put R row col (done + 1)) m.rows c)))
      over m c true = refl
      over m c false = in-row row (λ R. put R row col (done + 1)) (λ R. length-set R (row * row_width + col) (done + 1)) m c

  -- between a key and its value nothing is taken
  pub goes-key-end : (done : ℕ) → Goes Any (by (looking (λ m. key_end row done m.rows))) [] nothing
  unfolding key_end
  goes-key-end done = goes_by Any nothing (looking (λ m. key_end row done m.rows)) (λ m c e. either m c (leb c.rows done) (row_used m.rows c row))
      (λ m c. search costing)
    where
      either : (m : Memory) (c : Cursor) (t u : Bool) → Decides Any nothing m c (lift (λ x. m) (cond t lost (cond u (give (tt {0}) (tt {0}) c) lost)))
      either m c true u = refl
      either m c false true = (tt, λ l x f. omega arith)
      either m c false false = refl

  pub goes-grown : (w : Width) (s : Span) (n : ℕ) → Goes Any (by (on_rows (grown row w s n))) [] nothing
  unfolding grown
  goes-grown w s n =
      on-rows (grown row w s n)
      (in-row row (λ R. put R row col_count ((s.size - n) / width_of w)) (λ R. length-set R (row * row_width + col_count) ((s.size - n) / width_of w)))
      (λ R c. search costing)

-- one more of a loan, or n bytes of the store
module _ {c : Cursor} where
  spent_row : Spent a_row c (rows_to c (c.rows + 1))
  spent_row = omega arith

  spent_store : {n : ℕ} → Spent (room 0 n 0 0 0 0) c (store_to c (c.store + n))
  spent_store = omega arith

  spent_string : Spent (room 0 0 1 0 0 0) c (strings_to c (c.strings + 1))
  spent_string = omega arith

  spent_object : Spent (room 0 0 0 1 0 0) c (objects_to c (c.objects + 1))
  spent_object = omega arith

  spent_trait : Spent (room 0 0 0 0 1 0) c (traits_to c (c.traits + 1))
  spent_trait = omega arith

  spent_name : Spent (room 0 0 0 0 0 1) c (names_to c (c.names + 1))
  spent_name = omega arith

-- a marker, where a value may open
pub goes-marker : (k : Key) (left b : ℕ) → Goes Any (by (on_rows (marker k (suc left) b))) [] a_row
unfolding marker
goes-marker k left b =
    goes_by Any a_row (on_rows (marker k (suc left) b)) (λ m c e.
    rw (le-ltb (length m.rows / row_width) c.rows (omega arith), eqb-suc-zero left, lt-leb (length m.rows / row_width) c.rows (omega arith))
    (known m c (ltb 0x11 b))) (λ m c. search (costing, spent_row) depth 8)
  where
    known : (m : Memory) (c : Cursor) (t : Bool) → Decides Any a_row m c
        (lift (λ R. memory R m.store m.strings m.objects m.traits m.names)
        (cond t (refuse 3 b c) (give c.rows (sets m.rows (c.rows * row_width) (new_row b k c.rows)) (rows_to c (c.rows + 1)))))
    known m c true = refl
    known m c false = (tt, λ l x f. omega (arith, length-sets m.rows (c.rows * row_width) (new_row b k c.rows)))

-- ---- decisions on the store and the tables

pub goes-reserved : (n : ℕ) → Goes (λ (s : Span). s.size ≡ n) (by (looking (λ m. reserved n m.store))) [] (room 0 n 0 0 0 0)
unfolding reserved
goes-reserved n =
    goes_by (λ (s : Span). s.size ≡ n) (room 0 n 0 0 0 0) (looking (λ m. reserved n m.store)) (λ m c e.
    rw (le-ltb (length m.store) c.store (omega arith), le-ltb (length m.store) (c.store + n) (omega arith)) (refl, λ l x f. omega arith))
    (λ m c. search (costing, spent_store) depth 8)

pub goes-stored : (s : Span) (n b : ℕ) → Goes Any (by (on_store (stored s n b))) [] nothing
unfolding stored
goes-stored s n b =
    goes_by Any nothing (on_store (stored s n b)) (λ m c e.
    rw (le-ltb (length m.store) c.store (omega arith)) (either m c (leb s.size n) (span_used c s)))
    (λ m c. search costing depth 8)
  where
    either : (m : Memory) (c : Cursor) (t u : Bool) → Decides Any nothing m c
        (lift (λ B. memory m.rows B m.strings m.objects m.traits m.names)
        (cond t lost (cond u (give (tt {0}) (set m.store (s.begin + (s.size - (n + 1))) b) c) lost)))
    either m c true u = refl
    either m c false true = (tt, λ l x f. omega (arith, length-set m.store (s.begin + (s.size - (n + 1))) b))
    either m c false false = refl

pub goes-judged : (valid : Bool) → Goes Any (by (looking (λ m. judged valid))) [] nothing
unfolding judged
goes-judged true = goes_by Any nothing (looking (λ m. judged true)) (λ m c e. (tt, λ l x f. omega arith)) (λ m c. search costing)
goes-judged false = goes_by Any nothing (looking (λ m. judged false)) (λ m c e. refl) (λ m c. costless)

pub goes-text-end : (s : Span) (valid : Bool) (n : ℕ) → s.size ≡ n
    → Goes (λ (x : Span). x.size ≡ n) (by (on_strings (text_end s valid))) [] (room 0 0 1 0 0 0)
unfolding text_end
goes-text-end s valid n p =
    goes_by (λ (x : Span). x.size ≡ n) (room 0 0 1 0 0 0) (on_strings (text_end s valid)) (λ m c e.
    rw (le-ltb (length m.strings / span_width) c.strings (omega arith), lt-leb (length m.strings / span_width) c.strings (omega arith))
    (either m c valid)) (λ m c. search (costing, spent_string, p) depth 8)
  where
    either : (m : Memory) (c : Cursor) (t : Bool) → Decides (λ (x : Span). x.size ≡ n) (room 0 0 1 0 0 0) m c
        (lift (λ T. memory m.rows m.store T m.objects m.traits m.names)
        (cond t (give s (sets m.strings (c.strings * span_width) (s.begin ∷ s.size ∷ [])) (strings_to c (c.strings + 1))) (refuse 8 0 c)))
    either m c true = (p, λ l x f. omega (arith, length-sets m.strings (c.strings * span_width) (s.begin ∷ s.size ∷ [])))
    either m c false = refl

pub goes-entered : (row : ℕ) → Goes Any (by (on_objects (entered row))) [] (room 0 0 0 1 0 0)
unfolding entered
goes-entered row =
    goes_by Any (room 0 0 0 1 0 0) (on_objects (entered row)) (λ m c e.
    rw (le-ltb (length m.objects) c.objects (omega arith), lt-leb (length m.objects) c.objects (omega arith)) (either m c (leb c.rows row)))
    (λ m c. search (costing, spent_object) depth 8)
  where
    either : (m : Memory) (c : Cursor) (t : Bool) → Decides Any (room 0 0 0 1 0 0) m c
        (lift (λ O. memory m.rows m.store m.strings O m.traits m.names)
        (cond t lost (give (tt {0}) (set m.objects c.objects row) (objects_to c (c.objects + 1)))))
    either m c true = refl
    either m c false = (tt, λ l x f. omega (arith, length-set m.objects c.objects row))

pub goes-named : (s : Span) → Goes Any (by (on_names (named s))) [] (room 0 0 0 0 0 1)
unfolding named
goes-named s =
    goes_by Any (room 0 0 0 0 0 1) (on_names (named s)) (λ m c e.
    rw (le-ltb (length m.names / span_width) c.names (omega arith), lt-leb (length m.names / span_width) c.names (omega arith))
    (tt, λ l x f. omega (arith, length-sets m.names (c.names * span_width) (s.begin ∷ s.size ∷ [])))) (λ m c. search (costing, spent_name) depth 8)

pub goes_trait : (t : Trait) → Goes Any (by (on_traits (trait_end t))) [] (room 0 0 0 0 1 0)
unfolding trait_end
goes_trait t =
    goes_by Any (room 0 0 0 0 1 0) (on_traits (trait_end t)) (λ m c e.
    rw (le-ltb (length m.traits / trait_width) c.traits (omega arith), lt-leb (length m.traits / trait_width) c.traits (omega arith))
    (either m c (trait_holds c t))) (λ m c. search (costing, spent_trait) depth 8)
  where
    either : (m : Memory) (c : Cursor) (u : Bool) → Decides Any (room 0 0 0 0 1 0) m c
        (lift (λ U. memory m.rows m.store m.strings m.objects U m.names)
        (cond (not u) lost
        (give (tt {0}) (sets m.traits (c.traits * trait_width) (numbers t))
        (traits_to c (c.traits + 1)))))
    either m c true =
        (tt, λ l x f. omega (arith, length-sets m.traits (c.traits * trait_width) (numbers t)))
    either m c false = refl

pub goes-sealed-key : (i : ℕ) → Goes Any (by (looking (λ m. sealed_key i m.names))) [] nothing
unfolding sealed_key
goes-sealed-key i =
    goes_by Any nothing (looking (λ m. sealed_key i m.names)) (λ m c e.
    either m c (ltb (length m.names / span_width) c.names) (leb c.names i) (span_used c (span_at m.names i))) (λ m c. search costing depth 8)
  where
    either : (m : Memory) (c : Cursor) (t u v : Bool) → Decides Any nothing m c
        (lift (λ x. m) (cond t lost (cond u lost (cond v (give (key_of (span_at m.names i)) (tt {0}) c) lost))))
    either m c true u v = refl
    either m c false true v = refl
    either m c false false true = (tt, λ l x f. omega arith)
    either m c false false false = refl

pub goes-starred : (s : Span) → Goes Any (by (looking (λ m. starred s m.store))) [] nothing
unfolding starred
goes-starred s =
    goes_by Any nothing (looking (λ m. starred s m.store)) (λ m c e.
    either m c (eqb s.size 1) (ltb (length m.store) c.store) (span_used c s)) (λ m c. search costing depth 8)
  where
    either : (m : Memory) (c : Cursor) (t u v : Bool) → Decides Any nothing m c
        (lift (λ x. m) (cond t (cond u lost (cond v (give (eqb (get_or m.store s.begin 0) 0x2A) (tt {0}) c) lost)) (give false (tt {0}) c)))
    either m c true true v = refl
    either m c true false true = (tt, λ l x f. omega arith)
    either m c true false false = refl
    either m c false u v = (tt, λ l x f. omega arith)
