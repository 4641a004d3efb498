-- Every decision of a reading: what one byte, with those before it, makes of the loans. Reading and Step only say which comes next.
-- A decision is a column of refusals in the order in which they come, and then what it gives. It writes at most one loan. Comments name its refusals, 10/n for loan n.
use Rattle.std.specs.Prelude.{Bool, false, cond, not, ◌&&◌, List, [], ◌∷◌, ℕ, ◌+◌, ◌*◌, ◌-◌, ◌/◌, leb, ltb, eqb, length, get_or, set}
use Rattle.std.proofs.lemmas.List.Edits.{sets}
use Rattle.rows.specs.declared.Cursor.{Cursor}
use Rattle.rows.specs.declared.Span.{Span}
use Rattle.rows.specs.declared.Key.{Key}
use Rattle.rows.specs.declared.Trait.{Trait}
use Rattle.rows.specs.Memory.{Memory, memory, cursor, row_width, span_width, trait_width, col_kind, col_body_begin, col_body_size, col_class_mark}
use Rattle.rows.specs.Memory.{col_flag, col_number, col_count, col_end, col, put, row_used, span, no_span, key_of, span_at, span_used}
use Rattle.rows.specs.Kinds.{kind_reference}
use Rattle.wire.specs.Sign.{integer_of, column_of}
use Rattle.wire.specs.Date.{refused_date}
use Rattle.format.specs.Refusals as no
use Rattle.rows.specs.Memory.{loan_rows, loan_store, loan_strings, loan_objects, loan_traits, loan_names}
pub use Rattle.format.specs.Bodies.{Width, four, eight, width_of, Body, xml, date, array, bytes, raw, objects, dictionary}
pub use Rattle.format.specs.Bodies.{Kind, leaf, integer, double, string, object, sized}

-- refused: number, told value and place; or a result, the loans that it wrote, and the cursor
pub data Out (S A : Type 0) : Type 0 where
  stop : ℕ → ℕ → ℕ → Out S A
  give : A → S → Cursor → Out S A

-- a refusal at the byte taken last
abbrev pub refuse : {S A : Type 0} → ℕ → ℕ → Cursor → Out S A
refuse number told c = stop number told c.at

-- the state doesn't hold together
abbrev pub lost : {S A : Type 0} → Out S A
lost = stop no.lost 0 0

-- ---- the cursor with one count changed

abbrev pub rows_to : Cursor → ℕ → Cursor
rows_to c n = cursor c.at n c.store c.strings c.objects c.traits c.names

abbrev pub store_to : Cursor → ℕ → Cursor
store_to c n = cursor c.at c.rows n c.strings c.objects c.traits c.names

abbrev pub strings_to : Cursor → ℕ → Cursor
strings_to c n = cursor c.at c.rows c.store n c.objects c.traits c.names

abbrev pub objects_to : Cursor → ℕ → Cursor
objects_to c n = cursor c.at c.rows c.store c.strings n c.traits c.names

abbrev pub traits_to : Cursor → ℕ → Cursor
traits_to c n = cursor c.at c.rows c.store c.strings c.objects n c.names

abbrev pub names_to : Cursor → ℕ → Cursor
names_to c n = cursor c.at c.rows c.store c.strings c.objects c.traits n

-- ---- markers

-- what follows each of them, from undefined to dictionary
unfoldable pub kind_of : ℕ → Kind
kind_of b =
    get_or (leaf ∷ leaf ∷ leaf ∷ leaf ∷ integer ∷ double ∷ string ∷ sized xml ∷ sized date ∷ sized array ∷ object ∷ sized xml ∷ sized bytes
    ∷ sized (raw four) ∷ sized (raw four) ∷ sized (raw eight) ∷ sized objects ∷ sized dictionary ∷ []) b leaf

-- the row of a new value; undefined, null, false and true end with their marker
unfoldable pub new_row : ℕ → Key → ℕ → List ℕ
new_row b k row =
    cond (ltb b 3) (b + 1) b ∷ k.mark ∷ k.begin ∷ k.size ∷ 0 ∷ 0 ∷ 0 ∷ 0 ∷ cond (eqb b 3) 1 0 ∷ 0 ∷ 0 ∷ cond (ltb b 4) (row + 1) 0 ∷ []

-- a marker where so many values may still open: its row's number (12; 3, 9, 10/1)
unfoldable pub marker : Key → ℕ → ℕ → List ℕ → Cursor → Out (List ℕ) ℕ
marker k left b R c =
    cond (ltb (length R / row_width) c.rows) lost
    (cond (ltb 0x11 b) (refuse no.bad_marker b c)
    (cond (eqb left 0) (refuse no.too_deep 0 c)
    (cond (leb (length R / row_width) c.rows) (refuse no.no_room loan_rows c)
    (give c.rows (sets R (c.rows * row_width) (new_row b k c.rows)) (rows_to c (c.rows + 1))))))

-- ---- a row goes on

-- a row is changed, if it is used (else 12)
abbrev pub in_row : ℕ → (List ℕ → List ℕ) → List ℕ → Cursor → Out (List ℕ) Unit
in_row row f R c = cond (row_used R c row) (give tt (f R) c) lost

-- it ends where the rows now end
unfoldable pub closed : ℕ → List ℕ → Cursor → Out (List ℕ) Unit
closed row R c = in_row row (λ R. put R row col_end c.rows) R c

-- its number is there, and it ends
unfoldable pub numbered : ℕ → ℕ → List ℕ → Cursor → Out (List ℕ) Unit
numbered row n R c = in_row row (λ R. put (put R row col_number n) row col_end c.rows) R c

unfoldable pub integer_end : ℕ → ℕ → List ℕ → Cursor → Out (List ℕ) Unit
integer_end row w = numbered row (column_of (integer_of w))

-- a date's eight bytes (12; 7)
unfoldable pub date_end : ℕ → ℕ → List ℕ → Cursor → Out (List ℕ) Unit
date_end row bits R c = cond (row_used R c row) (cond (refused_date bits) (refuse no.bad_date bits c) (numbered row bits R c)) lost

unfoldable pub bodied : ℕ → Span → List ℕ → Cursor → Out (List ℕ) Unit
bodied row s R c = in_row row (λ R. put (put R row col_body_begin s.begin) row col_body_size s.size) R c

-- a trait's class
abbrev pub class_of : Trait → Span
class_of t = span t.begin t.size

-- a class, or mark 0 and no span
unfoldable pub classed : ℕ → ℕ → Span → List ℕ → Cursor → Out (List ℕ) Unit
classed row mark s R c = in_row row (λ R. put (put (put R row col_class_mark mark) row col_body_begin s.begin) row col_body_size s.size) R c

-- an object's class: an empty one is none
unfoldable pub object_class : ℕ → Trait → List ℕ → Cursor → Out (List ℕ) Unit
object_class row t = classed row (cond (eqb t.size 0) 0 1) (class_of t)

-- a vector's class: `*` is none
unfoldable pub vector_class : ℕ → Bool → Span → List ℕ → Cursor → Out (List ℕ) Unit
vector_class row star s = cond star (classed row 0 no_span) (classed row 1 s)

-- flag bytes: fixed is any but 0, weak only 1
abbrev pub fixed : ℕ → ℕ
fixed b = cond (eqb b 0) 0 1

abbrev pub weak : ℕ → ℕ
weak b = cond (eqb b 1) 1 0

unfoldable pub flagged : ℕ → ℕ → List ℕ → Cursor → Out (List ℕ) Unit
flagged row flag R c = in_row row (λ R. put R row col_flag flag) R c

-- an entry is finished, after `done` others, each of which has a row of its own (12)
unfoldable pub counted : ℕ → ℕ → ℕ → List ℕ → Cursor → Out (List ℕ) Unit
counted row column done R c = cond (leb c.rows done) lost (in_row row (λ R. put R row column (done + 1)) R c)

-- a dictionary's key is finished, after `done` pairs; its value is next (12)
unfoldable pub key_end : ℕ → ℕ → List ℕ → Cursor → Out Unit Unit
key_end row done R c = cond (leb c.rows done) lost (cond (row_used R c row) (give tt tt c) lost)

-- n bytes of a raw vector are still to come
unfoldable pub grown : ℕ → Width → Span → ℕ → List ℕ → Cursor → Out (List ℕ) Unit
grown row w s n R c = in_row row (λ R. put R row col_count ((s.size - n) / width_of w)) R c

-- ---- texts and bytes

-- text i of the strings (12; 4; 12 of its span)
unfoldable pub old_text : ℕ → List ℕ → Cursor → Out Unit Span
old_text i T c =
    cond (ltb (length T / span_width) c.strings) lost
    (cond (leb c.strings i) (refuse no.no_entry i c)
    (cond (span_used c (span_at T i)) (give (span_at T i) tt c) lost))

-- room for n bytes is reserved before they come (12; 10/2)
unfoldable pub reserved : ℕ → List ℕ → Cursor → Out Unit Span
reserved n B c =
    cond (ltb (length B) c.store) lost
    (cond (ltb (length B) (c.store + n)) (refuse no.no_room loan_store c)
    (give (span c.store n) tt (store_to c (c.store + n))))

-- a byte of a span, n more to come after it (12)
unfoldable pub stored : Span → ℕ → ℕ → List ℕ → Cursor → Out (List ℕ) Unit
stored s n b B c =
    cond (ltb (length B) c.store) lost
    (cond (leb s.size n) lost
    (cond (span_used c s) (give tt (set B (s.begin + (s.size - (n + 1))) b) c) lost))

-- a text's last byte: the verdict on it (8)
unfoldable pub judged : Bool → Cursor → Out Unit Unit
judged valid c = cond valid (give tt tt c) (refuse no.bad_text 0 c)

-- a span more in a table of spans, which is loan n, of which so many are used
abbrev pub pushed : ℕ → ℕ → Span → List ℕ → Cursor → (Cursor → ℕ → Cursor) → Out (List ℕ) Span
pushed n used s T c to =
    cond (leb (length T / span_width) used) (refuse no.no_room n c) (give s (sets T (used * span_width) (s.begin ∷ s.size ∷ [])) (to c (used + 1)))

-- a text's last byte, where it enters the strings (12; 8, 10/3)
unfoldable pub text_end : Span → Bool → List ℕ → Cursor → Out (List ℕ) Span
text_end s valid T c =
    cond (ltb (length T / span_width) c.strings) lost
    (cond valid (pushed loan_strings c.strings s T c strings_to) (refuse no.bad_text 0 c))

-- ---- objects

-- row enters the objects (12; 10/4)
unfoldable pub entered : ℕ → List ℕ → Cursor → Out (List ℕ) Unit
entered row O c =
    cond (leb c.rows row) lost
    (cond (ltb (length O) c.objects) lost
    (cond (leb (length O) c.objects) (refuse no.no_room loan_objects c)
    (give tt (set O c.objects row) (objects_to c (c.objects + 1)))))

-- row becomes a reference to object i (12; 4; 12 of its row; 5)
unfoldable pub referred : ℕ → ℕ → List ℕ → List ℕ → Cursor → Out (List ℕ) Unit
referred row i O R c =
    cond (ltb (length O) c.objects) lost
    (cond (leb c.objects i) (refuse no.no_entry i c)
    (cond (not (row_used R c (get_or O i 0))) lost
    (cond (ltb c.rows (col R (get_or O i 0) col_end)) lost
    (cond (eqb (col R (get_or O i 0) col_end) 0) (refuse no.open_object i c)
    (in_row row (λ R. put (put (put R row col_kind kind_reference) row col_number (get_or O i 0)) row col_end c.rows) R c)))))

-- ---- traits

abbrev pub trait_at : List ℕ → ℕ → Trait
trait_at U i =
    record {
      begin = get_or U (i * trait_width) 0;
      size = get_or U (i * trait_width + 1) 0;
      dynamic = get_or U (i * trait_width + 2) 0;
      first = get_or U (i * trait_width + 3) 0;
      count = get_or U (i * trait_width + 4) 0;
    }

-- its class and its names are used
unfoldable pub trait_holds : Cursor → Trait → Bool
trait_holds c t = span_used c (class_of t) && leb (t.first + t.count) c.names

-- trait i (12; 4; 12 of what it says)
unfoldable pub old_trait : ℕ → List ℕ → Cursor → Out Unit Trait
old_trait i U c =
    cond (ltb (length U / trait_width) c.traits) lost
    (cond (leb c.traits i) (refuse no.no_entry i c)
    (cond (trait_holds c (trait_at U i)) (give (trait_at U i) tt c) lost))

-- a new trait of n names whose class is whole; one with no names has first name 0
abbrev pub trait_of : Span → ℕ → ℕ → Cursor → Trait
trait_of s n dynamic c = record { begin = s.begin; size = s.size; dynamic = dynamic; first = cond (eqb n 0) 0 c.names; count = n }

-- a field name's span, as it is read (12; 10/6)
unfoldable pub named : Span → List ℕ → Cursor → Out (List ℕ) Span
named s N c = cond (ltb (length N / span_width) c.names) lost (pushed loan_names c.names s N c names_to)

-- a trait is entered after its last name (12; 10/5)
unfoldable pub trait_end : Trait → List ℕ → Cursor → Out (List ℕ) Unit
trait_end t U c =
    cond (ltb (length U / trait_width) c.traits) lost
    (cond (not (trait_holds c t)) lost
    (cond (leb (length U / trait_width) c.traits) (refuse no.no_room loan_traits c)
    (give tt (sets U (c.traits * trait_width) (t.begin ∷ t.size ∷ t.dynamic ∷ t.first ∷ t.count ∷ [])) (traits_to c (c.traits + 1)))))

-- the key of a sealed member: a name of its trait (12)
unfoldable pub sealed_key : ℕ → List ℕ → Cursor → Out Unit Key
sealed_key i N c =
    cond (ltb (length N / span_width) c.names) lost
    (cond (leb c.names i) lost
    (cond (span_used c (span_at N i)) (give (key_of (span_at N i)) tt c) lost))

-- whether a vector's class is `*` (12)
unfoldable pub starred : Span → List ℕ → Cursor → Out Unit Bool
starred s B c =
    cond (eqb s.size 1)
    (cond (ltb (length B) c.store) lost
    (cond (span_used c s) (give (eqb (get_or B s.begin 0) 0x2A) tt c) lost))
    (give false tt c)

-- ---- a decision on the loans that it touches, as one on the memory

abbrev pub lift : {S A : Type 0} → (S → Memory) → Out S A → Out Memory A
lift f (stop n t p) = stop n t p
lift f (give a s c) = give a (f s) c

abbrev pub Decision : Type 0 → Type 0
Decision A = Memory → Cursor → Out Memory A

-- one that only reads
abbrev pub looking : {A : Type 0} → (Memory → Cursor → Out Unit A) → Decision A
looking f m c = lift (λ x. m) (f m c)

abbrev pub on_rows : {A : Type 0} → (List ℕ → Cursor → Out (List ℕ) A) → Decision A
on_rows f m c = lift (λ R. memory R m.store m.strings m.objects m.traits m.names) (f m.rows c)

abbrev pub on_store : {A : Type 0} → (List ℕ → Cursor → Out (List ℕ) A) → Decision A
on_store f m c = lift (λ B. memory m.rows B m.strings m.objects m.traits m.names) (f m.store c)

abbrev pub on_strings : {A : Type 0} → (List ℕ → Cursor → Out (List ℕ) A) → Decision A
on_strings f m c = lift (λ T. memory m.rows m.store T m.objects m.traits m.names) (f m.strings c)

abbrev pub on_objects : {A : Type 0} → (List ℕ → Cursor → Out (List ℕ) A) → Decision A
on_objects f m c = lift (λ O. memory m.rows m.store m.strings O m.traits m.names) (f m.objects c)

abbrev pub on_traits : {A : Type 0} → (List ℕ → Cursor → Out (List ℕ) A) → Decision A
on_traits f m c = lift (λ U. memory m.rows m.store m.strings m.objects U m.names) (f m.traits c)

abbrev pub on_names : {A : Type 0} → (List ℕ → Cursor → Out (List ℕ) A) → Decision A
on_names f m c = lift (λ N. memory m.rows m.store m.strings m.objects m.traits N) (f m.names c)
