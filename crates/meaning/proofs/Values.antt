-- A value, whatever its kind: read alike.
use mathlib.Core.Path.{◌≡◌, refl, sym, ◌∙◌}
use mathlib.Core.Bool.{true, false}
use mathlib.Core.List.{List}
use Prim.Native.Nat.{ℕ, zero, suc, ◌+◌, ◌-◌, ◌*◌, ◌/◌, ◌<◌, ◌≤◌}
use native.Mathlib.Omega.{arith}
use native.Mathlib.Decide.{dec_lt}
use borrow.Author.Tests.{lt-ltb, le-ltb, leb-false, ne_eqb}
use lib.Dec.{leb, lit≤, lit<}
use lib.ListN.{length}
use Rattle.rows.specs.declared.Cursor.{Cursor}
use Rattle.rows.specs.declared.Key.{Key}
use Rattle.rows.specs.Memory.{Memory, message_limit}
use Rattle.wire.specs.declared.Size.{Size}
use Rattle.wire.specs.declared.Size.TheVariants.{Old, New}
use Rattle.wire.specs.Word.{size_of, shape_of}
use Rattle.meaning.proofs.Own.{size_is, object-is}
use Rattle.wire.proofs.Octets.{Bytes}
use Rattle.format.specs.Decide.{Body, kind_of, new_row, marker, objects_to}
use Rattle.format.specs.Decide as dec
use Rattle.format.specs.Reading.{Values}
use Rattle.format.specs.Reading as our
use Rattle.format.specs.Standard as std
use Rattle.format.specs.Standard.{Tables, Std, Tree, undefined, null, boolean}
use Rattle.format.proofs.Memories.{at_to, with_rows}
use Rattle.format.proofs.Alike.{Left, Agree, fine, both, ours, byte-then, word-then}
use Rattle.meaning.proofs.Tables.{Sim}
use Rattle.meaning.proofs.Stage.{Val, Stage, stage_at}
use Rattle.meaning.proofs.Texts.{limit}
use Rattle.meaning.proofs.Ends.{NewAlike, opening, rowed, rowed_to, begins, leaf-val, enter-then, refer-alike}
use Rattle.meaning.proofs.Plains.{integer-alike, double-alike, string-alike, date-alike, xml-alike, bytes-alike, raw-alike}
use Rattle.meaning.proofs.Holders.{array-alike, vector-alike, dictionary-alike, object-alike}
use Rattle.rows.specs.Memory.{row_width}
use Rattle.rows.specs.Kinds.{kind_integer, kind_double, kind_string, kind_xml_document, kind_date, kind_array, kind_object, kind_xml, kind_byte_array, kind_int_vector}
use Rattle.rows.specs.Kinds.{kind_uint_vector, kind_double_vector, kind_object_vector, kind_dictionary}

-- one marker, where the values that a value may hold are read alike
module _ (whole : List ℕ) (octets : Bytes whole) (value : Values) (tree : Std Tree) (f : ℕ) (fuel : length whole < f) (low : ℕ)
    (ih : (k : Key) (m : Memory) (c : Cursor) (s : Tables) (bs : List ℕ) → Sim c.store m c s → Left whole c.at bs → low ≤ c.at
    → Agree whole (Val m c k) (value k m c bs) (tree s c.at bs)) (k : Key) (m : Memory) (c : Cursor) (s : Tables) (bs : List ℕ)
    (x : Sim c.store m c s)
    (i : suc c.at ≤ message_limit) (l : Left whole (suc c.at) bs) (w : low ≤ suc c.at) (q : c.rows * row_width + row_width ≤ length m.rows) where
  starts : (b : ℕ) → Stage false m c (opening b k) c.store (rowed m c (opening b k)) (rowed_to c) s
  starts b = begins x i q (opening b k) refl refl

  -- what a new object is followed by
  abbrev News : ℕ → Body → Type 0
  News b body = (n : ℕ) (m₁ : Memory) (c₁ : Cursor) (s₁ : Tables) (bs : List ℕ) → Stage true m c (opening b k) c₁.store m₁ c₁ s₁ → c₁.rows ≡ suc
      c.rows → c.at < c₁.at
      → low ≤ c₁.at → Left whole c₁.at bs
      → NewAlike whole value tree f k m c b body n m₁ c₁ s₁ bs

  -- a value with a size word: a reference, or a new object
  size-alike : (b : ℕ) (body : Body) (z : Size) (m₁ : Memory) (c₁ : Cursor) (bs : List ℕ) → News b body
      → Stage false m c (opening b k) c₁.store m₁ c₁ s → c₁.rows ≡ suc c.rows → c.at < c₁.at → low ≤ c₁.at → Left whole c₁.at bs
      → Agree whole (Val m c k) (our.sized_of value c.rows body z m₁ c₁ bs) (std.sized_of tree f b body z s c₁.at bs)
  unfolding our.sized_of std.sized_of std.opened
  size-alike b body (Old i) m₁ c₁ bs new x₁ e a w l = refer-alike x₁ i bs a l
  size-alike b body (New n) m₁ c₁ bs new x₁ e a w l =
      let o : length s.objects ≡ c.objects = sym x₁.sim.objects.many ∙ x₁.slot in
      rw o (enter-then c₁.store m₁ c₁ s bs _ x₁ (λ O x₂. new n _ (objects_to c₁ (c₁.objects + 1)) _ bs x₂ e a w l))

  sized-alike : (b : ℕ) (body : Body) → News b body → Stage false m c (opening b k) c.store (rowed m c (opening b k)) (rowed_to c) s
      → Agree whole (Val m c k) (our.marked value c.rows (dec.sized body) (rowed m c (opening b k)) (rowed_to c) bs)
      (std.marked tree f b (dec.sized body) s (suc c.at) bs)
  unfolding our.marked std.marked
  sized-alike b body new x₁ = word-then whole octets _ s 3 0 (rowed_to c) bs _ _ (omega arith) (lit< tt) l (λ z n bs l a i.
      rw (size_is z) (size-alike b body (size_of z) _ (at_to (rowed_to c) n) bs new (stage_at x₁ n (omega arith) i) (omega arith) (omega arith) (omega arith) l))

  objects : Stage false m c (opening 10 k) c.store (rowed m c (opening 10 k)) (rowed_to c) s
      → Agree whole (Val m c k) (our.marked value c.rows dec.object (rowed m c (opening 10 k)) (rowed_to c) bs)
      (std.marked tree f 10 dec.object s (suc c.at) bs)
  unfolding our.marked std.marked
  objects x₁ = word-then whole octets _ s 3 0 (rowed_to c) bs _ _ (omega arith) (lit< tt) l (λ z n bs l a i.
      rw (object-is z) (object-alike whole octets value tree f fuel low ih k (shape_of z) _ (at_to (rowed_to c) n) s bs (stage_at x₁ n (omega arith) i)
      (omega arith) (omega arith) (omega arith) l))

  pub by-marker : (b : ℕ) → b ≤ 17 → Agree whole (Val m c k) (our.marked value c.rows (kind_of b) (rowed m c (new_row b k c.rows)) (rowed_to c) bs)
      (std.marked tree f b (std.follows b) s (suc c.at) bs)
  unfolding kind_of std.follows new_row our.marked std.marked
  by-marker zero h = fine l (leaf-val x i q k (new_row 0 k c.rows) undefined refl refl refl refl refl refl)
  by-marker (suc zero) h = fine l (leaf-val x i q k (new_row 1 k c.rows) null refl refl refl refl refl refl)
  by-marker (suc (suc zero)) h = fine l (leaf-val x i q k (new_row 2 k c.rows) (boolean false) refl refl refl refl refl refl)
  by-marker (suc (suc (suc zero))) h = fine l (leaf-val x i q k (new_row 3 k c.rows) (boolean true) refl refl refl refl refl refl)
  by-marker (suc (suc (suc (suc zero)))) h = integer-alike whole octets value tree f k bs l (omega arith) (starts kind_integer)
  by-marker (suc (suc (suc (suc (suc zero))))) h = double-alike whole octets value tree f k bs l (omega arith) (starts kind_double)
  by-marker (suc (suc (suc (suc (suc (suc zero)))))) h = string-alike whole octets value tree f k bs l (omega arith) (starts kind_string)
  by-marker (suc (suc (suc (suc (suc (suc (suc zero))))))) h = sized-alike kind_xml_document dec.xml
      (λ n m₁ c₁ s₁ bs x e a b l. xml-alike whole octets value tree f k bs l a kind_xml_document n (λ F e. rw e) x) (starts kind_xml_document)
  by-marker (suc (suc (suc (suc (suc (suc (suc (suc zero)))))))) h = sized-alike kind_date dec.date
      (λ n m₁ c₁ s₁ bs x e a b l. date-alike whole octets value tree f k bs l a n x) (starts kind_date)
  by-marker (suc (suc (suc (suc (suc (suc (suc (suc (suc zero))))))))) h = sized-alike kind_array dec.array
      (λ n m₁ c₁ s₁ bs x e a b l. array-alike whole octets value tree f fuel low ih k n m₁ c₁ s₁ bs x e a b l) (starts kind_array)
  by-marker (suc (suc (suc (suc (suc (suc (suc (suc (suc (suc zero)))))))))) h = objects (starts kind_object)
  by-marker (suc (suc (suc (suc (suc (suc (suc (suc (suc (suc (suc zero))))))))))) h = sized-alike kind_xml dec.xml
      (λ n m₁ c₁ s₁ bs x e a b l. xml-alike whole octets value tree f k bs l a kind_xml n (λ F e. rw e) x) (starts kind_xml)
  by-marker (suc (suc (suc (suc (suc (suc (suc (suc (suc (suc (suc (suc zero)))))))))))) h = sized-alike kind_byte_array dec.bytes
      (λ n m₁ c₁ s₁ bs x e a b l. bytes-alike whole octets value tree f k bs l a n x) (starts kind_byte_array)
  by-marker (suc (suc (suc (suc (suc (suc (suc (suc (suc (suc (suc (suc (suc zero))))))))))))) h = sized-alike kind_int_vector (dec.raw dec.four)
      (λ n m₁ c₁ s₁ bs x e a b l. raw-alike whole octets value tree f k bs l a 13 n dec.four (λ F e. rw e) x) (starts kind_int_vector)
  by-marker (suc (suc (suc (suc (suc (suc (suc (suc (suc (suc (suc (suc (suc (suc zero)))))))))))))) h = sized-alike kind_uint_vector (dec.raw dec.four)
      (λ n m₁ c₁ s₁ bs x e a b l. raw-alike whole octets value tree f k bs l a 14 n dec.four (λ F e. rw e) x) (starts kind_uint_vector)
  by-marker (suc (suc (suc (suc (suc (suc (suc (suc (suc (suc (suc (suc (suc (suc (suc zero))))))))))))))) h = sized-alike kind_double_vector (dec.raw dec.eight)
      (λ n m₁ c₁ s₁ bs x e a b l. raw-alike whole octets value tree f k bs l a 15 n dec.eight (λ F e. rw e) x) (starts kind_double_vector)
  by-marker (suc (suc (suc (suc (suc (suc (suc (suc (suc (suc (suc (suc (suc (suc (suc (suc zero)))))))))))))))) h = sized-alike kind_object_vector dec.objects
      (λ n m₁ c₁ s₁ bs x e a b l. vector-alike whole octets value tree f fuel low ih k n m₁ c₁ s₁ bs x e a b l) (starts kind_object_vector)
  by-marker (suc (suc (suc (suc (suc (suc (suc (suc (suc (suc (suc (suc (suc (suc (suc (suc (suc zero))))))))))))))))) h =
      sized-alike kind_dictionary dec.dictionary (λ n m₁ c₁ s₁ bs x e a b l. dictionary-alike whole octets value tree f fuel low ih k n m₁ c₁ s₁ bs x e a b l)
      (starts kind_dictionary)
  by-marker (suc (suc (suc (suc (suc (suc (suc (suc (suc (suc (suc (suc (suc (suc (suc (suc (suc (suc b)))))))))))))))))) h = absurd (omega arith)

-- a value where so many may open; the standard has fuel for more bytes than are left
module _ (whole : List ℕ) (octets : Bytes whole) (f : ℕ) (fuel : length whole < f) where
  pub value-alike : (left d : ℕ) (k : Key) (m : Memory) (c : Cursor) (s : Tables) (bs : List ℕ) → Sim c.store m c s → Left whole c.at bs
      → length whole < d + c.at → Agree whole (Val m c k) (our.value left k m c bs) (std.value f d s c.at bs)
  unfolding our.value std.value marker
  value-alike zero zero k m c s bs x l w = let h = l.within in absurd (omega arith)
  value-alike (suc left) zero k m c s bs x l w = let h = l.within in absurd (omega arith)
  value-alike zero (suc d) k m c s bs x l w = byte-then whole octets m s c bs _ _ l (λ b bs l o i.
      let h = x.rows_in in
      rw (le-ltb (length m.rows / row_width) c.rows (omega arith)) (elim (dec_lt 17 b) [
        | yes g ↦ rw (lt-ltb 17 b g) (both (lit≤ tt) (lit≤ tt))
        | no g ↦ rw (le-ltb 17 b (omega arith)) (ours (lit≤ tt) (lit≤ tt))
      ]))
  value-alike (suc left) (suc d) k m c s bs x l w = byte-then whole octets m s c bs _ _ l (λ b bs l o i.
      let h = x.rows_in in
      rw (le-ltb (length m.rows / row_width) c.rows (omega arith)) (elim (dec_lt 17 b) [
        | yes g ↦ rw (lt-ltb 17 b g) (both (lit≤ tt) (lit≤ tt))
        | no g ↦
            rw (le-ltb 17 b (omega arith), ne_eqb (suc left) 0 (λ e. omega arith))
            (limit (λ R. with_rows m R) (leb (length m.rows / row_width) c.rows) 10 1 (suc c.at) _ m bs _ (lit≤ tt) (lit≤ tt) (λ q.
            let p = leb-false (length m.rows / row_width) c.rows q in
            by-marker whole octets (our.value left) (std.value f d) f fuel (suc (length whole) - d)
            (λ k m c s bs x l w. value-alike left d k m c s bs x l (omega arith)) k m c s bs x i l (omega arith) (omega arith) b (omega arith)))
      ]))
