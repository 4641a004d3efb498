-- Every value that is read leaves sound rows, whatever its kind.
use mathlib.Core.Path.{◌≡◌, refl, sym, ◌∙◌}
use mathlib.Core.Bool.{Bool, true, cond}
use mathlib.Core.List.{List, [], ◌∷◌}
use mathlib.Core.Logic.{◌≢◌}
use Prim.Native.Nat.{ℕ, zero, suc, ◌+◌, ◌-◌, ◌*◌, ◌/◌, ◌<◌, ◌≤◌}
use native.Mathlib.Omega.{arith}
use lib.Dec.{eqb}
use lib.ListN.{length, get_or, set}
use lib.Seq.{sets, set-set}
use Rattle.rows.specs.declared.Cursor.{Cursor}
use Rattle.rows.specs.declared.Span.{Span}
use Rattle.rows.specs.declared.Key.{Key}
use Rattle.rows.specs.declared.Trait.{Trait}
use Rattle.rows.specs.Memory.{Memory, rows_in, col, no_key, no_span, span, put, col_number, col_end}
use Rattle.wire.specs.declared.Size.{Size}
use Rattle.wire.specs.declared.Size.TheVariants.{Old, New}
use Rattle.wire.specs.declared.Shape.{Shape}
use Rattle.wire.specs.declared.Shape.TheVariants.{Object, Known, External, Inline}
use Rattle.wire.specs.Word.{size_of, shape_of}
use Rattle.wire.specs.Sign.{integer_of, column_of}
use Rattle.utf8.proofs.Fold.{fold_valid}
use Rattle.format.specs.Standard.{is_star}
use Rattle.format.specs.Decide as decide
use Rattle.format.specs.Decide.{on_rows, on_objects, rows_to, store_to, closed, integer_end, bodied, class_of, vector_class, flagged, fixed, weak, grown}
use Rattle.format.specs.Decide.{Width, four, eight, width_of, entered, referred, trait_at, trait_of, new_row}
use Rattle.format.specs.Reading as reading
use Rattle.format.specs.Reading.{◌>>=◌, ◌>>◌, Values, decided, by, ret, entries}
use Rattle.format.specs.Unfold.{part}
use Rattle.format.specs.RowTest.{is_object, Given, full_key}
use Rattle.format.proofs.Tests.{on_bool}
use Rattle.format.proofs.Memories.{with_rows, at_to}
use Rattle.meaning.proofs.Ground.{col-lent, done-ext, ext_same, ext_trans, land_of}
use Rattle.meaning.proofs.Lands.{run-as, ValidIn, Valid, Class, classless, class, Full, Other, class-full, class-other, Meets, run-ext}
use Rattle.meaning.proofs.Lands.{Number, undefined, null, boolean, integer, double, date, Texts, string, xml_document, xml, Raws, ints, uints}
use Rattle.meaning.proofs.Lands.{doubles, Form, number, text, bytes, raw, array, object, vector, dictionary, reference, valid-ext, meets-ext}
use Rattle.meaning.proofs.Classes.{signed-column, object-class, star-other, star-one, wp_vector, wp_object}
use Rattle.meaning.proofs.Markers.{Opens, of_xml_document, of_date, of_array, of_xml, of_bytes, of_ints, of_uints, of_doubles, of_objects, of_dictionary}
use Rattle.meaning.proofs.Markers.{Marks, at_undefined, at_null, at_false, at_true, at_integer, at_double, at_string, at_object, at_body, marks}
use Rattle.meaning.proofs.Markers.{is-object, body-high, new-row}
use Rattle.meaning.proofs.Stages.{Ends, still, already, Entry, Ok, Keep, keep-ext, Stage, stage-set, stage-put, stage-span}
use Rattle.meaning.proofs.Stages.{stage-class, stage-enter, Val, val_of, stage-close, begin-ok, begin-keep, begin-row, stage-begin}
use Rattle.meaning.proofs.Posts.{Post, stops, gets, post_then, post_map, post_by, wp_byte, wp_word, wp_number, wp_closed, wp_numbered}
use Rattle.meaning.proofs.Posts.{wp_date, wp_bodied, wp_flagged, wp_grown, wp_referred, wp_marker, wp_reserved, wp_judged, wp_entered}
use Rattle.meaning.proofs.Posts.{wp_old_trait, wp_named, wp_trait_end, wp_starred}
use Rattle.meaning.proofs.Spans.{Only, only, wp_chars, wp_fill, wp_text}
use Rattle.meaning.proofs.Heard.{stage-store, stage_at, stage-name, stage_trait, Heard, heard-old, heard-none, heard-new, text-heard}
use Rattle.meaning.proofs.Children.{Loop, loop_begin, Reads, items_post, doubles_post, sealed_post, pairs_post}
use Rattle.rows.specs.Memory.{row_width}
use Rattle.rows.specs.Memory.{col_kind}
use Rattle.rows.specs.Kinds.{kind_string, kind_array, kind_object, kind_byte_array, kind_object_vector, kind_dictionary}

-- ---- a value in work: it begins at m₀ and c₀, is given g, and has the key k

module _ (g : Given) (k : Key) (m₀ : Memory) (c₀ : Cursor) (ok₀ : Ok m₀ c₀) (meets₀ : Meets (land_of m₀ c₀) g k) where
  -- a row of a kind
  abbrev of : ℕ → List ℕ → List ℕ
  of q cs = q ∷ k.mark ∷ k.begin ∷ k.size ∷ cs

  abbrev Done₀ : Unit {0} → Memory → Cursor → Type 0
  Done₀ x = Val g m₀ c₀

  -- the key is met all along
  met : {cs : List ℕ} {m : Memory} {c : Cursor} → Stage m₀ c₀ cs m c → Meets (land_of m c) g k
  met x = meets-ext (keep-ext ok₀.store_in x.keep) meets₀

  -- the last decision of most
  close_post : {q : ℕ} {cs : List ℕ} (m : Memory) (c : Cursor) (bs : List ℕ) → Stage m₀ c₀ (of q cs) m c
      → Form (land_of m c) c₀.rows q (set cs 7 c.rows)
      → Post Done₀ (decided (on_rows (closed c₀.rows) m c) m bs)
  close_post m c bs x f = post_by _ m bs _ (wp_closed c₀.rows m.rows c (stage-close x (met x) f))

  -- a number
  number-val : {q n : ℕ} (m : Memory) (c : Cursor) → Stage m₀ c₀ (of q (0 ∷ 0 ∷ 0 ∷ 0 ∷ 0 ∷ 0 ∷ 0 ∷ 0 ∷ [])) m c → c.rows ≡ suc c₀.rows → Number q n
      → Val g m₀ c₀ (with_rows m (put (put m.rows c₀.rows col_number n) c₀.rows col_end c.rows)) c
  number-val {q} {n} m c x one h = let y = stage-put x 8 n (omega arith) (omega arith) in stage-close y (met y) (number h one)

  -- ---- strings

  -- its row shows the span, once or twice, and ends
  string-end : {q b z : ℕ} (s : Span) (m : Memory) (c : Cursor) (bs : List ℕ) → Texts q → Stage m₀ c₀ (of q (b ∷ z ∷ 0 ∷ 0 ∷ 0 ∷ 0 ∷ 0 ∷ 0 ∷ [])) m c
      → c.rows ≡ suc c₀.rows
      → Valid (land_of m c) s → Post Done₀ ((by (on_rows (bodied c₀.rows s)) >> by (on_rows (closed c₀.rows))) m c bs)
  string-end s m c bs t x one v =
      let y = stage-span x s.begin s.size in
      post_then _ _ (post_by _ m bs _ (wp_bodied c₀.rows m.rows c s (λ bs. close_post _ c bs y (text t v one))))

  abbrev fresh : ℕ → List ℕ
  fresh q = of q (0 ∷ 0 ∷ 0 ∷ 0 ∷ 0 ∷ 0 ∷ 0 ∷ 0 ∷ [])

  shows : (s : Span) (m : Memory) (c : Cursor) (bs : List ℕ)
      → Post (λ x. Only m c (put (put m.rows c₀.rows 4 s.begin) c₀.rows 5 s.size)) (by (on_rows (bodied c₀.rows s)) m c bs)
  shows s m c bs = post_by _ m bs _ (wp_bodied c₀.rows m.rows c s only)

  string_post : (m : Memory) (c : Cursor) (bs : List ℕ) → Stage m₀ c₀ (fresh kind_string) m c → c.rows ≡ suc c₀.rows
      → Post Done₀ ((reading.text (λ s. by (on_rows (bodied c₀.rows s))) >>=
      (λ s. by (on_rows (bodied c₀.rows s)) >> by (on_rows (closed c₀.rows)))) m c bs)
  string_post m c bs x one = post_then _ _ (wp_text _ (λ s R. put (put R c₀.rows 4 s.begin) c₀.rows 5 s.size) shows m c
      (λ i a l bs. let h = heard-old x i a l in string-end _ _ _ bs string h.stage one h.valid)
      (λ a bs. let h = heard-none x a in string-end _ _ _ bs string h.stage one h.valid)
      (λ n a B p q r t v bs.
      let y = stage-span x c.store (suc n) in
      let h = heard-new y n a B p q r t v in
      string-end _ _ _ bs string h.stage one h.valid) bs)

  -- ---- bodies

  -- room for a body: none, or z bytes, which its row shows
  no_room : {Q : Span → Memory → Cursor → Type 0} (m : Memory) (c : Cursor) (bs : List ℕ) → Q no_span m c → Post Q (reading.room c₀.rows 0 m c bs)
  unfolding reading.room
  no_room m c bs h = gets h

  room_post : {Q : Span → Memory → Cursor → Type 0} (z : ℕ) (m : Memory) (c : Cursor) (bs : List ℕ)
      → (c.store + suc z ≤ length m.store
      → Q (span c.store (suc z)) (with_rows m (put (put m.rows c₀.rows 4 c.store) c₀.rows 5 (suc z))) (store_to c (c.store + suc z)))
      → Post Q (reading.room c₀.rows (suc z) m c bs)
  unfolding reading.room
  room_post z m c bs f = post_then _ _ (post_by _ m bs _ (wp_reserved c (suc z) m.store (λ r bs.
      post_then _ _ (post_by _ m bs _ (wp_bodied c₀.rows m.rows _ (span c.store (suc z)) (λ bs. gets (f r)))))))

  module _ (m : Memory) (c : Cursor) (one : c.rows ≡ suc c₀.rows) where
    xml_post : {q : ℕ} (value : Values) (n : ℕ) (bs : List ℕ) → Texts q → Stage m₀ c₀ (fresh q) m c
        → Post Done₀ (reading.new_of value c₀.rows decide.xml n m c bs)
    unfolding reading.new_of reading.chars_of
    xml_post value zero bs t x = post_then _ _ (no_room m c bs (λ bs. post_then _ _ (post_by _ m bs _ (wp_judged c true (λ e bs.
        close_post m c bs x (text t (heard-none x 0).valid one))))))
    xml_post value (suc n) bs t x = post_then _ _ (room_post n m c bs (λ r bs.
        post_then _ _ (wp_chars (span c.store (suc n)) n 0 c.store _ _ bs (omega arith) (λ a B v p l e bs.
        post_then _ _ (post_by _ _ bs _ (wp_judged _ v (λ w bs.
        let y = stage-store (stage-span x c.store (suc n)) a (c.store + suc n) B p l (omega arith) r in
        let valid : ValidIn B (c.store + suc n) (span c.store (suc n)) =
        record {
          within = record { inside = omega arith; empty = λ e. absurd (omega arith) };
          text = sym (fold_valid (part B c.store (suc n))) ∙ sym e ∙ w;
        } in
        close_post _ _ bs y (text t valid one))))))))

    bytes_post : (value : Values) (n : ℕ) (bs : List ℕ) → Stage m₀ c₀ (fresh kind_byte_array) m c → Post Done₀ (reading.new_of value c₀.rows decide.bytes n m c bs)
    unfolding reading.new_of reading.filled
    bytes_post value zero bs x = post_then _ _ (no_room m c bs (λ bs. close_post m c bs x (bytes (record { inside = omega arith; empty = λ e. refl }) one)))
    bytes_post value (suc n) bs x = post_then _ _ (room_post n m c bs (λ r bs.
        post_then _ _ (wp_fill (λ left. ret tt) (λ left R. R) (λ left m c bs. gets only) (λ a b R. refl) (span c.store (suc n)) n c.store _ _ bs
        (omega arith) (λ a B p l bs.
        let y = stage-store (stage-span x c.store (suc n)) a (c.store + suc n) B p l (omega arith) r in
        close_post _ _ bs y (bytes (record { inside = omega arith; empty = λ e. absurd (omega arith) }) one)))))

    flag-fits : (b : ℕ) → fixed b ≤ 1
    flag-fits b = on_bool (eqb b 0) (λ e. rw e (omega arith)) (λ e. rw e (omega arith))

    whole-entries : (w : Width) (z n : ℕ) → z ≡ n * width_of w → z ≡ width_of w * ((z - 0) / width_of w)
    whole-entries four z n e = omega arith
    whole-entries eight z n e = omega arith

    raw_of : {q : ℕ} (w : Width) (z n : ℕ) (bs : List ℕ) → z ≡ n * width_of w → Raws q (width_of w) → Stage m₀ c₀ (fresh q) m c
        → Post Done₀ ((reading.room c₀.rows z >>= (λ s. reading.byte >>= (λ b. by (on_rows (flagged c₀.rows (fixed b)))
        >> reading.filled (λ left. by (on_rows (grown c₀.rows w s left))) s s.size >> by (on_rows (closed c₀.rows))))) m c bs)
    unfolding reading.filled
    raw_of w zero n bs e t x = post_then _ _ (no_room m c bs (λ bs. post_then _ _ (wp_byte m c bs (λ b bs.
        post_then _ _ (post_then _ _ (post_by _ m bs _ (wp_flagged c₀.rows m.rows _ (fixed b) (λ bs. gets (λ bs.
        let y = stage-put (stage_at x (suc c.at)) 7 (fixed b) (omega arith) (omega arith) in
        close_post _ _ bs y (raw {b = 0} {z = 0} {n = 0} t (record { inside = omega arith; empty = λ e. refl }) (omega arith) (flag-fits b) one))))))))))
    raw_of w (suc z) n bs e t x = post_then _ _ (room_post z m c bs (λ r bs. post_then _ _ (wp_byte _ _ bs (λ b bs.
        post_then _ _ (post_then _ _ (post_by _ _ bs _ (wp_flagged c₀.rows _ _ (fixed b) (λ bs.
        wp_fill (λ left. by (on_rows (grown c₀.rows w (span c.store (suc z)) left))) (λ left R. put R c₀.rows 9 ((suc z - left) / width_of w))
        (λ left m' c' bs. post_by _ m' bs _ (wp_grown c₀.rows m'.rows c' w (span c.store (suc z)) left only)) (λ a b R. set-set R _ _ _)
        (span c.store (suc z)) z c.store _ _ bs (omega arith) (λ a B p l bs.
        let y = stage-put (stage-put (stage-span x c.store (suc z)) 7 (fixed b) (omega arith) (omega arith)) 9 ((suc z - 0) / width_of w) (omega arith)
        (omega arith) in
        close_post _ _ bs (stage-store y a (c.store + suc z) B p l (omega arith) r)
        (raw {b = c.store} {z = suc z} {n = (suc z - 0) / width_of w} t (record { inside = omega arith; empty = λ e. absurd (omega arith) })
        (whole-entries w (suc z) n e) (flag-fits b) one))))))))))

    raw_post : {q : ℕ} (value : Values) (w : Width) (n : ℕ) (bs : List ℕ) → Raws q (width_of w) → Stage m₀ c₀ (fresh q) m c
        → Post Done₀ (reading.new_of value c₀.rows (decide.raw w) n m c bs)
    unfolding reading.new_of
    raw_post value w n bs t x = raw_of w (n * width_of w) n bs refl t x

  -- ---- values with children

  module _ (value : Values) (reads : Reads value) where
    array_post : (n : ℕ) (m : Memory) (c : Cursor) (bs : List ℕ) → Stage m₀ c₀ (fresh kind_array) m c → c.rows ≡ suc c₀.rows
        → Post Done₀ (reading.new_of value c₀.rows decide.array n m c bs)
    unfolding reading.new_of
    array_post n m c bs x one = post_then _ _ (post_then _ _ (
        post_map _ (pairs_post value reads m₀ c₀ (fresh kind_array) (land_of m c) c.rows 9 (omega arith) (omega arith) m c bs (loop_begin x))
        (λ u m₁ c₁ p bs.
        post_map _ (items_post value reads m₀ c₀ (set (fresh kind_array) 9 p.0) (land_of m₁ c₁) c₁.rows 10 (omega arith) (omega arith) n m₁ c₁ bs
        (loop_begin p.1.stage))
        (λ u m₂ c₂ q bs.
        close_post m₂ c₂ bs q.1.stage
        (array (run-as (run-ext q.1.ext p.1.kids) one (omega arith)) (run-as q.1.kids refl (omega arith)))))))

    dictionary_post : (n : ℕ) (m : Memory) (c : Cursor) (bs : List ℕ) → Stage m₀ c₀ (fresh kind_dictionary) m c → c.rows ≡ suc c₀.rows
        → Post Done₀ (reading.new_of value c₀.rows decide.dictionary n m c bs)
    unfolding reading.new_of
    dictionary_post n m c bs x one = post_then _ _ (wp_byte m c bs (λ b bs. post_then _ _
        (post_then _ _ (post_by _ m bs _ (wp_flagged c₀.rows m.rows _ (weak b) (λ bs.
        let y = stage-put (stage_at x (suc c.at)) 7 (weak b) (omega arith) (omega arith) in
        post_map _ (doubles_post value reads m₀ c₀ (of 17 (0 ∷ 0 ∷ 0 ∷ weak b ∷ 0 ∷ 0 ∷ 0 ∷ 0 ∷ [])) _ c.rows 9 (omega arith) (omega arith) n _ _ bs
        (loop_begin y))
        (λ u m₂ c₂ q bs.
        close_post m₂ c₂ bs q.1.stage (dictionary (weak-fits b) (run-as q.1.kids one refl)))))))))
      where
        weak-fits : (b : ℕ) → weak b ≤ 1
        weak-fits b = on_bool (eqb b 1) (λ e. rw e (omega arith)) (λ e. rw e (omega arith))

    -- the entries of a vector whose class is there
    vector-rest : {mark b z f : ℕ} (n : ℕ) (m : Memory) (c : Cursor) (bs : List ℕ) → Stage m₀ c₀ (of 16 (b ∷ z ∷ mark ∷ f ∷ 0 ∷ 0 ∷ 0 ∷ 0 ∷ [])) m c
        → c.rows ≡ suc c₀.rows
        → f ≤ 1 → Class (land_of m c) (Other (land_of m c)) mark (span b z)
        → Post (λ u m c. (bs : List ℕ) → Post Done₀ (decided (on_rows (closed c₀.rows) m c) m bs)) (entries (λ done. value no_key) c₀.rows 9 n 0 m c bs)
    vector-rest {mark} {b} {z} {f} n m c bs x one l k =
        post_map _ (items_post value reads m₀ c₀ (of 16 (b ∷ z ∷ mark ∷ f ∷ 0 ∷ 0 ∷ 0 ∷ 0 ∷ [])) _ c.rows 9 (omega arith) (omega arith) n _ _ bs
        (loop_begin x))
        (λ u m₂ c₂ q bs. close_post m₂ c₂ bs q.1.stage (vector (class-other q.1.ext k) l (run-as q.1.kids one (omega arith))))

    class_post : {f : ℕ} (n : ℕ) (star : Bool) (s : Span) (m : Memory) (c : Cursor) (bs : List ℕ)
        → Stage m₀ c₀ (of 16 (0 ∷ 0 ∷ 0 ∷ f ∷ 0 ∷ 0 ∷ 0 ∷ 0 ∷ [])) m c
        → c.rows ≡ suc c₀.rows → f ≤ 1 → Valid (land_of m c) s → is_star (part m.store s.begin s.size) ≡ star
        → Post Done₀ ((by (on_rows (vector_class c₀.rows star s)) >> entries (λ done. value no_key) c₀.rows 9 n 0 >> by (on_rows (closed c₀.rows))) m
        c bs)
    class_post n star s m c bs x one l v q = post_then _ _ (post_then _ _ (post_by _ m bs _ (wp_vector c₀.rows star s m.rows c
        (λ e bs. vector-rest n _ _ bs (stage-class x 0 0 0) one l classless)
        (λ e bs. vector-rest n _ _ bs (stage-class x 1 s.begin s.size) one l (class v (q ∙ e))))))

    vector_post : (n : ℕ) (m : Memory) (c : Cursor) (bs : List ℕ) → Stage m₀ c₀ (fresh kind_object_vector) m c → c.rows ≡ suc c₀.rows
        → Post Done₀ (reading.new_of value c₀.rows decide.objects n m c bs)
    unfolding reading.new_of
    vector_post n m c bs x one = post_then _ _ (wp_byte m c bs (λ b bs. post_then _ _
        (post_then _ _ (post_by _ m bs _ (wp_flagged c₀.rows m.rows _ (fixed b) (λ bs.
        let y = stage-put (stage_at x (suc c.at)) 7 (fixed b) (omega arith) (omega arith) in
        post_map _ (text-heard y bs) (λ s m₁ c₁ h bs.
        let i : s.begin + s.size ≤ length m₁.store = (let a = h.valid.within.inside in let b = h.stage.ok.store_in in omega arith) in
        post_then _ _ (post_by _ m₁ bs _ (wp_starred c₁ s m₁.store
        (λ e bs. class_post n _ s m₁ c₁ bs h.stage (h.rows ∙ one) (flag-fits m c one b) h.valid (star-one m₁.store s.begin s.size i e))
        (λ e bs. class_post n _ s m₁ c₁ bs h.stage (h.rows ∙ one) (flag-fits m c one b) h.valid
        (star-other m₁.store s.begin s.size i e)))))))))))

    -- ---- objects

    dynamics_post : (cs : List ℕ) (y : ℕ) (m : Memory) (c : Cursor) (bs : List ℕ) → Stage m₀ c₀ (set cs 10 0) m c
        → Post (λ u m' c'. (x : ℕ) × Loop (land_of m c) full_key c.rows m₀ c₀ (set cs 10 x) (1 * x) m' c') (reading.dynamics value c₀.rows y m c bs)
    unfolding reading.dynamics
    dynamics_post cs zero m c bs x = gets (0, loop_begin x)
    dynamics_post cs (suc y) m c bs x = pairs_post value reads m₀ c₀ cs (land_of m c) c.rows 10 (omega arith) (omega arith) m c bs
        (loop_begin x)

    members_post : {mark b z : ℕ} (t : Trait) (m : Memory) (c : Cursor) (bs : List ℕ) → Stage m₀ c₀ (of 10 (b ∷ z ∷ mark ∷ 0 ∷ 0 ∷ 0 ∷ 0 ∷ 0 ∷ [])) m c
        → c.rows ≡ suc c₀.rows
        → Class (land_of m c) Full mark (span b z) → Post Done₀ (reading.members value c₀.rows t m c bs)
    unfolding reading.members
    members_post {mark} {b} {z} t m c bs x one k = post_then _ _ (post_then _ _ (
        post_map _ (sealed_post value reads m₀ c₀ (of 10 (b ∷ z ∷ mark ∷ 0 ∷ 0 ∷ 0 ∷ 0 ∷ 0 ∷ [])) (land_of m c) c.rows 9 (omega arith) (omega arith)
        t.first t.count m c bs
        (loop_begin x)) (λ u m₁ c₁ p bs.
        post_map _ (dynamics_post (of 10 (b ∷ z ∷ mark ∷ 0 ∷ 0 ∷ p.0 ∷ 0 ∷ 0 ∷ [])) t.dynamic m₁ c₁ bs p.1.stage) (λ u m₂ c₂ q bs.
        close_post m₂ c₂ bs q.1.stage
        (object (class-full (ext_trans p.1.ext q.1.ext) k) (run-as (run-ext q.1.ext p.1.kids) one (omega arith))
        (run-as q.1.kids refl (omega arith)))))))

    names_post : {cs : List ℕ} {s : Span} (m : Memory) (c : Cursor) (n : ℕ) (m₁ : Memory) (c₁ : Cursor) (bs : List ℕ) → Heard m₀ c₀ cs m c s m₁ c₁
        → Post (λ u. Heard m₀ c₀ cs m c s) (reading.names n m₁ c₁ bs)
    unfolding reading.names
    names_post m c zero m₁ c₁ bs h = gets h
    names_post m c (suc n) m₁ c₁ bs h = post_then _ _ (post_map _ (text-heard h.stage bs) (λ s m₂ c₂ i bs.
        post_then _ _ (post_by _ m₂ bs _ (wp_named c₂ s m₂.names (λ r bs.
        names_post m c n _ _ bs (record {
          stage = stage-name i.stage s.begin s.size r i.valid;
          valid = valid-ext i.ext h.valid;
          ext = ext_trans h.ext i.ext;
          rows = i.rows ∙ h.rows;
        }))))))

    -- its row shows the class
    abbrev classed : Trait → List ℕ
    classed t = of 10 (t.begin ∷ t.size ∷ cond (eqb t.size 0) 0 1 ∷ 0 ∷ 0 ∷ 0 ∷ 0 ∷ 0 ∷ [])

    abbrev shown : Trait → Memory → Memory
    shown t m = with_rows m (put (put (put m.rows c₀.rows 6 (cond (eqb t.size 0) 0 1)) c₀.rows 4 t.begin) c₀.rows 5 t.size)

    class-stage : (t : Trait) (m : Memory) (c : Cursor) → Stage m₀ c₀ (fresh kind_object) m c → Stage m₀ c₀ (classed t) (shown t m) c
    class-stage t m c x = stage-class x (cond (eqb t.size 0) 0 1) t.begin t.size

    inlined_post : (t : Trait) (m : Memory) (c : Cursor) (bs : List ℕ) → Stage m₀ c₀ (fresh kind_object) m c → c.rows ≡ suc c₀.rows
        → Valid (land_of m c) (class_of t)
        → Post Done₀ (reading.inlined value c₀.rows t m c bs)
    unfolding reading.inlined
    inlined_post t m c bs x one v = post_then _ _ (post_then _ _ (post_then _ _ (post_by _ m bs _ (wp_object c₀.rows t m.rows c (λ bs.
        let y = class-stage t m c x in
        post_map _ (names_post {s = class_of t} (shown t m) c t.count (shown t m) c bs (record { stage = y; valid = v; ext = ext_same _; rows = refl }))
        (λ u m₁ c₁ h bs.
        post_by _ m₁ bs _ (wp_trait_end c₁ t m₁.traits (λ r bs.
        members_post t _ _ bs (stage_trait h.stage t r h.valid) (h.rows ∙ one) (object-class _ t.begin t.size h.valid)))))))))

    -- ---- references

    target : {t e : ℕ} {m m₁ : Memory} {c c₁ : Cursor} → Keep m₀ c₀ m c → Keep m₀ c₀ m₁ c₁ → Entry (land_of m₀ c₀) t → Ends (land_of m₀ c₀) t
        → t < rows_in m.rows → (col m.rows t col_end ≡ 0 → ⊥)
        → e ≡ suc c₀.rows → Form (land_of m₁ c₁) c₀.rows 18 (0 ∷ 0 ∷ 0 ∷ 0 ∷ t ∷ 0 ∷ 0 ∷ e ∷ [])
    target {t} {m = m} k l h (still z) f n e =
        let b = h.below in absurd (n (col-lent m.rows t col_end f ∙ k.rows (t * row_width + col_end) (omega arith) ∙ z))
    target {t} k l h (already d) f n e =
        let x = keep-ext ok₀.store_in l in
        reference h.below (done-ext x t d) (rw (x.cols t col_end d (omega arith)) d.1) (rw (x.cols t col_kind d (omega arith)) h.kind) e

    -- as it is before its row enters the objects: they are those of the beginning
    referred_post : {q : ℕ} (i : ℕ) (m : Memory) (c : Cursor) (bs : List ℕ) → Stage m₀ c₀ (fresh q) m c → c.rows ≡ suc c₀.rows
        → m.objects ≡ m₀.objects
        → c.objects ≡ c₀.objects → Post Done₀ (decided (on_rows (referred c₀.rows i m.objects) m c) m bs)
    referred_post {q} i m c bs x one o n = post_by _ m bs _ (wp_referred c₀.rows m.rows c i m.objects (λ l e.
        let y = stage-put (stage-set x 0 18 free (omega arith)) 8 (get_or m.objects i 0) (omega arith) (omega arith) in
        let h = entry i l in
        let b = h.below in
        let r = x.ok.rows_in in
        stage-close {k = k} y (met y) (target x.keep y.keep h h.ending (omega arith) e one)))
      where
        entry : (j : ℕ) → j < c.objects → Entry (land_of m₀ c₀) (get_or m.objects j 0)
        entry j l = rw o (ok₀.objects j (rw n at l))

        free : (j : ℕ) → j < c.objects → get_or m.objects j 0 * row_width + 0 ≢ c₀.rows * row_width + 0
        free j l = let b = (entry j l).below in omega arith

    -- ---- by the word

    -- the row enters the objects
    enter_post : {Q : Unit {0} → Memory → Cursor → Type 0} {q : ℕ} (m : Memory) (c : Cursor) (bs : List ℕ) → Stage m₀ c₀ (fresh q) m c → is_object q ≡ true
        → ((m₁ : Memory) (c₁ : Cursor) → Stage m₀ c₀ (fresh q) m₁ c₁ → c₁.rows ≡ c.rows → Q tt m₁ c₁)
        → Post Q (decided (on_objects (entered c₀.rows) m c) m bs)
    enter_post m c bs x o h = post_by _ m bs _ (wp_entered c c₀.rows m.objects (λ l. h _ _ (stage-enter x o l) refl))

    object_post : (z : Shape) (m : Memory) (c : Cursor) (bs : List ℕ) → Stage m₀ c₀ (fresh kind_object) m c → c.rows ≡ suc c₀.rows → m.objects ≡ m₀.objects
        → c.objects ≡ c₀.objects
        → Post Done₀ (reading.object_of value c₀.rows z m c bs)
    unfolding reading.object_of
    object_post (Object i) m c bs x one o n = referred_post i m c bs x one o n
    object_post (Known i) m c bs x one o n = post_then _ _ (post_then _ _ (enter_post m c bs x refl (λ m₁ c₁ y e bs.
        post_by _ m₁ bs _ (wp_old_trait c₁ i m₁.traits (λ l bs.
        post_then _ _ (post_by _ m₁ bs _ (wp_object c₀.rows (trait_at m₁.traits i) m₁.rows c₁ (λ bs.
        let v = y.ok.traits i l in
        members_post (trait_at m₁.traits i) _ _ bs (class-stage (trait_at m₁.traits i) m₁ c₁ y) (e ∙ one) (object-class _ _ _ v)))))))))
    object_post External m c bs x one o n = post_then _ _ (post_then _ _
        (enter_post m c bs x refl (λ m₁ c₁ y e bs. post_map _ (text-heard y bs) (λ s m₂ c₂ h bs. stops))))
    object_post (Inline n y) m c bs x one o q = post_then _ _ (post_then _ _ (enter_post m c bs x refl (λ m₁ c₁ y₁ e bs.
        post_map _ (text-heard y₁ bs) (λ s m₂ c₂ h bs. inlined_post (trait_of s n y c₂) m₂ c₂ bs h.stage (h.rows ∙ e ∙ one) h.valid))))

    new_post : {body : decide.Body} {q : ℕ} → Opens body q → (n : ℕ) (m : Memory) (c : Cursor) (bs : List ℕ) → Stage m₀ c₀ (fresh q) m c
        → c.rows ≡ suc c₀.rows
        → Post Done₀ (reading.new_of value c₀.rows body n m c bs)
    unfolding reading.new_of
    new_post of_xml_document n m c bs x one = xml_post m c one value n bs xml_document x
    new_post of_xml n m c bs x one = xml_post m c one value n bs xml x
    new_post of_date n m c bs x one = post_then _ _ (wp_number m 7 0 c bs (λ bits a bs.
        post_by _ m bs _ (wp_date c₀.rows m.rows _ bits (λ v. number-val m _ (stage_at x a) one (date v)))))
    new_post of_array n m c bs x one = array_post n m c bs x one
    new_post of_bytes n m c bs x one = bytes_post m c one value n bs x
    new_post of_ints n m c bs x one = raw_post m c one value four n bs ints x
    new_post of_uints n m c bs x one = raw_post m c one value four n bs uints x
    new_post of_doubles n m c bs x one = raw_post m c one value eight n bs doubles x
    new_post of_objects n m c bs x one = vector_post n m c bs x one
    new_post of_dictionary n m c bs x one = dictionary_post n m c bs x one

    sized_post : {body : decide.Body} {q : ℕ} → Opens body q → (z : Size) (m : Memory) (c : Cursor) (bs : List ℕ) → Stage m₀ c₀ (fresh q) m c
        → c.rows ≡ suc c₀.rows
        → m.objects ≡ m₀.objects → c.objects ≡ c₀.objects → Post Done₀ (reading.sized_of value c₀.rows body z m c bs)
    unfolding reading.sized_of
    sized_post t (Old i) m c bs x one o n = referred_post i m c bs x one o n
    sized_post t (New z) m c bs x one o n = post_then _ _ (enter_post m c bs x (is-object t) (λ m₁ c₁ y e bs. new_post t z m₁ c₁ bs y (e ∙ one)))

    -- ---- by the marker

    -- what follows the marker of a value that is no leaf
    marked_post : {b : ℕ} {kind : decide.Kind} → Marks b kind → (m : Memory) (c : Cursor) (bs : List ℕ) → 4 ≤ b → Stage m₀ c₀ (fresh b) m c
        → c.rows ≡ suc c₀.rows
        → m.objects ≡ m₀.objects → c.objects ≡ c₀.objects → Post Done₀ (reading.marked value c₀.rows kind m c bs)
    unfolding reading.marked integer_end
    marked_post at_undefined m c bs h x one o n = absurd (omega arith)
    marked_post at_null m c bs h x one o n = absurd (omega arith)
    marked_post at_false m c bs h x one o n = absurd (omega arith)
    marked_post at_true m c bs h x one o n = absurd (omega arith)
    marked_post at_integer m c bs h x one o n = post_then _ _ (wp_word m 3 0 c bs (λ w a bs.
        post_by _ m bs _ (wp_numbered c₀.rows m.rows _ (column_of (integer_of w)) (number-val m _ (stage_at x a) one (integer (signed-column w))))))
    marked_post at_double m c bs h x one o n = post_then _ _ (wp_number m 7 0 c bs (λ v a bs.
        post_by _ m bs _ (wp_numbered c₀.rows m.rows _ v (number-val m _ (stage_at x a) one double))))
    marked_post at_string m c bs h x one o n = string_post m c bs x one
    marked_post at_object m c bs h x one o n = post_then _ _ (wp_word m 3 0 c bs (λ w a bs. object_post (shape_of w) m _ bs (stage_at x a) one o n))
    marked_post (at_body t) m c bs h x one o n = post_then _ _ (wp_word m 3 0 c bs (λ w a bs. sized_post t (size_of w) m _ bs (stage_at x a) one o n))

-- ---- values

ok_at : {m : Memory} {c : Cursor} (a : ℕ) → Ok m c → Ok m (at_to c a)
ok_at a x =
    record { rows_in = x.rows_in; store_in = x.store_in; strings = x.strings; names = x.names; traits = x.traits; objects = x.objects }

val_at : {g : Given} {m m' : Memory} {c c' : Cursor} (a : ℕ) → Val g m (at_to c a) m' c' → Val g m c m' c'
val_at a v =
    let k = v.keep in
    record {
      ok = v.ok;
      keep = record { rows_up = k.rows_up; rows = k.rows; store_up = k.store_up; store = k.store; long = k.long };
      newer = v.newer;
      fin = v.fin;
      marked = v.marked;
      each = v.each;
    }

-- a value whose marker is there
module _ (value : Values) (reads : Reads value) (g : Given) (k : Key) (m : Memory) (c : Cursor) (ok : Ok m c) (meets : Meets (land_of m c) g k)
    (room : c.rows * row_width + row_width ≤ length m.rows) where
  leaf-val : {q v : ℕ} → Number q v
      → Val g m c (with_rows m (sets m.rows (c.rows * row_width) (q ∷ k.mark ∷ k.begin ∷ k.size ∷ 0 ∷ 0 ∷ 0 ∷ 0 ∷ v ∷ 0 ∷ 0 ∷ (c.rows + 1) ∷ [])))
      (rows_to c (c.rows + 1))
  leaf-val {q} {v} n =
      let cs : List ℕ = q ∷ k.mark ∷ k.begin ∷ k.size ∷ 0 ∷ 0 ∷ 0 ∷ 0 ∷ v ∷ 0 ∷ 0 ∷ (c.rows + 1) ∷ [] in
      val_of {k = k} (begin-ok ok cs refl room) (begin-keep ok cs refl room) (omega arith) meets (number n (omega arith)) refl (begin-row ok cs refl room)
      (λ i a b. absurd (omega arith))

  -- no leaf
  opened : {b : ℕ} {kind : decide.Kind} (bs : List ℕ) → Marks b kind → 4 ≤ b
      → Post (λ x. Val g m c) (reading.marked value c.rows kind (with_rows m (sets m.rows (c.rows * row_width) (new_row b k c.rows)))
      (rows_to c (c.rows + 1)) bs)
  opened {b} bs t h =
      let cs : List ℕ = b ∷ k.mark ∷ k.begin ∷ k.size ∷ 0 ∷ 0 ∷ 0 ∷ 0 ∷ 0 ∷ 0 ∷ 0 ∷ 0 ∷ [] in
      rw (new-row b k c.rows h) (marked_post g k m c ok meets value reads t _ _ bs h (stage-begin ok cs refl room refl) (omega arith) refl refl)

  begun : {b : ℕ} {kind : decide.Kind} (bs : List ℕ) → Marks b kind
      → Post (λ x. Val g m c) (reading.marked value c.rows kind (with_rows m (sets m.rows (c.rows * row_width) (new_row b k c.rows)))
      (rows_to c (c.rows + 1)) bs)
  unfolding new_row reading.marked
  begun bs at_undefined = gets (leaf-val undefined)
  begun bs at_null = gets (leaf-val null)
  begun bs at_false = gets (leaf-val (boolean {v = 0} (omega arith)))
  begun bs at_true = gets (leaf-val (boolean {v = 1} (omega arith)))
  begun bs at_integer = opened bs at_integer (omega arith)
  begun bs at_double = opened bs at_double (omega arith)
  begun bs at_string = opened bs at_string (omega arith)
  begun bs at_object = opened bs at_object (omega arith)
  begun bs (at_body t) = opened bs (at_body t) (body-high t)

-- every value, where so many may still open
pub value-reads : (left : ℕ) → Reads (reading.value left)
unfolding reading.value
value-reads zero g k m c bs x h = post_then _ _ (wp_byte m c bs (λ b bs. post_then _ _
    (post_by _ m bs _ (wp_marker k zero b m.rows _ (λ l r bs. stops)))))
value-reads (suc left) g k m c bs x h = post_then _ _ (wp_byte m c bs (λ b bs. post_then _ _
    (post_by _ m bs _ (wp_marker k (suc left) b m.rows _ (λ l r bs.
    post_map _ (begun (reading.value left) (value-reads left) g k m (at_to c (suc c.at)) (ok_at (suc c.at) x) h r bs (marks b l))
    (λ u m' c' v. val_at (suc c.at) v))))))
