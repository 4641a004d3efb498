-- Values that hold no others: read alike.
use mathlib.Core.Path.{◌≡◌, refl, ap, ◌∙◌}
use mathlib.Core.Bool.{Bool, true, false, cond, not}
use mathlib.Core.List.{List, [], ◌∷◌}
use Prim.Native.Nat.{ℕ, zero, suc, ◌+◌, ◌-◌, ◌*◌, ◌/◌, ◌<◌, ◌≤◌}
use native.Mathlib.Omega.{arith}
use native.Mathlib.Nat.{lt_of_lt_of_le}
use borrow.Author.Tests.{le-ltb, ltb-false}
use lib.Dec.{ltb, eqb, lit≤, lit<}
use lib.ListN.{length, set}
use Rattle.rows.specs.declared.Cursor.{Cursor}
use Rattle.rows.specs.declared.Span.{Span}
use Rattle.rows.specs.declared.Key.{Key}
use Rattle.rows.specs.Memory.{Memory, span, no_span, put, col_end}
use Rattle.wire.specs.Sign.{integer_of, column_of, of_column}
use Rattle.wire.specs.Date.{refused_date}
use Rattle.wire.proofs.Octets.{Bytes}
use Rattle.wire.proofs.Sign.{of-column, has-bits, bits-integer}
use Rattle.utf8.specs.Grammar.{valid_text, follow}
use Rattle.utf8.proofs.Fold.{fold_valid}
use Rattle.format.specs.Decide.{store_to, on_rows, looking, closed, numbered, integer_end, date_end, bodied, judged, flagged, fixed, grown}
use Rattle.format.specs.Decide.{reserved, Width, width_of}
use Rattle.format.specs.Decide as dec
use Rattle.format.specs.Reading.{ResultOf, ok, bind, ret, Reader, Values, decided, by, taken}
use Rattle.format.specs.Reading as our
use Rattle.format.specs.Unfold.{part}
use Rattle.format.proofs.Tests.{on_bool}
use Rattle.format.specs.Standard as std
use Rattle.format.specs.Standard.{Tables, Std, Tree, Plain, plain, integer, double, string, byte_array, date, xml_of, vector_of}
use Rattle.format.proofs.Memories.{with_rows}
use Rattle.format.proofs.Alike.{Left, Agree, fine, both, then, flat, byte-then, word-then, number-then}
use Rattle.meaning.proofs.Rep.{Face, leaf, flag_of, own-rep}
use Rattle.meaning.proofs.Changes.{set_object, sim_reserve, sim-settle}
use Rattle.meaning.proofs.Stage.{quiet_same, Val, Stage, stage-quiet, stage_at, stage-put, face_of, slot_of, ends-own, ends-val}
use Rattle.meaning.proofs.Texts.{limit, quiet_reserve, part_none, Lasting, chars-alike, Growing, fill-alike, Reserving, text-then}
use Rattle.meaning.proofs.Loops.{stage-used}
use Rattle.meaning.proofs.Ends.{NewAlike, free, opening, ends-object, ends-free}
use Rattle.rows.specs.Kinds.{kind_byte_array}

-- ---- a number's end

module _ {m₀ : Memory} {c₀ : Cursor} {b : ℕ} {k : Key} {m : Memory} {c : Cursor} {s : Tables} (p : Plain) (n : ℕ) where
  numbered-val : {o : Bool} → Stage o m₀ c₀ (opening b k) c.store m c s → c₀.at < c.at
      → leaf (face_of (set (opening b k) 8 n) m.store) ≡ plain p
      → Val m₀ c₀ k tt (with_rows m (put (put m.rows c₀.rows 8 n) c₀.rows col_end c.rows)) c (plain p)
      (set_object (slot_of o c₀ c) (plain p) s)
  numbered-val x l i =
      let x₁ = stage-put x 8 n (omega arith) in
      let w = ends-own x₁ (plain p) i (omega arith) tt in
      ends-val x₁ k (plain p) refl refl l (own-rep (plain p) _ c₀.rows w) (λ e. w)

  -- no object
  number-free : {whole : List ℕ} (bs : List ℕ) → Stage false m₀ c₀ (opening b k) c.store m c s → c₀.at < c.at
      → leaf (face_of (set (opening b k) 8 n) m.store) ≡ plain p → Left whole c.at bs
      → Agree whole (Val m₀ c₀ k) (decided (on_rows (numbered c₀.rows n) m c) m bs) (ok (plain p) s c.at bs)
  unfolding numbered
  number-free bs x l i r = let v = numbered-val x l i in rw (stage-used x) (fine r (rw (free c.store (plain p) x.sim) at v))

  number-object : {whole : List ℕ} (bs : List ℕ) → Stage true m₀ c₀ (opening b k) c.store m c s → c₀.at < c.at
      → leaf (face_of (set (opening b k) 8 n) m.store) ≡ plain p → Left whole c.at bs
      → Agree whole (Val m₀ c₀ k) (decided (on_rows (numbered c₀.rows n) m c) m bs) (ok (plain p) (set_object c₀.objects (plain p) s) c.at bs)
  unfolding numbered
  number-object bs x l i r = rw (stage-used x) (fine r (numbered-val x l i))

-- an integer goes into its column and back
column-back : (w : ℕ) → of_column (column_of (integer_of w)) ≡ integer_of w
column-back w = let h = (has-bits (integer_of w) _ (bits-integer w)).0 in of-column (integer_of w) (lt_of_lt_of_le h (lit≤ tt))

-- the bits of a date
dated-alike : {whole : List ℕ} {m₀ : Memory} {c₀ : Cursor} {k : Key} {m : Memory} {c : Cursor} {s : Tables} (w : ℕ) (bs : List ℕ)
    → Stage true m₀ c₀ (opening 8 k) c.store m c s → c₀.at < c.at → Left whole c.at bs
    → Agree whole (Val m₀ c₀ k) (decided (on_rows (date_end c₀.rows w) m c) m bs)
    (bind (std.dated w s c.at bs) (std.shut c₀.objects))
unfolding date_end std.shut
dated-alike w bs x a l =
    rw (stage-used x) (on_bool (refused_date w) (λ e. rw e (both (lit≤ tt) (lit≤ tt))) (λ e. rw e (number-object (date w) w bs x a refl l)))

-- ---- numbers

module _ (whole : List ℕ) (octets : Bytes whole) (value : Values) (tree : Std Tree) (f : ℕ)
    (k : Key) {m₀ : Memory} {c₀ : Cursor} {m : Memory} {c : Cursor} {s : Tables} (bs : List ℕ)
    (l : Left whole c.at bs) (a : c₀.at < c.at) where
  pub integer-alike : Stage false m₀ c₀ (opening 4 k) c.store m c s
      → Agree whole (Val m₀ c₀ k) (our.marked value c₀.rows dec.integer m c bs) (std.marked tree f 4 dec.integer s c.at bs)
  unfolding our.marked std.marked integer_end
  integer-alike x = word-then whole octets m s 3 0 c bs _ _ (omega arith) (lit< tt) l (λ w n bs l h i.
      number-free (integer (integer_of w)) (column_of (integer_of w)) bs (stage_at x n (omega arith) i) (omega arith)
      (ap (λ z. plain (integer z)) (column-back w)) l)

  pub double-alike : Stage false m₀ c₀ (opening 5 k) c.store m c s
      → Agree whole (Val m₀ c₀ k) (our.marked value c₀.rows dec.double m c bs) (std.marked tree f 5 dec.double s c.at bs)
  unfolding our.marked std.marked
  double-alike x = number-then whole octets m s 7 0 c bs _ (λ v. ret (plain (double v))) (omega arith) (lit< tt) l (λ w n bs l h i.
      number-free (double w) w bs (stage_at x n (omega arith) i) (omega arith) refl l)

  pub date-alike : (n : ℕ) → Stage true m₀ c₀ (opening 8 k) c.store m c s → NewAlike whole value tree f k m₀ c₀ 8 dec.date n m c s bs
  unfolding our.new_of std.new_of
  date-alike n x = rw flat (number-then whole octets m s 7 0 c bs _ (λ v m c bs. bind (std.dated v m c bs) (std.shut c₀.objects))
      (omega arith) (lit< tt) l (λ w n bs l h i.
      dated-alike w bs (stage_at x n (omega arith) i) (omega arith) l))

-- ---- bodies

-- a row in work, some of its columns whatever they be
abbrev pub Some : Bool → Memory → Cursor → {I : Type 0} → (I → List ℕ) → ℕ → Memory → Cursor → Tables → Type 0
Some o m₀ c₀ {I} cs u m c s = (i : I) × Stage o m₀ c₀ (cs i) u m c s

pub some-lasting : (o : Bool) (m₀ : Memory) (c₀ : Cursor) {I : Type 0} (cs : I → List ℕ) → Lasting (Some o m₀ c₀ cs)
some-lasting o m₀ c₀ cs = record { sim = λ h. h.1.sim; quiet = λ v h l q y. (h.0, stage-quiet h.1 v l q y) }

-- all that is used of the store is settled
pub settle : {o : Bool} {m₀ : Memory} {c₀ : Cursor} {cs : List ℕ} {u : ℕ} {m : Memory} {c : Cursor} {s : Tables} → Stage o m₀ c₀ cs u m c s
    → Stage o m₀ c₀ cs c.store m c s
settle {u = u} {m = m} {c = c} x = let h = x.sim.settled in stage-quiet x c.store h (quiet_same u m c) (sim-settle x.sim c.store h (omega arith))

abbrev pub body_of : ℕ → Key → Span → List ℕ
body_of b k sp = b ∷ k.mark ∷ k.begin ∷ k.size ∷ sp.begin ∷ sp.size ∷ 0 ∷ 0 ∷ 0 ∷ 0 ∷ 0 ∷ 0 ∷ []

-- a row shows its body
body-put : {o : Bool} {m₀ : Memory} {c₀ : Cursor} {b : ℕ} {k : Key} {old : Span} {u : ℕ} {m : Memory} {c : Cursor} {s : Tables} (sp : Span)
    → Stage o m₀ c₀ (body_of b k old) u m c s → Stage o m₀ c₀ (body_of b k sp) u
    (with_rows m (put (put m.rows c₀.rows 4 sp.begin) c₀.rows 5 sp.size)) c s
body-put sp x = stage-put (stage-put x 4 sp.begin (omega arith)) 5 sp.size (omega arith)

-- a string's row shows its span as soon as it is reserved
shows : (whole : List ℕ) (octets : Bytes whole) (m₀ : Memory) (c₀ : Cursor) (k : Key)
    → Reserving whole octets (some-lasting false m₀ c₀ (body_of 6 k)) (λ s. by (on_rows (bodied c₀.rows s)))
unfolding bodied
shows whole octets m₀ c₀ k = record {
  done = λ {u} {m} {c} {s} sp bs j.
      (with_rows m (put (put m.rows c₀.rows 4 sp.begin) c₀.rows 5 sp.size), rw (stage-used j.1), (sp, body-put sp j.1));
}

module _ (whole : List ℕ) (octets : Bytes whole) (value : Values) (tree : Std Tree) (f : ℕ)
    (k : Key) {m₀ : Memory} {c₀ : Cursor} {m : Memory} {c : Cursor} {s : Tables} (bs : List ℕ)
    (l : Left whole c.at bs) (a : c₀.at < c.at) where
  pub string-alike : Stage false m₀ c₀ (opening 6 k) c.store m c s
      → Agree whole (Val m₀ c₀ k) (our.marked value c₀.rows dec.string m c bs) (std.marked tree f 6 dec.string s c.at bs)
  unfolding our.marked std.marked bodied
  string-alike x = text-then whole octets (some-lasting false m₀ c₀ (body_of 6 k)) _ (shows whole octets m₀ c₀ k) m c s bs _ _ (no_span, x) l
      (λ sp m₁ c₁ xs s₁ bs l j t d.
      let x₁ = body-put sp j.1 in
      rw (stage-used j.1) (ends-free bs k (plain (string xs)) x₁ refl refl (omega arith) (ap (λ z. plain (string z)) t.0) t.1 tt l))

-- room for a body of n bytes
room-then : {whole : List ℕ} {A B : Type 0} {Q : A → Memory → Cursor → B → Tables → Type 0} {m₀ : Memory} {c₀ : Cursor} {b : ℕ} {k : Key} (n : ℕ)
    (m : Memory) (c : Cursor) (s : Tables) (bs : List ℕ) (f : Span → Reader A) {y : ResultOf Tables ℕ B}
    → Stage true m₀ c₀ (opening b k) c.store m c s → ((sp : Span) (R : List ℕ) (z : ℕ)
    → Stage true m₀ c₀ (body_of b k sp) c.store (with_rows m R) (store_to c z) s → sp.size ≡ n → (0 < n → sp.begin ≡ c.store)
    → sp.begin + sp.size ≤ z → Agree whole Q (f sp (with_rows m R) (store_to c z) bs) y) → Agree whole Q (bind (our.room c₀.rows n m c bs) f) y
unfolding our.room reserved bodied
room-then zero m c s bs f x k = k no_span m.rows c.store x refl (λ h. absurd (omega arith)) (omega arith)
room-then {c₀ = c₀} (suc n) m c s bs f x k =
    let i = x.sim.store_in in
    rw (flat, le-ltb (length m.store) c.store i)
    (limit (λ u. m) (ltb (length m.store) (c.store + suc n)) 10 2 c.at _ m bs _ (lit≤ tt) (lit≤ tt) (λ q.
    let d = ltb-false (length m.store) (c.store + suc n) q in
    let x₁ = stage-quiet x c.store (omega arith) (quiet_reserve c.store m c (c.store + suc n) (omega arith))
    (sim_reserve x.sim (c.store + suc n) (omega arith) d) in
    let sp : Span = span c.store (suc n) in
    rw (stage-used x₁) (k sp _ (c.store + suc n) (body-put sp x₁) refl (λ h. refl) (omega arith))))

no_bytes : (s : Tables) (p : ℕ) (bs : List ℕ) → std.bytes 0 s p bs ≡ ok [] s p bs
unfolding std.bytes
no_bytes s p bs = refl

no-chars : (s : Tables) (p : ℕ) (bs : List ℕ) → std.chars 0 s p bs ≡ ok [] s p bs
unfolding std.chars std.bytes valid_text follow
no-chars s p bs = refl

-- a raw body
module _ (whole : List ℕ) (octets : Bytes whole) {J : ℕ → Memory → Cursor → Tables → Type 0} (lasting : Lasting J) where
  filled-then : {A B : Type 0} {Q : A → Memory → Cursor → B → Tables → Type 0} (grow : ℕ → Reader Unit) → Growing whole octets lasting grow
      → (z n u : ℕ) → z ≡ n → (sp : Span) (m : Memory) (c : Cursor) (s : Tables) (bs : List ℕ) (f : Unit → Reader A) (g : List ℕ → Std B) → J u m c s
      → sp.size ≡ z → (0 < n → u ≤ sp.begin) → sp.begin + sp.size ≤ c.store → Left whole c.at bs
      → ((m₁ : Memory) (c₁ : Cursor) (ys : List ℕ) (s₁ : Tables) (bs : List ℕ) → J u m₁ c₁ s₁ → part m₁.store sp.begin sp.size ≡ ys
      → c.store ≤ c₁.store → c.at ≤ c₁.at → Left whole c₁.at bs → Agree whole Q (f tt m₁ c₁ bs) (g ys s₁ c₁.at bs))
      → Agree whole Q (bind (our.filled grow sp z m c bs) f) (bind (std.bytes n s c.at bs) g)
  unfolding our.filled
  filled-then grow r zero zero u e sp m c s bs f g j h w i l k =
      rw (no_bytes s c.at bs) (k m c [] s bs j (rw h (part_none m.store sp.begin)) (omega arith) (omega arith) l)
  filled-then grow r zero (suc n) u e sp m c s bs f g j h w i l k = absurd (omega arith)
  filled-then grow r (suc z) zero u e sp m c s bs f g j h w i l k = absurd (omega arith)
  filled-then grow r (suc z) (suc n) u e sp m c s bs f g j h w i l k =
      let q : z ≡ n = omega arith in
      rw q (then _ _ (fill-alike whole octets lasting grow r n u [] sp m c s bs j (w (omega arith)) (part_none m.store sp.begin)
      (omega arith) i l) (λ v m₁ c₁ ys s₁ bs l g.
      let p = g.more in k m₁ c₁ ys s₁ bs g.inv g.text g.up (omega arith) l))

-- what its face says, by its kind
abbrev pub Xml : ℕ → Type 0
Xml b = (F : Face) → F.kind ≡ b → leaf F ≡ plain (xml_of b F.body)

abbrev pub Raw : ℕ → Type 0
Raw b = (F : Face) → F.kind ≡ b → leaf F ≡ plain (vector_of b (flag_of F) F.body)

-- a raw vector's row counts the entries that are there
abbrev raw_of : ℕ → Key → Span → ℕ → ℕ → List ℕ
raw_of b k sp flag n = b ∷ k.mark ∷ k.begin ∷ k.size ∷ sp.begin ∷ sp.size ∷ 0 ∷ flag ∷ 0 ∷ n ∷ 0 ∷ 0 ∷ []

growing : (whole : List ℕ) (octets : Bytes whole) (m₀ : Memory) (c₀ : Cursor) (b : ℕ) (k : Key) (sp : Span) (flag : ℕ) (w : Width)
    → Growing whole octets (some-lasting true m₀ c₀ (raw_of b k sp flag)) (λ left. by (on_rows (grown c₀.rows w sp left)))
unfolding grown
growing whole octets m₀ c₀ b k sp flag w = record {
  grown = λ {u} {m} {c} {s} left bs j. (
    with_rows m (put m.rows c₀.rows 9 ((sp.size - left) / width_of w)),
    rw (stage-used j.1),
    ((sp.size - left) / width_of w, stage-put j.1 9 ((sp.size - left) / width_of w) (omega arith)),
    refl,
  );
}

pub fixed-flag : (g : ℕ) → not (eqb (fixed g) 0) ≡ not (eqb g 0)
fixed-flag g = either (eqb g 0)
  where
    either : (t : Bool) → not (eqb (cond t 0 1) 0) ≡ not t
    either true = refl
    either false = refl

module _ (whole : List ℕ) (octets : Bytes whole) (value : Values) (tree : Std Tree) (f : ℕ)
    (k : Key) {m₀ : Memory} {c₀ : Cursor} {m : Memory} {c : Cursor} {s : Tables} (bs : List ℕ)
    (l : Left whole c.at bs) (a : c₀.at < c.at) where
  xml-none : (b : ℕ) → Xml b → Stage true m₀ c₀ (opening b k) c.store m c s → NewAlike whole value tree f k m₀ c₀ b dec.xml zero m c s bs
  unfolding our.new_of std.new_of our.room our.chars_of judged std.shut
  xml-none b q x = rw (no-chars s c.at bs)
      (ends-object bs k (plain (xml_of b [])) x refl refl a
      (q (face_of (opening b k) m.store) refl ∙ ap (λ z. plain (xml_of b z)) (part_none m.store 0)) (omega arith) tt l)

  xml-some : (b n : ℕ) → Xml b → Stage true m₀ c₀ (opening b k) c.store m c s → NewAlike whole value tree f k m₀ c₀ b dec.xml (suc n) m c s bs
  unfolding our.new_of std.new_of our.chars_of std.chars std.shut judged
  xml-some b n q x = room-then (suc n) m c s bs _ x (λ sp R z x₁ e d w.
      let p = d (omega arith) in
      rw (flat, flat) (then _ _ (chars-alike whole octets (some-lasting true m₀ c₀ (λ (i : Unit {0}). body_of b k sp)) n 0 c.store [] sp
      (with_rows m R) (store_to c z) s bs (tt, x₁) (omega arith)
      (part_none m.store sp.begin) (omega arith) w l) (λ v m₁ c₁ ys s₁ bs l g. rw (g.0 ∙ fold_valid ys)
      (let h = g.1 in
      let u = h.up in
      let o = h.more in
      verdict (valid_text ys) b sp m₁ c₁ ys s₁ bs q (settle h.inv.1) h.text (omega arith) (omega arith) l))))
    where
      verdict : (v : Bool) (b : ℕ) (sp : Span) (m₁ : Memory) (c₁ : Cursor) (ys : List ℕ) (s₁ : Tables) (bs : List ℕ) → Xml b
          → Stage true m₀ c₀ (body_of b k sp) c₁.store m₁ c₁ s₁ → part m₁.store sp.begin sp.size ≡ ys → sp.begin + sp.size ≤ c₁.store
          → c₀.at < c₁.at → Left whole c₁.at bs → Agree whole (Val m₀ c₀ k)
          (bind (decided (looking (λ m. judged v) m₁ c₁) m₁ bs) (λ x. by (on_rows (closed c₀.rows))))
          (bind (cond v (ret ys) (std.fail 8 0) s₁ c₁.at bs)
          (λ t s p bs. ok (plain (xml_of b t)) (set_object c₀.objects (plain (xml_of b t)) s) p bs))
      verdict false b sp m₁ c₁ ys s₁ bs q x t w a l = both (lit≤ tt) (lit≤ tt)
      verdict true b sp m₁ c₁ ys s₁ bs q x t w a l =
          ends-object bs k (plain (xml_of b ys)) x refl refl a (q (face_of (body_of b k sp) m₁.store) refl ∙ ap (λ z. plain (xml_of b z)) t) w tt l

  pub xml-alike : (b n : ℕ) → Xml b → Stage true m₀ c₀ (opening b k) c.store m c s → NewAlike whole value tree f k m₀ c₀ b dec.xml n m c s bs
  xml-alike b zero q x = xml-none b q x
  xml-alike b (suc n) q x = xml-some b n q x

  pub bytes-alike : (n : ℕ) → Stage true m₀ c₀ (opening kind_byte_array k) c.store m c s → NewAlike whole value tree f k m₀ c₀ kind_byte_array dec.bytes n m c s bs
  unfolding our.new_of std.new_of std.shut
  bytes-alike n x = rw flat (room-then n m c s bs _ x (λ sp R z x₁ e d w.
      filled-then whole octets (some-lasting true m₀ c₀ (λ (i : Unit {0}). body_of kind_byte_array k sp)) (λ left. ret tt)
      (record { grown = λ {u} {m} {c} {s} left bs j. (m, refl, j, refl) }) n n c.store refl sp
      (with_rows m R) (store_to c z) s bs _ _ (tt, x₁) e (λ h. let g = d h in omega arith) w l (λ m₁ c₁ ys s₁ bs j t u h l.
      ends-object bs k (plain (byte_array ys)) (settle j.1) refl refl (omega arith) (ap (λ z. plain (byte_array z)) t) (omega arith) tt l)))

  pub raw-alike : (b n : ℕ) (w : Width) → Raw b → Stage true m₀ c₀ (opening b k) c.store m c s
      → NewAlike whole value tree f k m₀ c₀ b (dec.raw w) n m c s bs
  unfolding our.new_of std.new_of std.shut flagged
  raw-alike b n w q x = rw flat (room-then (n * width_of w) m c s bs _ x (λ sp R z x₁ e d v.
      byte-then whole octets (with_rows m R) s (store_to c z) bs _ _ l (λ g bs l o i.
      let x₂ = stage_at x₁ (suc c.at) (omega arith) i in
      rw (flat, flat, stage-used x₂) (filled-then whole octets (some-lasting true m₀ c₀ (raw_of b k sp (fixed g))) _
      (growing whole octets m₀ c₀ b k sp (fixed g) w) sp.size (n * width_of w) c.store e sp
      _ (taken (store_to c z)) s bs _ _ (0, stage-put x₂ 7 (fixed g) (omega arith)) refl (λ h. let p = d h in omega arith) v l (λ m₁ c₁ ys s₁ bs j t u h l.
      ends-object bs k (plain (vector_of b (not (eqb g 0)) ys)) (settle j.1) refl refl (omega arith)
      (q (face_of (raw_of b k sp (fixed g) j.0) m₁.store) refl ∙ ap (λ z. plain (vector_of b z (part m₁.store sp.begin sp.size)))
      (fixed-flag g)
      ∙ ap (λ z. plain (vector_of b (not (eqb g 0)) z)) t) (omega arith) tt l)))))
