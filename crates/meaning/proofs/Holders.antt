-- Values that hold others: read alike, if the values that they hold are.
use mathlib.Core.Path.{◌≡◌, refl, sym, ap, ◌∙◌}
use mathlib.Core.Bool.{Bool, true, false, cond, not}
use mathlib.Core.List.{List, [], ◌∷◌}
use mathlib.Core.Option.{Option, none, some}
use Prim.Native.Nat.{ℕ, zero, suc, ◌+◌, ◌<◌, ◌≤◌}
use native.Mathlib.Omega.{arith}
use borrow.Author.Tests.{le-ltb, le-leb, eq-eqb, ne_eqb}
use lib.Dec.{eqb, lit≤}
use lib.ListN.{length, get_or, drop, set}
use lib.Seq.{get_or-take, get_or-drop}
use Rattle.rows.specs.declared.Cursor.{Cursor}
use Rattle.rows.specs.declared.Span.{Span}
use Rattle.rows.specs.declared.Key.{Key}
use Rattle.rows.specs.declared.Trait.{Trait}
use Rattle.rows.specs.Memory.{Memory, span, no_span, no_key, put}
use Rattle.wire.specs.declared.Shape.{Shape}
use Rattle.wire.specs.declared.Shape.TheVariants.{Object, Known, External, Inline}
use Rattle.wire.proofs.Octets.{Bytes}
use Rattle.format.specs.Decide.{on_rows, looking, closed, classed, object_class, vector_class, fixed, weak, flagged, trait_of}
use Rattle.format.specs.Decide.{starred, traits_to, objects_to}
use Rattle.format.specs.Decide as dec
use Rattle.format.specs.Reading.{ResultOf, ok, bind, Reader, Values, decided, by, taken, plain}
use Rattle.format.specs.Reading as our
use Rattle.format.specs.Unfold.{part}
use Rattle.format.specs.Standard as std
use Rattle.format.specs.Standard.{Tables, Traits, Std, Tree, array, object, object_vector, dictionary, count, count_pairs}
use Rattle.format.proofs.Tests.{flag-back}
use Rattle.format.proofs.Memories.{with_rows}
use Rattle.format.proofs.Alike.{Left, Agree, both, then, flat, byte-then}
use Rattle.meaning.proofs.Rep.{Text, text-ext, repp_ext}
use Rattle.meaning.proofs.Tables.{Sim, Names, TraitRep}
use Rattle.meaning.proofs.Changes.{add_traits, set_object}
use Rattle.meaning.proofs.Stage.{Val, Stage, stage_at, stage-put}
use Rattle.meaning.proofs.Texts.{part_none, text-then, text-size}
use Rattle.meaning.proofs.Naming.{lasting, held, nothing, keep-text, names-alike, known-then, enter_trait}
use Rattle.meaning.proofs.Loops.{stage-used, begun, trees-alike, entries-alike, sealed-alike, pairs-alike, dynamics-alike}
use Rattle.meaning.proofs.Ends.{NewAlike, opening, ends-object, enter-then, refer-alike}
use Rattle.meaning.proofs.Plains.{fixed-flag}

-- ---- classes

-- whether a vector's class is `*`
star-then : {whole : List ℕ} {A B : Type 0} {Q : A → Memory → Cursor → B → Tables → Type 0} (sp : Span) (xs : List ℕ) (m : Memory) (c : Cursor)
    (s : Tables) (bs : List ℕ) (f : Bool → Reader A) {y : ResultOf Tables ℕ B} → Sim c.store m c s
    → Text m.store c.store sp.begin sp.size xs
    → ((star : Bool) → cond star none (some xs) ≡ std.starred xs → Agree whole Q (f star m c bs) y)
    → Agree whole Q (bind (decided (looking (λ m. starred sp m.store) m c) m bs) f) y
unfolding starred std.starred part
star-then sp [] m c s bs f x t k =
    let z = text-size m.store c.store sp.begin sp.size [] t x.store_in in
    rw (ne_eqb sp.size 1 (λ e. omega arith)) (k false refl)
star-then sp (y ∷ []) m c s bs f x t k =
    let z = text-size m.store c.store sp.begin sp.size (y ∷ []) t x.store_in in
    let e : get_or (part m.store sp.begin sp.size) 0 0 ≡ y = rw t.0 in
    let g : get_or (part m.store sp.begin sp.size) 0 0 ≡ get_or m.store (sp.begin + 0) 0 =
    get_or-take sp.size (drop sp.begin m.store) 0 0 (omega arith) ∙ get_or-drop sp.begin m.store 0 0 in
    let h : sp.begin + 0 ≡ sp.begin = omega arith in
    let v : get_or m.store sp.begin 0 ≡ y = ap (λ i. get_or m.store i 0) (sym h) ∙ sym g ∙ e in
    rw (eq-eqb sp.size 1 (omega arith), le-ltb (length m.store) c.store x.store_in, le-leb (sp.begin + sp.size) c.store t.1, v)
    (k (eqb y 0x2A) refl)
star-then sp (y ∷ z ∷ zs) m c s bs f x t k =
    let w = text-size m.store c.store sp.begin sp.size (y ∷ z ∷ zs) t x.store_in in
    rw (ne_eqb sp.size 1 (λ e. omega arith)) (k false refl)

-- a row has a class, or mark 0
class-put : {o : Bool} {m₀ : Memory} {c₀ : Cursor} {cs : List ℕ} {u : ℕ} {m : Memory} {c : Cursor} {s : Tables} (mark : ℕ) (sp : Span)
    → Stage o m₀ c₀ cs u m c s → Stage o m₀ c₀ (set (set (set cs 6 mark) 4 sp.begin) 5 sp.size) u
    (with_rows m (put (put (put m.rows c₀.rows 6 mark) c₀.rows 4 sp.begin) c₀.rows 5 sp.size)) c s
class-put mark sp x = stage-put (stage-put (stage-put x 6 mark (omega arith)) 4 sp.begin (omega arith)) 5 sp.size (omega arith)

-- the columns of an object's row with its class
abbrev class_of : Key → Trait → List ℕ
class_of k t = set (set (set (opening 10 k) 6 (cond (eqb t.size 0) 0 1)) 4 t.begin) 5 t.size

-- a trait with no names has first name 0
first-name : (B : List ℕ) (u : ℕ) (N : List ℕ) (k n : ℕ) (xs : List (List ℕ)) → length xs ≡ n → Names B u N k xs
    → Names B u N (cond (eqb n 0) 0 k) xs × (cond (eqb n 0) 0 k + n ≤ k + n)
first-name B u N k zero [] e h = (tt, omega arith)
first-name B u N k zero (x ∷ xs) e h = absurd (omega arith)
first-name B u N k (suc n) xs e h = rw (ne_eqb (suc n) 0 (λ e. omega arith)) (h, omega arith)

-- an empty class is none
class-given : (z : ℕ) (xs : List ℕ) → length xs ≡ z → cond (eqb (cond (eqb z 0) 0 1) 0) none (some xs) ≡ std.class_given xs
unfolding std.class_given
class-given zero [] e = refl
class-given zero (x ∷ xs) e = absurd (omega arith)
class-given (suc z) [] e = absurd (omega arith)
class-given (suc z) (x ∷ xs) e = rw (ne_eqb (suc z) 0 (λ e. omega arith))

module _ (whole : List ℕ) (octets : Bytes whole) (value : Values) (tree : Std Tree) (f : ℕ) (fuel : length whole < f) (low : ℕ)
    (ih : (k : Key) (m : Memory) (c : Cursor) (s : Tables) (bs : List ℕ) → Sim c.store m c s → Left whole c.at bs → low ≤ c.at
    → Agree whole (Val m c k) (value k m c bs) (tree s c.at bs)) (k : Key) {m₀ : Memory} {c₀ : Cursor} where
  pub array-alike : (n : ℕ) (m : Memory) (c : Cursor) (s : Tables) (bs : List ℕ) → Stage true m₀ c₀ (opening 9 k) c.store m c s
      → c.rows ≡ suc c₀.rows → c₀.at < c.at → low ≤ c.at → Left whole c.at bs → NewAlike whole value tree f k m₀ c₀ 9 dec.array n m c s bs
  unfolding our.new_of std.new_of std.shut
  array-alike n m c s bs x e a b l =
      rw (flat, flat) (then _ _ (pairs-alike whole octets value tree low ih m₀ c₀ f (opening 9 k) 9 m c s bs x (omega arith) b (omega arith) l)
      (λ v m₁ c₁ ps s₁ bs l r.
      let u = r.up in
      rw flat (then _ _ (trees-alike whole octets value tree low ih m₀ c₀ n (set (opening 9 k) 9 (0 + count_pairs ps)) 10 0 m₁ c₁ s₁ bs r.stage
      (omega arith) (begun r.stage) (omega arith) l)
      (λ v m₂ c₂ ts s₂ bs l r₂.
      let u₂ = r₂.up in
      ends-object bs k (array ps ts) r₂.stage refl refl (omega arith) (refl, omega arith, omega arith) (omega arith)
      (c₁.rows, repp_ext r₂.ext ps (suc c₀.rows) c₁.rows (rw e at r.kids), r₂.kids) l))))

  pub dictionary-alike : (n : ℕ) (m : Memory) (c : Cursor) (s : Tables) (bs : List ℕ) → Stage true m₀ c₀ (opening 17 k) c.store m c s
      → c.rows ≡ suc c₀.rows → c₀.at < c.at → low ≤ c.at → Left whole c.at bs
      → NewAlike whole value tree f k m₀ c₀ 17 dec.dictionary n m c s bs
  unfolding our.new_of std.new_of std.shut flagged
  dictionary-alike n m c s bs x e a b l = rw flat (byte-then whole octets m s c bs _ _ l (λ g bs l o i.
      let x₁ = stage_at x (suc c.at) (omega arith) i in
      let x₂ = stage-put x₁ 7 (weak g) (omega arith) in
      rw (flat, flat, stage-used x₁) (then _ _ (entries-alike whole octets value tree low ih m₀ c₀ n (set (opening 17 k) 7 (weak g)) 9 0 _
      (taken c) s bs x₂ (omega arith) (begun x₂) (omega arith) l)
      (λ v m₂ c₂ es s₂ bs l r.
      let u = r.up in
      ends-object bs k (dictionary (eqb g 1) es) r.stage refl refl (omega arith) (refl, weak-flag g, omega arith) (omega arith)
      (rw e at r.kids) l))))
    where
      weak-flag : (g : ℕ) → not (eqb (weak g) 0) ≡ eqb g 1
      weak-flag g = flag-back (eqb g 1)

  -- an object vector whose class is known
  vector-rest : (n g mark : ℕ) (q : Span) (zs : List ℕ) (class : Option (List ℕ)) (m : Memory) (c : Cursor) (s : Tables) (bs : List ℕ)
      → Stage true m₀ c₀ (set (opening 16 k) 7 (fixed g)) c.store m c s → c.rows ≡ suc c₀.rows → c₀.at < c.at → low ≤ c.at
      → Left whole c.at bs → Text m.store c.store q.begin q.size zs → cond (eqb mark 0) none (some zs) ≡ class
      → Agree whole (Val m₀ c₀ k) (bind (bind (decided (on_rows (classed c₀.rows mark q) m c) m bs)
      (λ x. our.entries (λ done. value no_key) c₀.rows 9 n 0)) (λ x. by (on_rows (closed c₀.rows))))
      (bind (std.trees tree n s c.at bs) (λ ts s p bs. ok (object_vector (not (eqb g 0)) class ts)
      (set_object c₀.objects (object_vector (not (eqb g 0)) class ts) s) p bs))
  unfolding classed
  vector-rest n g mark q zs class m c s bs x e a b l t w =
      let x₁ = class-put mark q x in
      rw (flat, stage-used x) (then _ _ (trees-alike whole octets value tree low ih m₀ c₀ n
      (set (set (set (set (opening 16 k) 7 (fixed g)) 6 mark) 4 q.begin) 5 q.size) 9 0 _ c s bs x₁
      (omega arith) (begun x₁) b l) (λ v m₂ c₂ ts s₂ bs l r.
      let u = r.up in
      let i = text-ext r.ext q.begin q.size zs t in
      ends-object bs k (object_vector (not (eqb g 0)) class ts) r.stage refl refl (omega arith)
      (refl, fixed-flag g, rw i.0 w, omega arith) i.1 (rw e at r.kids) l))

  vector-star : (star : Bool) (n g : ℕ) (sp : Span) (xs : List ℕ) (m : Memory) (c : Cursor) (s : Tables) (bs : List ℕ)
      → Stage true m₀ c₀ (set (opening 16 k) 7 (fixed g)) c.store m c s → c.rows ≡ suc c₀.rows → c₀.at < c.at → low ≤ c.at
      → Left whole c.at bs → Text m.store c.store sp.begin sp.size xs → cond star none (some xs) ≡ std.starred xs
      → Agree whole (Val m₀ c₀ k) (bind (bind (decided (on_rows (vector_class c₀.rows star sp) m c) m bs)
      (λ x. our.entries (λ done. value no_key) c₀.rows 9 n 0)) (λ x. by (on_rows (closed c₀.rows))))
      (bind (std.trees tree n s c.at bs) (λ ts s p bs. ok (object_vector (not (eqb g 0)) (std.starred xs) ts)
      (set_object c₀.objects (object_vector (not (eqb g 0)) (std.starred xs) ts) s) p bs))
  unfolding vector_class
  vector-star true n g sp xs m c s bs x e a b l t w = vector-rest n g 0 no_span [] (std.starred xs) m c s bs x e a b l
      (part_none m.store 0, omega arith) w
  vector-star false n g sp xs m c s bs x e a b l t w = vector-rest n g 1 sp xs (std.starred xs) m c s bs x e a b l t w

  pub vector-alike : (n : ℕ) (m : Memory) (c : Cursor) (s : Tables) (bs : List ℕ) → Stage true m₀ c₀ (opening 16 k) c.store m c s
      → c.rows ≡ suc c₀.rows → c₀.at < c.at → low ≤ c.at → Left whole c.at bs
      → NewAlike whole value tree f k m₀ c₀ 16 dec.objects n m c s bs
  unfolding our.new_of std.new_of std.shut flagged
  vector-alike n m c s bs x e a b l = rw flat (byte-then whole octets m s c bs _ _ l (λ g bs l o i.
      let x₁ = stage_at x (suc c.at) (omega arith) i in
      let x₂ = stage-put x₁ 7 (fixed g) (omega arith) in
      rw (flat, flat, stage-used x₁) (text-then whole octets (lasting true m₀ c₀ (set (opening 16 k) 7 (fixed g)) _ (taken c)) plain
      (nothing _ whole octets _) _ (taken c) s bs _ _ (held x₂) l
      (λ sp m₁ c₁ xs s₁ bs l j t d.
      let h = j.since.rows_same in
      rw flat (star-then sp xs m₁ c₁ s₁ bs _ j.stage.sim t (λ star w.
      vector-star star n g sp xs m₁ c₁ s₁ bs j.stage (h ∙ e) (omega arith) (omega arith) l t w))))))

  -- ---- objects

  -- its members, by its trait, and its end
  members_alike : (t : Trait) (z : Traits) (m : Memory) (c : Cursor) (s : Tables) (bs : List ℕ) → Stage true m₀ c₀ (class_of k t) c.store m c s
      → c.rows ≡ suc c₀.rows → c₀.at < c.at → low ≤ c.at → Left whole c.at bs → TraitRep m.store c.store m.names c.names t z
      → Agree whole (Val m₀ c₀ k) (our.members value c₀.rows t m c bs) (std.members tree f c₀.objects z s c.at bs)
  unfolding our.members std.members std.shut
  members_alike t z m c s bs x e a b l r =
      let n = r.count in
      let w = r.within in
      let o : t.first + 0 ≡ t.first = omega arith in
      rw (flat, n, r.dynamic) (then _ _ (sealed-alike whole octets value tree low ih m₀ c₀ z.names t.first (class_of k t) 9 0 m c s bs x
      (omega arith) (begun x) b l (rw o r.names) (omega arith))
      (λ v m₁ c₁ ps s₁ bs l q.
      let u = q.up in
      then _ _ (dynamics-alike whole octets value tree low ih m₀ c₀ z.dynamic f (set (class_of k t) 9 (0 + count_pairs ps)) m₁ c₁ s₁ bs q.stage
      (omega arith) fuel l)
      (λ v m₂ c₂ qs s₂ bs l q₂.
      let u₂ = q₂.up in
      let i = text-ext q₂.ext t.begin t.size z.class (text-ext q.ext t.begin t.size z.class r.class) in
      let g = text-size m.store c.store t.begin t.size z.class r.class x.sim.store_in in
      ends-object bs k (object (std.class_given z.class) ps qs) q₂.stage refl refl (omega arith)
      (refl, rw i.0 (class-given t.size z.class g), omega arith, refl) i.1
      (c₁.rows, repp_ext q₂.ext ps (suc c₀.rows) c₁.rows (rw e at q.kids), q₂.kids) l)))

  known_alike : (i : ℕ) (m : Memory) (c : Cursor) (s : Tables) (bs : List ℕ) → Stage false m₀ c₀ (opening 10 k) c.store m c s
      → c.rows ≡ suc c₀.rows → c₀.at < c.at → low ≤ c.at → Left whole c.at bs
      → Agree whole (Val m₀ c₀ k) (our.object_of value c₀.rows (Known i) m c bs) (std.object_of tree f (Known i) s c.at bs)
  unfolding our.object_of std.object_of std.opened object_class classed
  known_alike i m c s bs x e a b l =
      let o : length s.objects ≡ c₀.objects = sym x.sim.objects.many ∙ x.slot in
      rw (flat, o) (enter-then c.store m c s bs _ x (λ O x₁. known-then whole octets i _ (objects_to c (c.objects + 1)) _ bs _ _ x₁ (λ t z r.
      rw (stage-used x₁) (members_alike t z _ (objects_to c (c.objects + 1)) _ bs
      (class-put (cond (eqb t.size 0) 0 1) (span t.begin t.size) x₁) e a b l r))))

  external-alike : (m : Memory) (c : Cursor) (s : Tables) (bs : List ℕ) → Stage false m₀ c₀ (opening 10 k) c.store m c s → Left whole c.at bs
      → Agree whole (Val m₀ c₀ k) (our.object_of value c₀.rows External m c bs) (std.object_of tree f External s c.at bs)
  unfolding our.object_of std.object_of std.opened
  external-alike m c s bs x l =
      rw flat (enter-then c.store m c s bs _ x (λ O x₁.
      text-then whole octets (lasting true m₀ c₀ (opening 10 k) _ (objects_to c (c.objects + 1))) plain (nothing _ whole octets _) _
      (objects_to c (c.objects + 1)) _ bs _ _ (held x₁) l
      (λ sp m₁ c₁ xs s₁ bs l j t d. both (lit≤ tt) (lit≤ tt))))

  -- the class of a new trait is there: its names, its entry, and the members
  inlined-alike : (n y : ℕ) (sp : Span) (xs : List ℕ) (m : Memory) (c : Cursor) (s : Tables) (bs : List ℕ)
      → Stage true m₀ c₀ (opening 10 k) c.store m c s → c.rows ≡ suc c₀.rows → c₀.at < c.at → low ≤ c.at → Left whole c.at bs
      → Text m.store c.store sp.begin sp.size xs
      → Agree whole (Val m₀ c₀ k) (our.inlined value c₀.rows (trait_of sp n y c) m c bs)
      (bind (std.names n s c.at bs) (λ zs s. std.members tree f c₀.objects (record { class = xs; dynamic = y; names = zs })
      (add_traits (record { class = xs; dynamic = y; names = zs }) s)))
  unfolding our.inlined object_class classed
  inlined-alike n y sp xs m c s bs x e a b l t =
      let x₁ = class-put (cond (eqb sp.size 0) 0 1) sp x in
      rw (flat, flat, stage-used x) (then _ _ (names-alike whole octets n _ c s bs x₁ l) (λ v m₁ c₁ zs s₁ bs l g.
      let i = g.names_up in
      let u = g.keep.at_up in
      let d = g.many in
      let w = first-name m₁.store c₁.store m₁.names c.names n zs d g.names in
      let q = w.1 in
      let r : TraitRep m₁.store c₁.store m₁.names c₁.names (trait_of sp n y c) (record { class = xs; dynamic = y; names = zs }) =
      record {
        class = keep-text x.sim.store_in g.stage.sim g.keep sp.begin sp.size xs t;
        dynamic = refl;
        count = sym d;
        within = omega arith;
        names = w.0;
      } in
      enter_trait whole octets (trait_of sp n y c) _ m₁ c₁ s₁ bs _ g.stage r (λ U x₂.
      members_alike (trait_of sp n y c) _ _ (traits_to c₁ (c₁.traits + 1)) _ bs x₂ (g.rows_same ∙ e) (omega arith) (omega arith) l r)))

  inline_alike : (n y : ℕ) (m : Memory) (c : Cursor) (s : Tables) (bs : List ℕ) → Stage false m₀ c₀ (opening 10 k) c.store m c s
      → c.rows ≡ suc c₀.rows → c₀.at < c.at → low ≤ c.at → Left whole c.at bs
      → Agree whole (Val m₀ c₀ k) (our.object_of value c₀.rows (Inline n y) m c bs) (std.object_of tree f (Inline n y) s c.at bs)
  unfolding our.object_of std.object_of std.opened std.new_traits
  inline_alike n y m c s bs x e a b l =
      let o : length s.objects ≡ c₀.objects = sym x.sim.objects.many ∙ x.slot in
      rw (flat, flat, o) (enter-then c.store m c s bs _ x (λ O x₁.
      text-then whole octets (lasting true m₀ c₀ (opening 10 k) _ (objects_to c (c.objects + 1))) plain (nothing _ whole octets _) _
      (objects_to c (c.objects + 1)) _ bs _ _ (held x₁) l
      (λ sp m₁ c₁ xs s₁ bs l j t d.
      rw flat (inlined-alike n y sp xs m₁ c₁ s₁ bs j.stage (j.since.rows_same ∙ e) (omega arith) (omega arith) l t))))

  pub object-alike : (z : Shape) (m : Memory) (c : Cursor) (s : Tables) (bs : List ℕ) → Stage false m₀ c₀ (opening 10 k) c.store m c s
      → c.rows ≡ suc c₀.rows → c₀.at < c.at → low ≤ c.at → Left whole c.at bs
      → Agree whole (Val m₀ c₀ k) (our.object_of value c₀.rows z m c bs) (std.object_of tree f z s c.at bs)
  unfolding our.object_of std.object_of
  object-alike (Object i) m c s bs x e a b l = refer-alike x i bs a l
  object-alike (Known i) m c s bs x e a b l = known_alike i m c s bs x e a b l
  object-alike External m c s bs x e a b l = external-alike m c s bs x l
  object-alike (Inline n y) m c s bs x e a b l = inline_alike n y m c s bs x e a b l
