-- Values of all kinds beside the standard's: what a reading takes of the loans is no more than its tree needs unfolded.
use mathlib.Core.Path.{◌≡◌, refl, sym, subst}
use mathlib.Core.Bool.{Bool, true, false, cond, not}
use mathlib.Core.List.{List, [], ◌∷◌}
use mathlib.Core.Option.{Option, none, some}
use Prim.Native.Nat.{ℕ, zero, suc, ◌+◌, ◌*◌, ◌-◌, ◌/◌, ◌≤◌}
use native.Mathlib.Omega.{arith}
use borrow.Author.Tests.{le-ltb, lt-leb, leb-false}
use lib.Dec.{leb, ltb, eqb}
use lib.ListN.{length, get_or, length-set}
use lib.Seq.{sets, length-sets}
use Rattle.rows.specs.declared.Cursor.{Cursor}
use Rattle.rows.specs.declared.Span.{Span}
use Rattle.rows.specs.declared.Key.{Key}
use Rattle.rows.specs.declared.Trait.{Trait}
use Rattle.rows.specs.Memory.{Memory, memory, col_kind, col_number, col_end, col_count, col_count2, col, put, row_used, no_key, key_of, no_span, trait_width}
use Rattle.rows.specs.Kinds.{kind_reference}
use Rattle.wire.specs.declared.Size.{Size}
use Rattle.wire.specs.declared.Size.TheVariants.{Old, New}
use Rattle.wire.specs.declared.Shape.{Shape}
use Rattle.wire.specs.declared.Shape.TheVariants.{Object, Known, External, Inline}
use Rattle.wire.specs.Word.{size_of, shape_of}
use Rattle.meaning.proofs.Own.{follows_is, size_is, object-is}
use Rattle.wire.specs.Big.{number_of}
use Rattle.wire.specs.Date.{refused_date}
use Rattle.utf8.specs.Grammar.{valid_text}
use Rattle.format.specs.Decide as k
use Rattle.format.specs.Decide.{Body, Kind, give, refuse, lost, Decision, lift, looking, on_rows, on_objects, on_traits, in_row, kind_of}
use Rattle.format.specs.Decide.{closed, referred, entered, sealed_key, counted, key_end, old_trait, trait_at, trait_end, trait_holds, trait_of, object_class, traits_to, width_of}
use Rattle.format.specs.Reading as our
use Rattle.format.specs.Reading.{ResultOf, ok, bad, Result, Reader, bind, ◌>>=◌, ◌>>◌, ret, decided, by, Values}
use Rattle.format.specs.Standard as std
use Rattle.format.specs.Standard.{Traits, Tables, Std, fail, lookup, Plain, undefined, null, boolean, integer, double, string, xml_document, xml, byte_array, date}
use Rattle.format.specs.Standard.{int_vector, uint_vector, double_vector, class_given, starred, xml_of, vector_of, leaf_of, enter_traits}
use Rattle.format.specs.Standard.{Tree, plain, array, object, object_vector, dictionary, cons, Pairs, no_pairs, pair, entry}
use Rattle.format.specs.Holds.{Room, room, ◌and◌, nothing, a_row, an_object, of_text, of_class, of_plain, of_tree, of_trees, of_pairs, of_sealed, of_entries}
use Rattle.format.proofs.Memories.{numbers}
use Rattle.format.proofs.Alike.{flat}
use Rattle.meaning.proofs.Parts.{depth, depth_trees, depth_pairs, depth_entries}
use Rattle.meaning.proofs.Fuel.{Takes, takes-bind, takes-ret, takes-less, takes-cond, takes-fail, takes-lookup, takes-change, byte-takes, bytes-takes}
use Rattle.meaning.proofs.Fuel.{chars-takes, text-takes, names-takes, traits-takes, trees-take, sealed-takes, pairs-take, dynamics-take, entries-take, members-take}
use Rattle.meaning.proofs.Fuel.{object-takes, sized-takes, marked-takes, value-takes, opened-takes, object-at-takes}
use Rattle.meaning.proofs.Holds.{Fits, Uses, Within, Any, Decides, costless, costs, costs-cond, costs-lift, spent_none, goes_by, in-row}
use Rattle.promises.proofs.Fares.{Nice, Paid, no_traits, Gives, gives-bind, gives_then, gives-ret, gives-fail, gives_up, gives-shut, Small, Pays}
use Rattle.promises.proofs.Fares.{pays-bind, pays-told, pays-ret, pays-made, calm_ret, calm_shut, pays-opened, halts, stays, Spends, pays-free, pays-by}
use Rattle.promises.proofs.Fares.{pays-flat, pays-end, pays-last, pays-lost, pays-flat_std, pays-less, pays-cursor, pays_void, pays_calm, paid-by, paid-lost}
use Rattle.promises.proofs.Spends.{keeps-cond, None, Both, Sized, pays-byte, pays-word, pays-number, pays-filled, pays-chars-of, rests, spends, gives-weak}
use Rattle.promises.proofs.Spends.{bytes-long, judged_text, pays-never, pays-text, small_trait, spends-closed, spends-numbered, spends-integer, spends-date}
use Rattle.promises.proofs.Spends.{spends-bodied, spends-class, spends_type, spends-flagged, spends-counted, spends-key-end, spends-grown, spends-marker, spends-reserved}
use Rattle.promises.proofs.Spends.{spends-judged, spends-entered, spends-named, spends-sealed-key, spends-starred}
use Rattle.format.specs.Refusals as refusals

-- ---- names

abbrev pub names_cost : List (List ℕ) → Room
names_cost [] = nothing
names_cost (x ∷ xs) = room 0 0 0 0 0 1 and of_text x and names_cost xs

abbrev pub values_cost : Pairs → Room
values_cost no_pairs = nothing
values_cost (pair x t ps) = of_tree t and values_cost ps

plain-text : Pays of_text Any Sized nothing (our.text our.plain) std.text
plain-text = pays-text our.plain (λ s. rests)

pays-names : (n : ℕ) → Pays names_cost Any (λ a xs. length xs ≡ n) nothing (our.names n) (std.names n)
unfolding our.names std.names
pays-names zero = pays-ret (omega arith) refl
pays-names (suc n) =
    pays-bind of_text _ _ plain-text (λ x. omega arith) (λ x. gives-bind (names-takes n) (λ xs. gives-ret (omega arith, λ i. i)))
    (λ s x e. pays-by (room 0 0 0 0 0 1) (of_text x and room 0 0 0 0 0 1) _ (omega arith) (gives-bind (names-takes n) (λ xs. gives-ret (omega arith)))
    (spends-named s) (λ a q. pays-made (λ xs. x ∷ xs) _ (calm_ret (λ xs. x ∷ xs)) (pays-names n) (λ xs. (omega arith, λ i. i)) (λ a xs e. rw e)))

-- ---- a reference

pub spends-referred : (row i : ℕ) → Spends Any (λ m. on_rows (referred row i m.objects) m) nothing
unfolding referred
spends-referred row i =
    record {
      goes = goes_by Any nothing (λ m. on_rows (referred row i m.objects) m)
          (λ m c e. tests m c (ltb (length m.objects) c.objects) (leb c.objects i) (not (row_used m.rows c (get_or m.objects i 0)))
          (ltb c.rows (col m.rows (get_or m.objects i 0) col_end)) (eqb (col m.rows (get_or m.objects i 0) col_end) 0))
          (λ m c. search (costs-lift, costs-cond, costless, costs, spent_none, tt) depth 10);
      keeps = λ m c. search (keeps-cond, halts, stays) depth 9;
    }
  where
    tests : (m : Memory) (c : Cursor) (a b d e f : Bool) → Decides Any nothing m c
        (lift (λ R. memory R m.store m.strings m.objects m.traits m.names)
        (cond a lost (cond b (refuse refusals.no_entry i c) (cond d lost (cond e lost (cond f (refuse refusals.open_object i c)
        (in_row row (λ R. put (put (put R row col_kind kind_reference) row col_number (get_or m.objects i 0)) row col_end c.rows) m.rows c)))))))
    tests m c true b d e f = refl
    tests m c false true d e f = refl
    tests m c false false true e f = refl
    tests m c false false false true f = refl
    tests m c false false false false true = refl
    tests m c false false false false false = in-row row (λ R. put (put (put R row col_kind kind_reference) row col_number (get_or m.objects i 0)) row col_end c.rows) (λ R. simp length-set) m c

-- every tree takes a row
plain_row : (p : Plain) → Within a_row (of_plain p)
unfolding of_plain
plain_row undefined = omega arith
plain_row null = omega arith
plain_row (boolean b) = omega arith
plain_row (integer v) = omega arith
plain_row (double bits) = omega arith
plain_row (string t) = omega arith
plain_row (xml_document t) = omega arith
plain_row (xml t) = omega arith
plain_row (byte_array t) = omega arith
plain_row (date bits) = omega arith
plain_row (int_vector fixed t) = omega arith
plain_row (uint_vector fixed t) = omega arith
plain_row (double_vector fixed t) = omega arith

pub tree-row : (t : Tree) → Within a_row (of_tree t)
unfolding of_tree
tree-row (plain p) = plain_row p
tree-row (array xs ts) = omega arith
tree-row (object class xs ys) = omega arith
tree-row (object_vector fixed class ts) = omega arith
tree-row (dictionary weak es) = omega arith

abbrev pub Deep : ℕ → Tree → Type 0
Deep left t = depth t ≤ left

-- the standard's own reference takes nothing
refers : (left i : ℕ) → Pays of_tree (Deep left) Both a_row (ret (tt {0})) (std.object_at i)
unfolding std.object_at
refers left i = record { takes = object-at-takes i; pays = λ T m₀ c₀ k m c s p bs u t x. at T m₀ c₀ k m c s p bs u t x (ltb i (length s.objects)) (get_or s.objects i none) }
  where
    at : (T : ℕ) (m₀ : Memory) (c₀ : Cursor) (k : ℕ) (m : Memory) (c : Cursor) (s : Tables) (p : ℕ) (bs : List ℕ) → Uses k a_row m₀ c₀ m c
        → k + length bs ≡ T → Small m c s → (b : Bool) (o : Option Tree)
        → Paid {A = Unit {0}} of_tree (Deep left) Both T m₀ c₀ (ok tt m c bs) (bind (cond b (ok o s p bs) (bad refusals.no_entry i p s)) (std.finished_object i))
    at T m₀ c₀ k m c s p bs u t x false o = tt
    at T m₀ c₀ k m c s p bs u t x true none = (unfold std.finished_object in tt)
    at T m₀ c₀ k m c s p bs u t x true (some e) =
        (unfold std.finished_object in λ fit i. let w = tree-row e in (tt, refl, λ l y f. u l y (omega arith), x))

refer-pays : (left row i : ℕ) → Pays of_tree (Deep left) Both a_row (by (λ m. on_rows (referred row i m.objects) m)) (std.object_at i)
refer-pays left row i = pays-end _ (pays-free _ (object-at-takes i) (spends-referred row i) (λ a q. refers left i))

-- ---- entries

-- a class is no more than what it is written as
pub given-room : (t : List ℕ) → Within (of_text t) (of_class [] (class_given t))
unfolding class_given of_class
given-room [] = omega arith
given-room (b ∷ t) = omega arith

pub starred-room : (t : List ℕ) → Within (of_text t) (of_class (0x2A ∷ []) (starred t))
unfolding starred of_class
starred-room [] = omega arith
starred-room (b ∷ []) = by-star (eqb b 0x2A)
  where
    by-star : (v : Bool) → Within (of_text (b ∷ [])) (of_class (0x2A ∷ []) (cond v none (some (b ∷ []))))
    by-star true = (unfold of_text in omega arith)
    by-star false = omega arith
starred-room (b ∷ c ∷ t) = omega arith

-- what a trait took
abbrev trait_cost : Traits → Room
trait_cost t = an_object 0 and room 0 0 0 0 1 0 and of_text t.class and names_cost t.names

-- ---- traits

-- a trait with as many names, and the same mark
abbrev Kin : Trait → Traits → Type 0
Kin x t = (x.count ≡ length t.names) × (x.dynamic ≡ t.dynamic)

old-trait : (j : ℕ) → Pays None Any Kin nothing (by (looking (λ m. old_trait j m.traits))) (lookup (λ s. s.traits) no_traits j)
unfolding old_trait
old-trait j = record { takes = takes-lookup (λ s. s.traits) no_traits j; pays = λ T m₀ c₀ k m c s p bs u t x. old T m₀ c₀ k m c s p bs u t x (ltb j (length s.traits)) }
  where
    nice : (T : ℕ) (m₀ : Memory) (c₀ : Cursor) (k : ℕ) (m : Memory) (c : Cursor) (s : Tables) (bs : List ℕ) → Uses k nothing m₀ c₀ m c
        → k + length bs ≡ T → Small m c s → (a b d : Bool) → leb c.traits j ≡ b
        → Nice (λ z. Kin z (get_or s.traits j no_traits)) (T - length bs) nothing m₀ c₀ s bs
        (decided (lift (λ x. m) (cond a lost (cond b (refuse refusals.no_entry j c) (cond d (give (trait_at m.traits j) (tt {0}) c) lost)))) m bs)
    nice T m₀ c₀ k m c s bs u t x true b d e = refl
    nice T m₀ c₀ k m c s bs u t x false true d e = refl
    nice T m₀ c₀ k m c s bs u t x false false true e =
        let l = leb-false c.traits j e in ((x.counts j l, x.marks j l), refl, λ l y f. u l y (omega arith), x)
    nice T m₀ c₀ k m c s bs u t x false false false e = refl

    old : (T : ℕ) (m₀ : Memory) (c₀ : Cursor) (k : ℕ) (m : Memory) (c : Cursor) (s : Tables) (p : ℕ) (bs : List ℕ) → Uses k nothing m₀ c₀ m c
        → k + length bs ≡ T → Small m c s → (v : Bool)
        → Paid None Any Kin T m₀ c₀ (by (looking (λ m. old_trait j m.traits)) m c bs) (cond v (ok (get_or s.traits j no_traits) s p bs) (bad refusals.no_entry j p s))
    old T m₀ c₀ k m c s p bs u t x false = tt
    old T m₀ c₀ k m c s p bs u t x true = λ fit f.
        nice T m₀ c₀ k m c s bs u t x (ltb (length m.traits / trait_width) c.traits) (leb c.traits j) (trait_holds c (trait_at m.traits j)) refl

module _ (F : Tree → Type 0) (spent : Room) (x : Trait) (t : Traits) (f : Reader Unit) (g : Traits → Std Tree) (kin : Kin x t) where
  enter_trait : ((t : Traits) → Takes 0 (g t)) → Gives (λ e. Within (spent and room 0 0 0 0 1 0) (of_tree e)) (g t)
      → Pays of_tree F Both (spent and room 0 0 0 0 1 0) f (g t) → Pays of_tree F Both spent (by (on_traits (trait_end x)) >>= (λ a. f)) (enter_traits t >>= g)
  unfolding trait_end
  enter_trait takes gives h =
      record {
        takes = takes-bind takes-change takes;
        pays = λ T m₀ c₀ k m c s p bs u e z. paid-by (room 0 0 0 0 1 0) of_tree F Both spent (spent and room 0 0 0 0 1 0) (g t (std.with_traits t s) p bs)
            (bind (by (on_traits (trait_end x)) m c bs) (λ a. f)) T k m₀ c₀ m c bs (omega arith) (gives.gives (std.with_traits t s) p bs)
            (gives.takes.leaves (std.with_traits t s) p bs) e u (λ fit.
            rw (le-ltb (length m.traits / trait_width) c.traits (omega arith), lt-leb (length m.traits / trait_width) c.traits (omega arith))
            (either T m₀ c₀ k m c s p bs u e z fit (trait_holds c x)));
      }
    where
      either : (T : ℕ) (m₀ : Memory) (c₀ : Cursor) (k : ℕ) (m : Memory) (c : Cursor) (s : Tables) (p : ℕ) (bs : List ℕ) → Uses k spent m₀ c₀ m c
          → k + length bs ≡ T → Small m c s → Fits 0 (room 0 0 0 0 1 0) m c → (w : Bool)
          → Paid of_tree F Both T m₀ c₀ (bind (decided (lift (λ U. memory m.rows m.store m.strings m.objects U m.names)
          (cond (not w) lost (give (tt {0}) (sets m.traits (c.traits * trait_width) (numbers x)) (traits_to c (c.traits + 1))))) m bs) (λ a. f))
          (g t (std.with_traits t s) p bs)
      either T m₀ c₀ k m c s p bs u e z fit true =
          h.pays T m₀ c₀ k _ _ (std.with_traits t s) p bs
          (λ l y i. (let j = u l (room 0 0 0 0 1 0 and y) (omega arith) in omega (arith, length-sets m.traits (c.traits * trait_width) (numbers x)))) e
          (small_trait m c s z x t (omega arith) kin.1 kin.0)
      either T m₀ c₀ k m c s p bs u e z fit false = paid-lost {A = Unit} of_tree F Both T m₀ c₀ m (g t (std.with_traits t s) p bs)

-- ---- room for a body

pays-room : {C D : Type 0} {N : D → Room} {F : D → Type 0} {P : C → D → Type 0} {spent : Room} {g : Std D} (row n : ℕ) (f : Span → Reader C)
    → Gives (λ e. Within (spent and room 0 n 0 0 0 0) (N e)) g → ((s : Span) → s.size ≡ n → Pays N F P (spent and room 0 n 0 0 0 0) (f s) g)
    → Pays N F P spent (our.room row n >>= f) g
unfolding our.room
pays-room {spent = spent} row zero f gives next = pays-less (spent and room 0 0 0 0 0 0) (omega arith) (next no_span refl)
pays-room {spent = spent} row (suc n) f gives next =
    pays-flat (by (looking (λ m. k.reserved (suc n) m.store))) (λ s. by (on_rows (k.bodied row s)) >>= (λ a. ret s)) f
    (pays-by (room 0 (suc n) 0 0 0 0) (spent and room 0 (suc n) 0 0 0 0) _ (omega arith) gives (spends-reserved (suc n))
    (λ s q. pays-flat (by (on_rows (k.bodied row s))) (λ a. ret s) f (pays-free _ gives.takes (spends-bodied row s) (λ a z. next s q))))

pub xml-room : (b : ℕ) (t : List ℕ) → Within (an_object (length t)) (of_tree (plain (xml_of b t)))
xml-room b t = test (eqb b 0x07)
  where
    test : (v : Bool) → Within (an_object (length t)) (of_tree (plain (cond v (xml_document t) (xml t))))
    test true = (unfold of_tree of_plain in omega arith)
    test false = (unfold of_tree of_plain in omega arith)

pub vector-room : (b : ℕ) (fixed : Bool) (t : List ℕ) → Within (an_object (length t)) (of_tree (plain (vector_of b fixed t)))
vector-room b fixed t = test (eqb b 0x0D) (eqb b 0x0E)
  where
    test : (v w : Bool) → Within (an_object (length t)) (of_tree (plain (cond v (int_vector fixed t) (cond w (uint_vector fixed t) (double_vector fixed t)))))
    test true w = (unfold of_tree of_plain in omega arith)
    test false true = (unfold of_tree of_plain in omega arith)
    test false false = (unfold of_tree of_plain in omega arith)

module _ (v : Values) (tree : Std Tree) (left : ℕ) (ih : (key : Key) → Pays of_tree (Deep left) Both nothing (v key) tree) where
  tree-takes : Takes 0 tree
  tree-takes = (ih no_key).takes

  pays-trees : (row col n done : ℕ)
      → Pays of_trees (λ ts. depth_trees ts ≤ left) Both nothing (our.entries (λ done. v no_key) row col n done) (std.trees tree n)
  unfolding our.entries std.trees of_trees depth_trees
  pays-trees row col zero done = pays-ret (omega arith) tt
  pays-trees row col (suc n) done =
      pays-flat (v no_key) (λ x. by (on_rows (counted row col done))) (λ x. our.entries (λ done. v no_key) row col n (suc done))
      (pays-bind of_tree _ _ (ih no_key) (λ t. omega arith) (λ t. gives-bind (trees-take tree-takes n) (λ ts. gives-ret (omega arith, λ i. omega arith)))
      (λ a t e. pays-free _ (takes-bind (trees-take tree-takes n) (λ ts. takes-ret)) (spends-counted row col done)
      (λ x q. pays-made (λ ts. cons t ts) _ (calm_ret (λ ts. cons t ts)) (pays-trees row col n (suc done)) (λ ts. (omega arith, λ i. omega arith)) (λ a b e. tt))))

  -- entries of a dictionary
  pays-entries : (row col n done : ℕ)
      → Pays of_entries (λ es. depth_entries es ≤ left) Both nothing (our.entries (our.couple v row) row col n done) (std.entries tree n)
  unfolding our.entries our.couple std.entries of_entries depth_entries
  pays-entries row col zero done = pays-ret (omega arith) tt
  pays-entries row col (suc n) done =
      let key : Decision Unit = looking (λ m. key_end row done m.rows) in
      let more : Reader Unit = by (on_rows (counted row col done)) >>= (λ x. our.entries (our.couple v row) row col n (suc done)) in
      pays-flat (our.couple v row done) (λ x. by (on_rows (counted row col done))) (λ x. our.entries (our.couple v row) row col n (suc done))
      (pays-flat (v no_key >> by key) (λ x. v no_key) (λ x. more)
      (pays-flat (v no_key) (λ x. by key) (λ x. v no_key >>= (λ x. more))
      (pays-bind of_tree _ _ (ih no_key) (λ t. omega arith)
      (λ a. gives-bind tree-takes (λ b. gives-bind (entries-take tree-takes n) (λ es. gives-ret (omega arith, λ i. omega arith))))
      (λ x a e. pays-free _ (takes-bind tree-takes (λ b. takes-bind (entries-take tree-takes n) (λ es. takes-ret))) (spends-key-end row done)
      (λ x q. pays-bind (λ b. of_tree a and of_tree b) _ _ (ih no_key) (λ b. omega arith)
      (λ b. gives-bind (entries-take tree-takes n) (λ es. gives-ret (omega arith, λ i. omega arith)))
      (λ y b e. pays-free _ (takes-bind (entries-take tree-takes n) (λ es. takes-ret)) (spends-counted row col done)
      (λ x q. pays-made (λ es. entry a b es) _ (calm_ret (λ es. entry a b es)) (pays-entries row col n (suc done)) (λ es. (omega arith, λ i. omega arith)) (λ a b e. tt))))))))

  pays-sealed : (row first : ℕ) (xs : List (List ℕ)) (n done : ℕ) → length xs ≡ n
      → Pays values_cost (λ ps. depth_pairs ps ≤ left) Both nothing
      (our.entries (λ done. by (looking (λ m. sealed_key (first + done) m.names)) >>= v) row col_count n done) (std.sealed tree xs)
  unfolding our.entries std.sealed depth_pairs
  pays-sealed row first [] zero done e = pays-ret (omega arith) tt
  pays-sealed row first [] (suc n) done e = absurd (omega arith)
  pays-sealed row first (x ∷ xs) zero done e = absurd (omega arith)
  pays-sealed row first (x ∷ xs) (suc n) done e =
      let key : Decision Key = looking (λ m. sealed_key (first + done) m.names) in
      let more : Reader Unit = our.entries (λ done. by (looking (λ m. sealed_key (first + done) m.names)) >>= v) row col_count n (suc done) in
      pays-flat (by key >>= v) (λ x. by (on_rows (counted row col_count done))) (λ x. more)
      (pays-flat (by key) v (λ x. by (on_rows (counted row col_count done)) >>= (λ x. more))
      (pays-free _ (takes-bind tree-takes (λ t. takes-bind (sealed-takes tree-takes xs) (λ ps. takes-ret))) (spends-sealed-key (first + done))
      (λ a q. pays-bind of_tree _ _ (ih a) (λ t. omega arith) (λ t. gives-bind (sealed-takes tree-takes xs) (λ ps. gives-ret (omega arith, λ i. omega arith)))
      (λ y t e'. pays-free _ (takes-bind (sealed-takes tree-takes xs) (λ ps. takes-ret)) (spends-counted row col_count done)
      (λ z q. pays-made (λ ps. pair x t ps) _ (calm_ret (λ ps. pair x t ps)) (pays-sealed row first xs n (suc done) (omega arith)) (λ ps. (omega arith, λ i. omega arith)) (λ a b e. tt))))))

  pub sealed-gives : (xs : List (List ℕ)) → Gives (λ ps. Within (names_cost xs and values_cost ps) (of_sealed ps)) (std.sealed tree xs)
  unfolding std.sealed of_sealed
  sealed-gives [] = gives-ret (omega arith)
  sealed-gives (x ∷ xs) = gives-bind tree-takes (λ t. gives_then (sealed-gives xs) (λ ps w. gives-ret (omega arith)))

  from_gives : (f : ℕ) (x : List ℕ) → Gives (λ e. Within (of_text x) (of_pairs e) × (depth_pairs e ≤ left → Unit {0})) (std.pairs_from tree (std.pairs tree f) x)
  unfolding std.pairs_from of_pairs
  from_gives f [] = gives-ret ((unfold of_text in omega arith), λ i. tt)
  from_gives f (b ∷ x) = gives-bind tree-takes (λ t. gives-bind (pairs-take tree-takes f) (λ ps. gives-ret (omega arith, λ i. tt)))

  one-pair : (row col f done : ℕ) (s : Span) (more : Reader Unit) (x : List ℕ)
      → Pays of_pairs (λ ps. depth_pairs ps ≤ left) Both nothing more (std.pairs tree f)
      → Pays of_pairs (λ ps. depth_pairs ps ≤ left) Both (of_text x) (our.pair v row col done more s (length x)) (std.pairs_from tree (std.pairs tree f) x)
  unfolding our.pair std.pairs_from of_pairs depth_pairs
  one-pair row col f done s more [] h = pays-ret ((unfold of_text in omega arith)) tt
  one-pair row col f done s more (b ∷ x) h =
      pays-flat (v (key_of s)) (λ x. by (on_rows (counted row col done))) (λ x. more)
      (pays-bind (λ t. of_text (b ∷ x) and of_tree t) _ _ (ih (key_of s)) (λ t. omega arith)
      (λ t. gives-bind (pairs-take tree-takes f) (λ ps. gives-ret (omega arith, λ i. omega arith)))
      (λ a t e. pays-free _ (takes-bind (pairs-take tree-takes f) (λ ps. takes-ret)) (spends-counted row col done)
      (λ z q. pays-made (λ ps. pair (b ∷ x) t ps) _ (calm_ret (λ ps. pair (b ∷ x) t ps)) h (λ ps. (omega arith, λ i. omega arith)) (λ a b e. tt))))

  -- pairs with any fuel, and with the one that ours are read with
  pays-pairs-by : (row col most f done : ℕ)
      → Pays of_pairs (λ ps. depth_pairs ps ≤ left) Both nothing (our.pairs_by v row col most done) (std.pairs tree f)
  unfolding our.pairs_by std.pairs
  pays-pairs-by row col zero f done = pays-lost (pairs-take tree-takes f)
  pays-pairs-by row col (suc most) zero done = pays-never
  pays-pairs-by row col (suc most) (suc f) done =
      pays-bind of_text _ _ plain-text (λ x. omega arith) (λ x. from_gives f x)
      (λ s x e. subst (λ n. Pays of_pairs (λ ps. depth_pairs ps ≤ left) Both (of_text x) (our.pair v row col done (our.pairs_by v row col most (suc done)) s n)
      (std.pairs_from tree (std.pairs tree f) x)) (sym e)
      (one-pair row col f done s (our.pairs_by v row col most (suc done)) x (pays-pairs-by row col most f (suc done))))

  pays-pairs : (row col f : ℕ) → Pays of_pairs (λ ps. depth_pairs ps ≤ left) Both nothing (our.pairs v row col 0) (std.pairs tree f)
  unfolding our.pairs
  pays-pairs row col f =
      record {
        takes = pairs-take tree-takes f;
        pays = λ T m₀ c₀ k m c s p bs. (pays-pairs-by row col (suc (length bs)) f 0).pays T m₀ c₀ k m c s p bs;
      }

  pays-dynamics : (row f y : ℕ) → Pays of_pairs (λ ps. depth_pairs ps ≤ left) Both nothing (our.dynamics v row y) (std.dynamics tree f y)
  unfolding our.dynamics std.dynamics of_pairs
  pays-dynamics row f zero = pays-ret (omega arith) tt
  pays-dynamics row f (suc y) = pays-pairs row col_count2 f

  -- ---- members

  members-give : (f i : ℕ) (t : Traits) → Gives (λ e. Within (trait_cost t) (of_tree e)) (std.members tree f i t)
  unfolding std.members of_tree
  members-give f i t =
      gives_then (sealed-gives t.names) (λ ps w. gives-bind (dynamics-take tree-takes f t.dynamic) (λ ys. gives-shut i (object (class_given t.class) ps ys)
      (let g = given-room t.class in omega arith)))

  pays-members : (row f i : ℕ) (x : Trait) (t : Traits) → x.count ≡ length t.names → x.dynamic ≡ t.dynamic
      → Pays of_tree (Deep (suc left)) Both (trait_cost t) (our.members v row x) (std.members tree f i t)
  unfolding our.members std.members of_tree depth
  pays-members row f i x t e d =
      let g = given-room t.class in
      rw d (pays-last {P = Both} (λ a. on_rows (closed row)) (λ a. spends-closed row)
      (pays-told (λ ps. Within (names_cost t.names and values_cost ps) (of_sealed ps)) (λ ps. trait_cost t and values_cost ps) _ _ (sealed-gives t.names)
      (pays-sealed row x.first t.names x.count 0 (sym e)) (λ ps w. omega arith)
      (λ ps w. gives-bind (dynamics-take tree-takes f t.dynamic) (λ ys. gives-shut i (object (class_given t.class) ps ys) (omega arith, λ i. omega arith)))
      (λ a ps z w. pays-made (λ ys. object (class_given t.class) ps ys) _ (calm_shut i (λ ys. object (class_given t.class) ps ys)) (pays-dynamics row f t.dynamic)
      (λ ys. (omega arith, λ i. omega arith)) (λ a b e. tt))))

  -- ---- objects

  abbrev made : List ℕ → ℕ → List (List ℕ) → Traits
  made x y xs = record { class = x; dynamic = y; names = xs }

  -- what a new trait, and then its members, need at least
  enter-give : (f i y : ℕ) (x : List ℕ) (xs : List (List ℕ)) → Gives (λ e. Within (trait_cost (made x y xs)) (of_tree e)) (enter_traits (made x y xs) >>= std.members tree f i)
  enter-give f i y x xs =
      record {
        takes = takes-bind takes-change (λ t. members-take tree-takes f i t);
        gives = λ s p bs. (members-give f i (made x y xs)).gives (std.with_traits (made x y xs) s) p bs;
      }

  names-give : (f i n y : ℕ) (x : List ℕ)
      → Gives (λ e. Within (an_object 0 and of_text x) (of_tree e)) (std.names n >>= (λ xs. enter_traits (made x y xs) >>= std.members tree f i))
  names-give f i n y x = gives-bind (names-takes n) (λ xs. gives-weak (enter-give f i y x xs) (λ e w. omega arith))

  flat-give : (f i n y : ℕ) (x : List ℕ)
      → Gives (λ e. Within (an_object 0 and of_text x) (of_tree e)) (std.names n >>= (λ xs. enter_traits (made x y xs)) >>= std.members tree f i)
  flat-give f i n y x =
      record {
        takes = takes-bind (takes-bind (names-takes n) (λ xs. takes-change)) (λ t. members-take tree-takes f i t);
        gives = λ s p bs. rw flat ((names-give f i n y x).gives s p bs);
      }

  pays-inlined : (row f i n y : ℕ) (x : List ℕ) (s : Span) (c : Cursor)
      → Pays of_tree (Deep (suc left)) Both (an_object 0 and of_text x) (our.inlined v row (trait_of s n y c))
      (std.names n >>= (λ xs. enter_traits (made x y xs) >>= std.members tree f i))
  unfolding our.inlined
  pays-inlined row f i n y x s c =
      let t : Trait = trait_of s n y c in
      pays-flat (by (on_rows (object_class row t)) >> our.names n) (λ a. by (on_traits (trait_end t))) (λ a. our.members v row t)
      (pays-flat (by (on_rows (object_class row t))) (λ a. our.names n) (λ a. by (on_traits (trait_end t)) >>= (λ a. our.members v row t))
      (pays-free _ (names-give f i n y x).takes (spends-class row t)
      (λ a q. pays-bind (λ xs. (an_object 0 and of_text x) and names_cost xs) _ _ (pays-names n) (λ xs. omega arith)
      (λ xs. gives-weak (enter-give f i y x xs) (λ e w. (omega arith, λ i. tt)))
      (λ a xs e. enter_trait (Deep (suc left)) ((an_object 0 and of_text x) and names_cost xs) t (made x y xs) (our.members v row t) (std.members tree f i) (sym e, refl)
      (λ t. members-take tree-takes f i t) (gives-weak (members-give f i (made x y xs)) (λ e w. omega arith))
      (pays-less (trait_cost (made x y xs)) (omega arith) (pays-members row f i t (made x y xs) (sym e) refl))))))

  pays-object : (row f : ℕ) (z : Shape) → Pays of_tree (Deep (suc left)) Both a_row (our.object_of v row z) (std.object_of tree f z)
  unfolding our.object_of std.object_of std.new_traits
  pays-object row f (Object i) = refer-pays (suc left) row i
  pays-object row f (Known j) =
      pays-opened _ (λ i. pays-flat (by (on_objects (entered row))) (λ a. by (looking (λ m. old_trait j m.traits)))
      (λ t. by (on_rows (object_class row t)) >> our.members v row t)
      (pays-by (room 0 0 0 1 0 0) (an_object 0) _ (omega arith)
      (gives-bind (takes-lookup (λ s. s.traits) no_traits j) (λ t. gives-weak (members-give f i t) (λ e w. omega arith))) (spends-entered row)
      (λ a q. pays-bind trait_cost _ _ (old-trait j) (λ t. omega arith) (λ t. gives-weak (members-give f i t) (λ e w. (w, λ i. tt)))
      (λ x t e. pays-free _ (members-take tree-takes f i t) (spends-class row x) (λ a q. pays-members row f i x t e.0 e.1)))))
  pays-object row f External =
      pays_void (gives-bind opened-takes (λ i. gives-bind (takes-less text-takes) (λ x. gives-fail takes-fail (λ s p bs. tt))))
  pays-object row f (Inline n y) =
      pays-opened _ (λ i. pays-flat_std (our.object_of v row (Inline n y)) std.text (λ x. std.names n >>= (λ xs. enter_traits (made x y xs))) (std.members tree f i)
      (pays-flat (by (on_objects (entered row))) (λ a. our.text our.plain) (λ s m c. our.inlined v row (trait_of s n y c) m c)
      (pays-by (room 0 0 0 1 0 0) (an_object 0) _ (omega arith) (gives-bind (takes-less text-takes) (λ x. gives-weak (flat-give f i n y x) (λ e w. omega arith)))
      (spends-entered row)
      (λ a q. pays-bind (λ x. an_object 0 and of_text x) _ _ plain-text (λ x. omega arith) (λ x. gives-weak (flat-give f i n y x) (λ e w. (w, λ i. tt)))
      (λ s x e. pays-cursor (λ c. our.inlined v row (trait_of s n y c)) (flat-give f i n y x).takes
      (λ c. pays-flat_std (our.inlined v row (trait_of s n y c)) (std.names n) (λ xs. enter_traits (made x y xs)) (std.members tree f i) (pays-inlined row f i n y x s c)
      (flat-give f i n y x).takes)))))
      (takes-bind (traits-takes n y) (λ t. members-take tree-takes f i t)))

  -- ---- values with a size word

  new-give : (f b : ℕ) (body : Body) (n : ℕ) → Gives (λ e. Within (an_object 0) (of_tree e)) (std.new_of tree f b body n)
  unfolding std.new_of
  new-give f b k.xml n = gives-bind (chars-takes n) (λ t. gives-ret (let w = xml-room b t in omega arith))
  new-give f b k.date n = gives-bind (bytes-takes 8) (λ t. dated (number_of 0 t) (refused_date (number_of 0 t)))
    where
      dated : (bits : ℕ) (t : Bool) → Gives (λ e. Within (an_object 0) (of_tree e)) (cond t (fail refusals.bad_date bits) (ret (plain (date bits))))
      dated bits true = gives-fail takes-fail (λ s p bs. tt)
      dated bits false = gives-ret (unfold of_tree of_plain in omega arith)
  new-give f b k.array n =
      gives-bind (pairs-take tree-takes f) (λ xs. gives-bind (trees-take tree-takes n) (λ ts. gives-ret (unfold of_tree in omega arith)))
  new-give f b k.bytes n = gives-bind (bytes-takes n) (λ t. gives-ret (unfold of_tree of_plain in omega arith))
  new-give f b (k.raw w) n =
      gives-bind (takes-less byte-takes) (λ flag. gives-bind (bytes-takes (n * width_of w)) (λ t. gives-ret (let z = vector-room b (not (eqb flag 0)) t in omega arith)))
  new-give f b k.objects n =
      gives-bind (takes-less byte-takes) (λ flag. gives-bind (takes-less text-takes)
      (λ x. gives-bind (trees-take tree-takes n) (λ ts. gives-ret (unfold of_tree in omega arith))))
  new-give f b k.dictionary n =
      gives-bind (takes-less byte-takes) (λ flag. gives-bind (entries-take tree-takes n) (λ es. gives-ret (unfold of_tree in omega arith)))

  abbrev News : ℕ → ℕ → ℕ → Body → ℕ → Type 0
  News row f b body n = Pays of_tree (Deep (suc left)) Both (an_object 0) (our.new_of v row body n) (std.new_of tree f b body n)

  new-array : (row f b n : ℕ) → News row f b k.array n
  unfolding our.new_of std.new_of of_tree depth
  new-array row f b n =
      pays-last {P = Both} (λ a. on_rows (closed row)) (λ a. spends-closed row)
      (pays-bind (λ xs. an_object 0 and of_pairs xs) _ _ (pays-pairs row col_count f) (λ xs. omega arith)
      (λ xs. gives-bind (trees-take tree-takes n) (λ ts. gives-ret (omega arith, λ i. omega arith)))
      (λ a xs e. pays-made (λ ts. array xs ts) _ (calm_ret (λ ts. array xs ts)) (pays-trees row col_count2 n 0) (λ ts. (omega arith, λ i. omega arith)) (λ a b e. tt)))

  new-dictionary : (row f b n : ℕ) → News row f b k.dictionary n
  unfolding our.new_of std.new_of of_tree depth
  new-dictionary row f b n =
      pays-bind (λ flag. an_object 0) _ _ pays-byte (λ flag. omega arith) (λ flag. gives-bind (entries-take tree-takes n) (λ es. gives-ret (omega arith, λ i. tt)))
      (λ a flag e. pays-last {P = Both} (λ a. on_rows (closed row)) (λ a. spends-closed row)
      (pays-free _ (takes-bind (entries-take tree-takes n) (λ es. takes-ret)) (spends-flagged row (k.weak a))
      (λ x q. pays-made (λ es. dictionary (eqb flag 1) es) _ (calm_ret (λ es. dictionary (eqb flag 1) es)) (pays-entries row col_count n 0) (λ es. (omega arith, λ i. omega arith)) (λ a b e. tt))))

  new-objects : (row f b n : ℕ) → News row f b k.objects n
  unfolding our.new_of std.new_of of_tree depth
  new-objects row f b n =
      pays-bind (λ flag. an_object 0) _ _ pays-byte (λ flag. omega arith)
      (λ flag. gives-bind (takes-less text-takes) (λ x. gives-bind (trees-take tree-takes n) (λ ts. gives-ret (omega arith, λ i. tt))))
      (λ a flag e. pays-flat (by (on_rows (k.flagged row (k.fixed a)))) (λ x. our.text our.plain)
      (λ s. by (looking (λ m. k.starred s m.store)) >>= (λ star. by (on_rows (k.vector_class row star s)) >> our.entries (λ done. v no_key) row col_count n 0 >> by (on_rows (closed row))))
      (pays-free _ (takes-bind (takes-less text-takes) (λ x. takes-bind (trees-take tree-takes n) (λ ts. takes-ret))) (spends-flagged row (k.fixed a))
      (λ y q. pays-bind (λ x. an_object 0 and of_text x) _ _ plain-text (λ x. omega arith)
      (λ x. gives-bind (trees-take tree-takes n) (λ ts. gives-ret (let w = starred-room x in omega arith, λ i. tt)))
      (λ s x e. pays-free _ (takes-bind (trees-take tree-takes n) (λ ts. takes-ret)) (spends-starred s)
      (λ star q. pays-last {P = Both} (λ a. on_rows (closed row)) (λ a. spends-closed row)
      (pays-free _ (takes-bind (trees-take tree-takes n) (λ ts. takes-ret)) (spends_type row star s)
      (λ z q. pays-made (λ ts. object_vector (not (eqb flag 0)) (starred x) ts) _ (calm_ret (λ ts. object_vector (not (eqb flag 0)) (starred x) ts)) (pays-trees row col_count n 0)
      (λ ts. (let w = starred-room x in omega arith, λ i. omega arith)) (λ a b e. tt))))))))

  new-date : (row f b n : ℕ) → News row f b k.date n
  unfolding our.new_of std.new_of
  new-date row f b n =
      pays-bind (λ t. an_object 0) _ _ (pays-number 7 0) (λ t. omega arith) (λ t. given-date (number_of 0 t) (refused_date (number_of 0 t)))
      (λ bits t e. pays-end _ (pays-free _ (given-date (number_of 0 t) (refused_date (number_of 0 t))).takes (spends-date row bits) (λ a q. dated (number_of 0 t) (refused_date (number_of 0 t)))))
    where
      given-date : (bits : ℕ) (t : Bool) → Gives (λ e. Within (an_object 0) (of_tree e) × (Deep (suc left) e → Unit {0}))
          (cond t (fail refusals.bad_date bits) (ret (plain (date bits))))
      given-date bits true = gives-fail takes-fail (λ s p bs. tt)
      given-date bits false = gives-ret ((unfold of_tree of_plain in omega arith), λ i. tt)

      dated : (bits : ℕ) (t : Bool) → Pays of_tree (Deep (suc left)) Both (an_object 0) (ret (tt {0})) (cond t (fail refusals.bad_date bits) (ret (plain (date bits))))
      dated bits true = pays-never
      dated bits false = pays-ret (unfold of_tree of_plain in omega arith) tt

  new-bytes : (row f b n : ℕ) → News row f b k.bytes n
  unfolding our.new_of std.new_of
  new-bytes row f b n =
      pays-room row n _ (gives_then (bytes-long n) (λ t e. gives-ret (unfold of_tree of_plain in omega arith)))
      (λ s q. pays-last {P = Both} (λ a. on_rows (closed row)) (λ a. spends-closed row) (body s))
    where
      body : (s : Span) → Pays of_tree (Deep (suc left)) Both (an_object 0 and room 0 n 0 0 0 0) (our.filled (λ left. ret tt) s n)
          (std.bytes n >>= (λ t. ret (plain (byte_array t))))
      body s = pays-end _ (pays-told (λ t. length t ≡ n) (λ t. an_object 0 and room 0 n 0 0 0 0) _ _ (bytes-long n) (pays-filled (λ left. ret tt) (λ left. rests) s n) (λ t e. omega arith)
          (λ t e. gives-ret ((unfold of_tree of_plain in omega arith), λ i. tt)) (λ a t z e. pays-ret (unfold of_tree of_plain in omega arith) tt))

  new-raw : (row f b : ℕ) (w : k.Width) (n : ℕ) → News row f b (k.raw w) n
  unfolding our.new_of std.new_of
  new-raw row f b w n =
      pays-room row (n * width_of w) _ (gives-bind (takes-less byte-takes) (λ flag. gives-weak (room_of flag) (λ e z. z.0)))
      (λ s q. pays-bind (λ flag. an_object 0 and room 0 (n * width_of w) 0 0 0 0) _ _ pays-byte (λ flag. omega arith) (λ flag. room_of flag)
      (λ a flag e. pays-last {P = Both} (λ a. on_rows (closed row)) (λ a. spends-closed row)
      (pays-free _ (room_of flag).takes (spends-flagged row (k.fixed a))
      (λ x z. subst (λ m. Pays of_tree (Deep (suc left)) Both (an_object 0 and room 0 (n * width_of w) 0 0 0 0) (our.filled (λ left. by (on_rows (k.grown row w s left))) s m)
      (std.bytes (n * width_of w) >>= (λ t. ret (plain (vector_of b (not (eqb flag 0)) t))))) (sym q) (body s flag)))))
    where
      room_of : (flag : ℕ) → Gives (λ e. Within (an_object 0 and room 0 (n * width_of w) 0 0 0 0) (of_tree e) × (Deep (suc left) e → Unit {0}))
          (std.bytes (n * width_of w) >>= (λ t. ret (plain (vector_of b (not (eqb flag 0)) t))))
      room_of flag = gives_then (bytes-long (n * width_of w)) (λ t e. gives-ret ((let z = vector-room b (not (eqb flag 0)) t in omega arith), λ i. tt))

      body : (s : Span) (flag : ℕ) → Pays of_tree (Deep (suc left)) Both (an_object 0 and room 0 (n * width_of w) 0 0 0 0)
          (our.filled (λ left. by (on_rows (k.grown row w s left))) s (n * width_of w)) (std.bytes (n * width_of w) >>= (λ t. ret (plain (vector_of b (not (eqb flag 0)) t))))
      body s flag = pays-end _ (pays-told (λ t. length t ≡ n * width_of w) (λ t. an_object 0 and room 0 (n * width_of w) 0 0 0 0) _ _ (bytes-long (n * width_of w))
          (pays-filled (λ left. by (on_rows (k.grown row w s left))) (λ left. spends (spends-grown row w s left)) s (n * width_of w)) (λ t e. omega arith)
          (λ t e. gives-ret ((let z = vector-room b (not (eqb flag 0)) t in omega arith), λ i. tt))
          (λ a t z e. pays-ret (let z = vector-room b (not (eqb flag 0)) t in omega arith) tt))

  xml-give : (b : ℕ) (t : List ℕ) (x : Bool) → Gives (λ e. Within (an_object (length t)) (of_tree e) × (Deep (suc left) e → Unit {0}))
      (cond x (ret t) (fail refusals.bad_text 0) >>= (λ t. ret (plain (xml_of b t))))
  xml-give b t true = gives-ret (xml-room b t, λ i. tt)
  xml-give b t false = gives-fail takes-fail (λ s p bs. tt)

  new-xml : (row f b n : ℕ) → News row f b k.xml n
  unfolding our.new_of std.new_of std.chars
  new-xml row f b n =
      pays-flat_std (our.new_of v row k.xml n) (std.bytes n) judged_text (λ t. ret (plain (xml_of b t)))
      (pays-room row n _ (gives_then (bytes-long n) (λ t e. gives-weak (xml-give b t (valid_text t)) (λ z w. let w₀ = w.0 in omega arith)))
      (λ s q. pays-told (λ t. length t ≡ n) (λ t. an_object 0 and room 0 n 0 0 0 0) _ _ (bytes-long n) (pays-chars-of s n) (λ t e. omega arith)
      (λ t e. gives-weak (xml-give b t (valid_text t)) (λ z w. (let w₀ = w.0 in omega arith, λ i. tt)))
      (λ valid t z e. pays-free _ (xml-give b t (valid_text t)).takes (spends-judged valid) (λ a q. pays-end _ (pays-free _ (xml-give b t (valid_text t)).takes (spends-closed row)
      (λ a q. text t (valid_text t) e))))))
      (takes-bind (chars-takes n) (λ t. takes-ret))
    where
      text : (t : List ℕ) (x : Bool) → length t ≡ n → Pays of_tree (Deep (suc left)) Both (an_object 0 and room 0 n 0 0 0 0) (ret (tt {0}))
          (cond x (ret t) (fail refusals.bad_text 0) >>= (λ t. ret (plain (xml_of b t))))
      text t true e = pays-ret (let w = xml-room b t in omega arith) tt
      text t false e = pays-never

  pays-new : (row f b : ℕ) (body : Body) (n : ℕ) → News row f b body n
  pays-new row f b k.xml n = new-xml row f b n
  pays-new row f b k.date n = new-date row f b n
  pays-new row f b k.array n = new-array row f b n
  pays-new row f b k.bytes n = new-bytes row f b n
  pays-new row f b k.objects n = new-objects row f b n
  pays-new row f b k.dictionary n = new-dictionary row f b n
  pays-new row f b (k.raw w) n = new-raw row f b w n

  pays-sized : (row f b : ℕ) (body : Body) (z : Size) → Pays of_tree (Deep (suc left)) Both a_row (our.sized_of v row body z) (std.sized_of tree f b body z)
  unfolding our.sized_of std.sized_of
  pays-sized row f b body (Old i) = refer-pays (suc left) row i
  pays-sized row f b body (New n) =
      pays-opened _ (λ i. pays-by (room 0 0 0 1 0 0) (an_object 0) _ (omega arith) (gives_then (new-give f b body n) (λ t w. gives-shut i t w)) (spends-entered row)
      (λ a q. pays_calm (std.shut i) (calm_shut i (λ t. t)) (pays-new row f b body n)))

  pub pays-marked : (row f b : ℕ) (z : Kind) → Pays of_tree (Deep (suc left)) Both a_row (our.marked v row z) (std.marked tree f b z)
  unfolding our.marked std.marked
  pays-marked row f b k.leaf = pays-ret (tree-row (plain (leaf_of b))) tt
  pays-marked row f b k.integer =
      pays-bind (λ w. a_row) _ _ (pays-word 3 0) (λ w. omega arith) (λ w. gives-ret (tree-row _, λ i. tt))
      (λ a w e. pays-end _ (pays-free _ takes-ret (spends-integer row a) (λ x q. pays-ret (tree-row _) tt)))
  pays-marked row f b k.double =
      pays-bind (λ w. a_row) _ _ (pays-number 7 0) (λ w. omega arith) (λ w. gives-ret (tree-row _, λ i. tt))
      (λ a w e. pays-end _ (pays-free _ takes-ret (spends-numbered row a) (λ x q. pays-ret (tree-row _) tt)))
  pays-marked row f b k.string =
      pays-bind (λ t. a_row and of_text t) _ _ (pays-text (λ s. by (on_rows (k.bodied row s))) (λ s. spends (spends-bodied row s))) (λ t. omega arith)
      (λ t. gives-ret ((unfold of_tree of_plain in omega arith), λ i. tt))
      (λ s t e. pays-free _ takes-ret (spends-bodied row s) (λ a q. pays-end _ (pays-free _ takes-ret (spends-closed row) (λ x q. pays-ret (unfold of_tree of_plain in omega arith) tt))))
  pays-marked row f b k.object =
      pays-bind (λ w. a_row) _ _ (pays-word 3 0) (λ w. omega arith) (λ w. gives_up (λ e. (tree-row e, λ i. tt)) (object-takes tree-takes f (std.object_says w)))
      (λ a w e. rw (e, object-is w) (pays-object row f (shape_of w)))
  pays-marked row f b (k.sized body) =
      pays-bind (λ w. a_row) _ _ (pays-word 3 0) (λ w. omega arith) (λ w. gives_up (λ e. (tree-row e, λ i. tt)) (sized-takes tree-takes f b body (std.size_says w)))
      (λ a w e. rw (e, size_is w) (pays-sized row f b body (size_of w)))

-- ---- a value

no-depth : (t : Tree) → 1 ≤ depth t
unfolding depth
no-depth (plain p) = omega arith
no-depth (array xs ts) = omega arith
no-depth (object class xs ys) = omega arith
no-depth (object_vector fixed class ts) = omega arith
no-depth (dictionary weak es) = omega arith

pub pays-value : (left f d : ℕ) (key : Key) → Pays of_tree (Deep left) Both nothing (our.value left key) (std.value f d)
unfolding our.value std.value
pays-value zero f d key =
    record { takes = takes-less (value-takes f d); pays = λ T m₀ c₀ k m c s p bs u t x. out T m₀ c₀ (our.value zero key m c bs) (std.value f d s p bs) }
  where
    out : (T : ℕ) (m₀ : Memory) (c₀ : Cursor) (r : Result Unit) (y : ResultOf Tables ℕ Tree) → Paid of_tree (Deep zero) Both T m₀ c₀ r y
    out T m₀ c₀ r (ok e s p rest) = λ fit i. let o = no-depth e in absurd (omega arith)
    out T m₀ c₀ r (bad number told place s) = tt
pays-value (suc left) f zero key = pays-never
pays-value (suc left) f (suc d) key =
    pays-bind None _ _ pays-byte (λ b. omega arith) (λ b. gives_up (λ e. (omega arith, λ i. tt)) (rest b (ltb 0x11 b)))
    (λ a b e. rw e (pays-by a_row a_row _ (omega arith) (gives_up tree-row (rest b (ltb 0x11 b))) (spends-marker key left b)
    (λ row q. known b row (ltb 0x11 b) (rw (follows_is b) (pays-marked (our.value left) (std.value f d) left (λ k. pays-value left f d k) row f b (kind_of b))))))
  where
    rest : (b : ℕ) (x : Bool) → Takes 0 (cond x (fail refusals.bad_marker b) (std.marked (std.value f d) f b (std.follows b)))
    rest b x = takes-cond x takes-fail (marked-takes (takes-less (value-takes f d)) f b (std.follows b))

    known : (b row : ℕ) (x : Bool) → Pays of_tree (Deep (suc left)) Both a_row (our.marked (our.value left) row (kind_of b)) (std.marked (std.value f d) f b (std.follows b))
        → Pays of_tree (Deep (suc left)) Both a_row (our.marked (our.value left) row (kind_of b)) (cond x (fail refusals.bad_marker b) (std.marked (std.value f d) f b (std.follows b)))
    known b row true h = pays-never
    known b row false h = h
