-- Each change that a decision makes to the loans, and that they stay in accord with the standard's tables.
use mathlib.Core.Path.{◌≡◌, refl, ◌∙◌}
use mathlib.Core.List.{List, [], ◌∷◌, ◌++◌}
use mathlib.Core.Logic.{◌≢◌}
use mathlib.Core.Option.{Option, none, some}
use Prim.Native.Nat.{ℕ, ◌+◌, ◌*◌, ◌<◌, ◌≤◌}
use native.Mathlib.Omega.{arith}
use native.Mathlib.Decide.{dec_lt, ℕ_discrete}
use lib.ListN.{length, get_or, set, length-set, length-append, get_or-append}
use lib.Seq.{get_or-set_same, get_or-set_other, sets, length-sets, get_or-append_seam}
use Rattle.rows.specs.declared.Cursor.{Cursor}
use Rattle.rows.specs.declared.Trait.{Trait}
use Rattle.rows.specs.Memory.{Memory, message_limit, put, col_end}
use Rattle.format.specs.Decide.{rows_to, store_to, strings_to, objects_to, traits_to, names_to, trait_at}
use Rattle.format.specs.Standard.{Tree, Traits, Tables}
use Rattle.format.proofs.Lists.{Kept, kept_set, kept_sets, sets-at, last_or}
use Rattle.format.proofs.Memories.{at_to, with_rows, with_store, with_strings, with_objects, with_traits, with_names, numbers}
use Rattle.meaning.proofs.Ground.{spot, land, Ext, ext-kept, ext-put, ext_same, land_to}
use Rattle.meaning.proofs.Rep.{Text, Own, own-ext}
use Rattle.meaning.proofs.Tables.{TraitRep, no_traits, Entry, Sim, sim_grow}
use Rattle.rows.specs.Memory.{row_width}

-- ---- rows, store and names

module _ {u : ℕ} {m : Memory} {c : Cursor} {s : Tables} (x : Sim u m c s) where
  ext-store : (B : List ℕ) (v : ℕ) → u ≤ v → u ≤ length B → Kept u m.store B → Ext (land_to u m c) (land m.rows c.rows B v)
  ext-store B v h f k =
      let a = x.settled in
      let b = x.store_in in
      ext-kept (omega arith) (λ i l. refl) h k (omega arith) f

  pub sim-at : (n : ℕ) → n ≤ message_limit → Sim u m (at_to c n) s
  sim-at n h =
      record {
        limit = h;
        rows_in = x.rows_in;
        settled = x.settled;
        store_in = x.store_in;
        names_in = x.names_in;
        strings = x.strings;
        kinds = x.kinds;
        objects = x.objects;
      }

  -- a byte past what is settled
  pub sim-byte : (i b : ℕ) → u ≤ i → Sim u (with_store m (set m.store i b)) c s
  sim-byte i b h =
      let f = x.settled in
      let g = x.store_in in
      let l = length-set m.store i b in
      sim_grow x m.rows (set m.store i b) m.names c.at c.rows c.store c.names u x.limit x.rows_in f (omega arith)
      x.names_in (omega arith) (λ i l. refl)
      (ext-store _ u (omega arith) (omega arith) (kept_set u i b m.store h)) (λ r l e. e)

  -- more of the store is used
  pub sim_reserve : (z : ℕ) → c.store ≤ z → z ≤ length m.store → Sim u m (store_to c z) s
  sim_reserve z h k =
      let f = x.settled in
      record {
        limit = x.limit;
        rows_in = x.rows_in;
        settled = omega arith;
        store_in = k;
        names_in = x.names_in;
        strings = x.strings;
        kinds = x.kinds;
        objects = x.objects;
      }

  -- more of the store is settled
  pub sim-settle : (v : ℕ) → u ≤ v → v ≤ c.store → Sim v m c s
  sim-settle v h k =
      let g = x.store_in in
      sim_grow x m.rows m.store m.names c.at c.rows c.store c.names v x.limit x.rows_in k g x.names_in (omega arith)
      (λ i l. refl)
      (ext-store m.store v h (omega arith) (λ i l. refl)) (λ r l e. e)

  -- a column of an open row
  module _ (r j v : ℕ) (o : spot m.rows r col_end ≡ 0) (w : j < row_width) where
    pub sim_put : j < col_end → Sim u (with_rows m (put m.rows r j v)) c s
    sim_put h =
        sim_grow x (put m.rows r j v) m.store m.names c.at c.rows c.store c.names u x.limit (rw length-set x.rows_in)
        x.settled x.store_in x.names_in
        (omega arith) (λ i l. refl) (ext-put (land_to u m c) r j v o w) (λ q l e. let f : q * row_width + col_end ≢ r * row_width + j = omega arith in rw get_or-set_other e)

  -- a row more
  module _ (cs : List ℕ) (long : length cs ≡ row_width) (fits : c.rows * row_width + row_width ≤ length m.rows) where
    pub sim-row : Sim u (with_rows m (sets m.rows (c.rows * row_width) cs)) (rows_to c (c.rows + 1)) s
    sim-row =
        let e = length-sets m.rows (c.rows * row_width) cs in
        let same : Kept (c.rows * row_width) m.rows (sets m.rows (c.rows * row_width) cs) = kept_sets (c.rows * row_width) (c.rows * row_width) cs m.rows (omega arith) in
        let p : u ≤ length m.store = (let a = x.settled in let b = x.store_in in omega arith) in
        sim_grow x (sets m.rows (c.rows * row_width) cs) m.store m.names c.at (c.rows + 1) c.store c.names u x.limit (omega arith)
        x.settled x.store_in x.names_in
        (omega arith) (λ i l. refl)
        (ext-kept (omega arith) same (omega arith) (λ i l. refl) p p)
        (λ q l e. same (q * row_width + col_end) (omega arith) ∙ e)

  -- a name more
  pub sim-name : (b z : ℕ) → c.names * 2 + 2 ≤ length m.names
      → Sim u (with_names m (sets m.names (c.names * 2) (b ∷ z ∷ []))) (names_to c (c.names + 1)) s
  sim-name b z h =
      let e = length-sets m.names (c.names * 2) (b ∷ z ∷ []) in
      sim_grow x m.rows m.store (sets m.names (c.names * 2) (b ∷ z ∷ [])) c.at c.rows c.store (c.names + 1) u x.limit
      x.rows_in x.settled x.store_in (omega arith)
      (omega arith) (kept_sets (c.names * 2) (c.names * 2) (b ∷ z ∷ []) m.names (omega arith))
      (ext_same (land_to u m c)) (λ r l e. e)

-- ---- the tables

abbrev pub add_text : List ℕ → Tables → Tables
add_text xs s = record { texts = s.texts ++ xs ∷ []; objects = s.objects; traits = s.traits }

abbrev pub add_traits : Traits → Tables → Tables
add_traits t s = record { texts = s.texts; objects = s.objects; traits = s.traits ++ t ∷ [] }

abbrev pub add_object : Tables → Tables
add_object s = record { texts = s.texts; objects = s.objects ++ none ∷ []; traits = s.traits }

abbrev pub set_object : ℕ → Tree → Tables → Tables
set_object i t s = record { texts = s.texts; objects = set s.objects i (some t); traits = s.traits }

-- place i of a table with one entry more is an old one, or the new one
pub at-end : {A : Type 0} (d y : A) (xs : List A) (n i : ℕ) (P : ℕ → A → Type 0) → n ≡ length xs → (i < n → P i (get_or xs i d)) → P n y → i < n + 1
    → P i (get_or (xs ++ y ∷ []) i d)
at-end d y xs n i P e old new h = last_or n i (λ i. P i (get_or (xs ++ y ∷ []) i d)) (λ l. let k : i < length xs = omega arith in rw get_or-append (old l))
    (let w : get_or (xs ++ y ∷ []) n d ≡ y = rw (e, get_or-append_seam) in rw w new) h

module _ {u : ℕ} {m : Memory} {c : Cursor} {s : Tables} (x : Sim u m c s) where
  pub sim-text : (b z : ℕ) (xs : List ℕ) → c.strings * 2 + 2 ≤ length m.strings → Text m.store u b z xs
      → Sim u (with_strings m (sets m.strings (c.strings * 2) (b ∷ z ∷ []))) (strings_to c (c.strings + 1)) (add_text xs s)
  sim-text b z xs h t =
      let y = x.strings in
      record {
        limit = x.limit;
        rows_in = x.rows_in;
        settled = x.settled;
        store_in = x.store_in;
        names_in = x.names_in;
        kinds = x.kinds;
        objects = x.objects;
        strings = record {
          fits = (let e = length-sets m.strings (c.strings * 2) (b ∷ z ∷ []) in omega arith);
          many = rw (y.many, length-append) (omega arith);
          each = λ i l. at-end [] xs s.texts c.strings i (λ i t. Text m.store u (get_or T (i * 2) 0) (get_or T (i * 2 + 1) 0) t) y.many
              (λ o. old i o) new l;
        };
      }
    where
      T : List ℕ
      T = sets m.strings (c.strings * 2) (b ∷ z ∷ [])

      same : Kept (c.strings * 2) m.strings T
      same = kept_sets (c.strings * 2) (c.strings * 2) (b ∷ z ∷ []) m.strings (omega arith)

      old : (i : ℕ) → i < c.strings → Text m.store u (get_or T (i * 2) 0) (get_or T (i * 2 + 1) 0) (get_or s.texts i [])
      old i o = rw (same (i * 2) (omega arith), same (i * 2 + 1) (omega arith)) (x.strings.each i o)

      new : Text m.store u (get_or T (c.strings * 2) 0) (get_or T (c.strings * 2 + 1) 0) xs
      new =
          let p : get_or T (c.strings * 2 + 0) 0 ≡ b = sets-at (b ∷ z ∷ []) m.strings (c.strings * 2) 0 (omega arith) h in
          let q : get_or T (c.strings * 2 + 1) 0 ≡ z = sets-at (b ∷ z ∷ []) m.strings (c.strings * 2) 1 (omega arith) h in
          let e : c.strings * 2 + 0 ≡ c.strings * 2 = omega arith in
          rw (rw e at p, q) t

  pub sim_trait : (t : Trait) (k : Traits) → c.traits * 5 + 5 ≤ length m.traits → TraitRep m.store u m.names c.names t k
      → Sim u (with_traits m (sets m.traits (c.traits * 5) (numbers t)))
      (traits_to c (c.traits + 1)) (add_traits k s)
  sim_trait t k h r =
      let y = x.kinds in
      record {
        limit = x.limit;
        rows_in = x.rows_in;
        settled = x.settled;
        store_in = x.store_in;
        names_in = x.names_in;
        strings = x.strings;
        objects = x.objects;
        kinds = record {
          fits = (let e = length-sets m.traits (c.traits * 5) (numbers t) in omega arith);
          many = rw (y.many, length-append) (omega arith);
          each = λ i l. at-end no_traits k s.traits c.traits i (λ i k. TraitRep m.store u m.names c.names (trait_at U i) k) y.many
              (λ o. old i o) new l;
        };
      }
    where
      U : List ℕ
      U = sets m.traits (c.traits * 5) (numbers t)

      same : Kept (c.traits * 5) m.traits U
      same = kept_sets (c.traits * 5) (c.traits * 5) (numbers t) m.traits (omega arith)

      old : (i : ℕ) → i < c.traits → TraitRep m.store u m.names c.names (trait_at U i) (get_or s.traits i no_traits)
      old i o =
          rw (
            same (i * 5) (omega arith),
            same (i * 5 + 1) (omega arith),
            same (i * 5 + 2) (omega arith),
            same (i * 5 + 3) (omega arith),
            same
                (i * 5 + 4) (omega arith),
          )
          (x.kinds.each i o)

      at : (j : ℕ) → j < 5 → get_or U (c.traits * 5 + j) 0 ≡ get_or (numbers t) j 0
      at j l = sets-at (numbers t) m.traits (c.traits * 5) j (omega arith) h

      new : TraitRep m.store u m.names c.names (trait_at U c.traits) k
      new =
          let e : c.traits * 5 + 0 ≡ c.traits * 5 = omega arith in
          rw (rw e at (at 0 (omega arith)), at 1 (omega arith), at 2 (omega arith), at 3 (omega arith), at 4 (omega arith)) r

  -- an open row enters the objects
  pub sim-object : (r : ℕ) → c.objects < length m.objects → r < c.rows → spot m.rows r col_end ≡ 0
      → ((i : ℕ) → i < c.objects → get_or m.objects i 0 < r)
      → Sim u (with_objects m (set m.objects c.objects r)) (objects_to c (c.objects + 1)) (add_object s)
  sim-object r h l o below =
      let y = x.objects in
      record {
        limit = x.limit;
        rows_in = x.rows_in;
        settled = x.settled;
        store_in = x.store_in;
        names_in = x.names_in;
        strings = x.strings;
        kinds = x.kinds;
        objects = record {
          fits = rw length-set (omega arith);
          many = rw (y.many, length-append) (omega arith);
          each = λ i k. at-end none none s.objects c.objects i (λ i t. Entry (land_to u m c) (get_or O i 0) t) y.many
              (λ o. rw (same i o) (y.each i o)) (rw here (l, o)) k;
          order = λ i j a b. ordered i j a b;
        };
      }
    where
      O : List ℕ
      O = set m.objects c.objects r

      same : Kept c.objects m.objects O
      same = kept_set c.objects c.objects r m.objects (omega arith)

      here : get_or O c.objects 0 ≡ r
      here = get_or-set_same m.objects c.objects r 0 h

      ordered : (i j : ℕ) → i < j → j < c.objects + 1 → get_or O i 0 < get_or O j 0
      ordered i j a b = elim (dec_lt j c.objects) [
        | yes k ↦ rw (same i (omega arith), same j k) (x.objects.order i j a k)
        | no k ↦ (let q : j ≡ c.objects = omega arith in rw (q, here, same i (omega arith)) (below i (omega arith)))
      ]

  -- row r ends; it is object i, or no object
  pub sim-close : (r i : ℕ) (t : Tree) → spot m.rows r col_end ≡ 0 → ((j : ℕ) → j < c.objects → j ≢ i → get_or m.objects j 0 ≢ r)
      → (i < c.objects → (get_or m.objects i 0 ≡ r) × Own t (land (put m.rows r col_end c.rows) c.rows m.store u) r)
      → Sim u (with_rows m (put m.rows r col_end c.rows)) c (set_object i t s)
  sim-close r i t o others mine =
      let y = x.objects in
      record {
        limit = x.limit;
        rows_in = rw length-set x.rows_in;
        settled = x.settled;
        store_in = x.store_in;
        names_in = x.names_in;
        strings =
            x.strings;
        kinds = x.kinds;
        objects = record {
          fits = y.fits;
          many = rw length-set y.many;
          each = λ j l. elim (ℕ_discrete j i) [
            | yes e ↦ (let k : i < length s.objects = (let q = y.many in omega arith) in let q = mine (omega arith) in
                rw (e, get_or-set_same, q.0) q.1)
            | no e ↦ rw get_or-set_other (entry (get_or m.objects j 0) (get_or s.objects j none) (others j l e) (y.each j l))
          ];
          order = y.order;
        };
      }
    where
      entry : (q : ℕ) (z : Option Tree) → q ≢ r → Entry (land_to u m c) q z
          → Entry (land (put m.rows r col_end c.rows) c.rows m.store u) q z
      entry q none d h = let f : q * row_width + col_end ≢ r * row_width + col_end = omega arith in (h.0, rw get_or-set_other h.1)
      entry q (some z) d h = own-ext (ext-put (land_to u m c) r col_end c.rows o (omega arith)) z q h
