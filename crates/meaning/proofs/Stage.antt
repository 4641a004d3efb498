-- A value in work: its row is open, all before it stays, and it ends with its tree.
use mathlib.Core.Path.{◌≡◌, refl, sym, ◌∙◌, subst}
use mathlib.Core.Bool.{Bool, true, false}
use mathlib.Core.List.{List}
use mathlib.Core.Logic.{◌≢◌}
use mathlib.Core.Option.{Option, none, some}
use Prim.Native.Nat.{ℕ, ◌+◌, ◌*◌, ◌<◌, ◌≤◌}
use native.Mathlib.Omega.{arith}
use native.Mathlib.Decide.{dec_lt}
use lib.ListN.{length, get_or, set, length-set}
use lib.Seq.{get_or-set_same, get_or-set_other}
use Rattle.rows.specs.declared.Cursor.{Cursor}
use Rattle.rows.specs.declared.Key.{Key}
use Rattle.rows.specs.Memory.{Memory, memory, cursor, message_limit, put, col_end}
use Rattle.format.specs.Decide.{objects_to}
use Rattle.format.specs.Unfold.{part}
use Rattle.format.specs.Standard.{Tree, Tables}
use Rattle.format.proofs.Lists.{Kept, kept_set}
use Rattle.format.proofs.Memories.{at_to, with_rows, with_objects}
use Rattle.meaning.proofs.Ground.{spot, Land, ext-put, spot-put, land_of, land_to}
use Rattle.meaning.proofs.Rep.{Face, face, Is, Own, Rep, own-head, Kids, own_of, kids-ext}
use Rattle.meaning.proofs.Tables.{Entry, Sim}
use Rattle.meaning.proofs.Changes.{add_object, set_object, sim-at, sim_put, sim-object, sim-close}
use Rattle.rows.specs.Memory.{row_width}

-- ---- what stays

-- m' and c' come later: all that was used then is the same; of the store, the first u bytes
pub record Keep (u : ℕ) (m : Memory) (c : Cursor) (m' : Memory) (c' : Cursor) : Type 0 where
  pub rows_up : c.rows ≤ c'.rows
  pub rows : Kept (c.rows * row_width) m.rows m'.rows
  pub store_up : c.store ≤ c'.store
  pub store : Kept u m.store m'.store
  pub names_up : c.names ≤ c'.names
  pub names : Kept (c.names * 2) m.names m'.names
  pub objects_up : c.objects ≤ c'.objects
  pub objects : Kept c.objects m.objects m'.objects
  pub at_up : c.at ≤ c'.at

pub keep_trans : {u v : ℕ} {m m₁ m₂ : Memory} {c c₁ c₂ : Cursor} → u ≤ v → Keep u m c m₁ c₁ → Keep v m₁ c₁ m₂ c₂ → Keep u m c m₂ c₂
keep_trans l x y =
    let a = x.rows_up in
    let b = x.store_up in
    let d = x.names_up in
    let e = x.objects_up in
    let f = x.at_up in
    let a₁ = y.rows_up in
    let b₁ = y.store_up in
    let d₁ = y.names_up in
    let e₁ = y.objects_up in
    let f₁ = y.at_up in
    record {
      rows_up = omega arith;
      rows = λ i h. y.rows i (omega arith) ∙ x.rows i h;
      store_up = omega arith;
      store = λ i h. y.store i (omega arith) ∙ x.store i h;
      names_up = omega arith;
      names = λ i h. y.names i (omega arith) ∙ x.names i h;
      objects_up = omega arith;
      objects = λ i h. y.objects i (omega arith) ∙ x.objects i h;
      at_up = omega arith;
    }

-- rows past those that were used then may change
pub keep-rows : {u : ℕ} {m m' : Memory} {c c' : Cursor} (R : List ℕ) → Kept (c.rows * row_width) m'.rows R → Keep u m c m' c'
    → Keep u m c (with_rows m' R) c'
keep-rows R h k =
    record {
      rows_up = k.rows_up;
      rows = λ i l. h i l ∙ k.rows i l;
      store_up = k.store_up;
      store = k.store;
      names_up = k.names_up;
      names = k.names;
      objects_up = k.objects_up;
      objects = k.objects;
      at_up = k.at_up;
    }

-- as it is after a text: no row, name or object more
pub record Quiet (u : ℕ) (m : Memory) (c : Cursor) (m' : Memory) (c' : Cursor) : Type 0 where
  pub keep : Keep u m c m' c'
  pub rows_same : c'.rows ≡ c.rows
  pub names_same : c'.names ≡ c.names
  pub objects_same : c'.objects ≡ c.objects

-- bytes past the first u, the tables of strings and traits, and what is taken and used besides
pub quiet_of : (u : ℕ) (m : Memory) (c : Cursor) (B T U : List ℕ) (a z t v : ℕ) → c.at ≤ a → c.store ≤ z → Kept u m.store B
    → Quiet u m c (memory m.rows B T m.objects U m.names) (cursor a c.rows z t c.objects v c.names)
quiet_of u m c B T U a z t v h k b =
    record {
      keep = record {
        rows_up = omega arith;
        rows = λ i l. refl;
        store_up = k;
        store = b;
        names_up = omega arith;
        names = λ i l. refl;
        objects_up = omega arith;
        objects = λ i l. refl;
        at_up = h;
      };
      rows_same = refl;
      names_same = refl;
      objects_same = refl;
    }

pub quiet_at : (u : ℕ) (m : Memory) (c : Cursor) (n : ℕ) → c.at ≤ n → Quiet u m c m (at_to c n)
quiet_at u m c n h = quiet_of u m c m.store m.strings m.traits n c.store c.strings c.traits h (omega arith) (λ i l. refl)

pub quiet_same : (u : ℕ) (m : Memory) (c : Cursor) → Quiet u m c m c
quiet_same u m c = quiet_at u m c c.at (omega arith)

pub quiet_trans : {u v : ℕ} {m m₁ m₂ : Memory} {c c₁ c₂ : Cursor} → u ≤ v → Quiet u m c m₁ c₁ → Quiet v m₁ c₁ m₂ c₂ → Quiet u m c m₂ c₂
quiet_trans l x y =
    record {
      keep = keep_trans l x.keep y.keep;
      rows_same = y.rows_same ∙ x.rows_same;
      names_same = y.names_same ∙ x.names_same;
      objects_same = y.objects_same ∙ x.objects_same;
    }

-- ---- a value read alike: its row, its end, its key

pub record Val (m : Memory) (c : Cursor) (k : Key) (x : Unit {0}) (m' : Memory) (c' : Cursor) (t : Tree) (s' : Tables) : Type 0 where
  pub sim : Sim c'.store m' c' s'
  pub keep : Keep c.store m c m' c'
  pub rep : Rep t (land_of m' c') c.rows
  pub fin : spot m'.rows c.rows col_end ≡ c'.rows
  pub key_begin : spot m'.rows c.rows 2 ≡ k.begin
  pub key_size : spot m'.rows c.rows 3 ≡ k.size
  pub more : c.at < c'.at

-- ---- a value in work

-- it is no object so far; it is the first object of those since it began
abbrev pub Slot : Bool → Memory → Cursor → Memory → Cursor → Type 0
Slot false m₀ c₀ m c = c.objects ≡ c₀.objects
Slot true m₀ c₀ m c = (c₀.objects < c.objects) × (get_or m.objects c₀.objects 0 ≡ c₀.rows)

-- begun at m₀ and c₀, its row has the columns cs so far
pub record Stage (o : Bool) (m₀ : Memory) (c₀ : Cursor) (cs : List ℕ) (u : ℕ) (m : Memory) (c : Cursor) (s : Tables) : Type 0 where
  pub sim : Sim u m c s
  pub keep : Keep c₀.store m₀ c₀ m c
  pub high : c₀.store ≤ u
  pub newer : c₀.rows < c.rows
  pub row : (j : ℕ) → j < row_width → spot m.rows c₀.rows j ≡ get_or cs j 0
  pub long : length cs ≡ row_width
  pub unended : get_or cs col_end 0 ≡ 0
  pub below : (i : ℕ) → i < c₀.objects → (get_or m₀.objects i 0 < c₀.rows) × (spot m₀.rows (get_or m₀.objects i 0) col_end ≤ c₀.rows)
  pub slot : Slot o m₀ c₀ m c

-- objects lie and end in the rows that are used
pub objects-below : {u : ℕ} {m : Memory} {c : Cursor} {s : Tables} → Sim u m c s → (i : ℕ) → i < c.objects
    → (get_or m.objects i 0 < c.rows) × (spot m.rows (get_or m.objects i 0) col_end ≤ c.rows)
objects-below {u} {m} {c} {s} x i l = entry (get_or m.objects i 0) (get_or s.objects i none) (x.objects.each i l)
  where
    entry : (r : ℕ) (t : Option Tree) → Entry (land_to u m c) r t → (r < c.rows) × (spot m.rows r col_end ≤ c.rows)
    entry r none h = let e = h.1 in (h.0, omega arith)
    entry r (some t) h = let d = own-head t (land_to u m c) r h in let a = d.0 in let b = d.1 in (omega arith, b)

module _ {m₀ : Memory} {c₀ : Cursor} {cs : List ℕ} {u : ℕ} {m : Memory} {c : Cursor} {s : Tables} where
  slot-move : (o : Bool) → Stage o m₀ c₀ cs u m c s → {v : ℕ} {m' : Memory} {c' : Cursor} → Keep v m c m' c' → c'.objects ≡ c.objects
      → Slot o m₀ c₀ m' c'
  slot-move false x k e = e ∙ x.slot
  slot-move true x k e = let a = x.slot.0 in (omega arith, k.objects c₀.objects a ∙ x.slot.1)

  module _ {o : Bool} (x : Stage o m₀ c₀ cs u m c s) where
    pub open_row : spot m.rows c₀.rows col_end ≡ 0
    open_row = x.row col_end (omega arith) ∙ x.unended

    -- a later memory
    later : {m' : Memory} {c' : Cursor} {s' : Tables} (v : ℕ) → u ≤ v → Keep u m c m' c' → Sim v m' c' s' → Slot o m₀ c₀ m' c'
        → Stage o m₀ c₀ cs v m' c' s'
    later v l k y z =
        let a = x.newer in
        let b = k.rows_up in
        let d = x.high in
        record {
          sim = y;
          keep = keep_trans d x.keep k;
          high = omega arith;
          newer = omega arith;
          row = λ j h. k.rows (c₀.rows * row_width + j) (omega arith) ∙ x.row j h;
          long = x.long;
          unended = x.unended;
          below = x.below;
          slot = z;
        }

    pub stage-quiet : {m' : Memory} {c' : Cursor} {s' : Tables} (v : ℕ) → u ≤ v → Quiet u m c m' c' → Sim v m' c' s' → Stage o m₀ c₀ cs v m' c' s'
    stage-quiet v l q y = later v l q.keep y (slot-move o x q.keep q.objects_same)

    pub stage_at : (n : ℕ) → c.at ≤ n → n ≤ message_limit → Stage o m₀ c₀ cs u m (at_to c n) s
    stage_at n h l = stage-quiet u (omega arith) (quiet_at u m c n h) (sim-at x.sim n l)

    -- a column of its row
    pub stage-put : (j v : ℕ) → j < col_end → Stage o m₀ c₀ (set cs j v) u (with_rows m (put m.rows c₀.rows j v)) c s
    stage-put j v h =
        let e : col_end ≢ j = omega arith in
        record {
          sim = sim_put x.sim c₀.rows j v open_row (omega arith) h;
          keep = keep-rows _ (kept_set (c₀.rows * row_width) (c₀.rows * row_width + j) v m.rows (omega arith)) x.keep;
          high = x.high;
          newer = x.newer;
          row = spot-put m.rows cs c₀.rows j v x.long (let b = x.newer in let d = x.sim.rows_in in omega arith) x.row;
          long = rw length-set x.long;
          unended = rw get_or-set_other x.unended;
          below = x.below;
          slot = put-slot o x.slot;
        }
      where
        put-slot : (o : Bool) → Slot o m₀ c₀ m c → Slot o m₀ c₀ (with_rows m (put m.rows c₀.rows j v)) c
        put-slot false z = z
        put-slot true z = z

  pub stage-keep : (x : Stage true m₀ c₀ cs u m c s) {m' : Memory} {c' : Cursor} {s' : Tables} (v : ℕ) → u ≤ v → Keep u m c m' c' → Sim v m' c' s'
      → Stage true m₀ c₀ cs v m' c' s'
  stage-keep x v l k y =
      let a = x.slot.0 in
      let b = k.objects_up in
      later x v l k y (omega arith, k.objects c₀.objects a ∙ x.slot.1)

  -- its row enters the objects
  pub stage-enter : (x : Stage false m₀ c₀ cs u m c s) → c.objects < length m.objects
      → Stage true m₀ c₀ cs u (with_objects m (set m.objects c.objects c₀.rows)) (objects_to c (c.objects + 1)) (add_object s)
  stage-enter x h =
      let k = x.keep in
      let e = x.slot in
      record {
        sim = sim-object x.sim c₀.rows h x.newer (open_row x) (λ i l. rw (k.objects i (omega arith)) (x.below i (omega arith)).0);
        keep = record {
          rows_up = k.rows_up;
          rows = k.rows;
          store_up = k.store_up;
          store = k.store;
          names_up = k.names_up;
          names = k.names;
          objects_up = omega arith;
          objects = λ i l. kept_set c.objects c.objects c₀.rows m.objects (omega arith) i (omega arith) ∙ k.objects i l;
          at_up = k.at_up;
        };
        high = x.high;
        newer = x.newer;
        row = x.row;
        long = x.long;
        unended = x.unended;
        below = x.below;
        slot = (omega arith, rw (← e) (get_or-set_same m.objects c.objects c₀.rows 0 h));
      }

-- ---- it ends

-- the face that columns give
abbrev pub face_of : List ℕ → List ℕ → Face
face_of cs B =
    record {
      kind = get_or cs 0 0;
      mark = get_or cs 6 0;
      flag = get_or cs 7 0;
      number = get_or cs 8 0;
      first = get_or cs 9 0;
      second = get_or cs 10 0;
      body = part B (get_or cs 4 0) (get_or cs 5 0);
    }

-- the object that it is, or one past them all
abbrev pub slot_of : Bool → Cursor → Cursor → ℕ
slot_of false c₀ c = c.objects
slot_of true c₀ c = c₀.objects

module _ {o : Bool} {m₀ : Memory} {c₀ : Cursor} {cs : List ℕ} {m : Memory} {c : Cursor} {s : Tables} (x : Stage o m₀ c₀ cs c.store m c s) where
  pub ends-col : spot (put m.rows c₀.rows col_end c.rows) c₀.rows col_end ≡ c.rows
  ends-col = let a : c₀.rows * row_width + col_end < length m.rows = (let b = x.newer in let d = x.sim.rows_in in omega arith) in simp get_or-set_same

  pub ends-row : (j : ℕ) → j < col_end → spot (put m.rows c₀.rows col_end c.rows) c₀.rows j ≡ get_or cs j 0
  ends-row j l = let a : c₀.rows * row_width + j ≢ c₀.rows * row_width + col_end = omega arith in rw get_or-set_other (x.row j (omega arith))

  -- its own tree, from its columns and what was read after it
  pub ends-own : (t : Tree) → Is t (face_of cs m.store) → get_or cs 4 0 + get_or cs 5 0 ≤ c.store → Kids t (land_of m c) c₀.rows c.rows
      → Own t (land_of (with_rows m (put m.rows c₀.rows col_end c.rows)) c) c₀.rows
  ends-own t i b k =
      let L : Land = land_of (with_rows m (put m.rows c₀.rows col_end c.rows)) c in
      let n = x.newer in
      let f : face L c₀.rows ≡ face_of cs m.store =
      rw (
        ends-row 0 (omega arith),
        ends-row 6 (omega arith),
        ends-row 7 (omega arith),
        ends-row 8 (omega arith),
        ends-row 9
            (omega arith),
        ends-row 10 (omega arith),
        ends-row 4 (omega arith),
        ends-row 5 (omega arith),
      ) in
      own_of t L c₀.rows (rw (ends-col, ends-row 4 (omega arith), ends-row 5 (omega arith)) (n, omega arith, b)) (subst (Is t) (sym f) i)
      (rw ends-col (kids-ext (ext-put (land_of m c) c₀.rows col_end c.rows (open_row x) (omega arith)) t c₀.rows c.rows k))

  -- with its tree it is a value read alike
  pub ends-val : (k : Key) (t : Tree) → get_or cs 2 0 ≡ k.begin → get_or cs 3 0 ≡ k.size → c₀.at < c.at
      → Rep t (land_of (with_rows m (put m.rows c₀.rows col_end c.rows)) c) c₀.rows
      → (o ≡ true → Own t (land_of (with_rows m (put m.rows c₀.rows col_end c.rows)) c) c₀.rows)
      → Val m₀ c₀ k tt (with_rows m (put m.rows c₀.rows col_end c.rows)) c t (set_object (slot_of o c₀ c) t s)
  ends-val k t b z l r own =
      record {
        sim = close o x own;
        keep = keep-rows _ (kept_set (c₀.rows * row_width) (c₀.rows * row_width + col_end) c.rows m.rows (omega arith)) x.keep;
        rep = r;
        fin = ends-col;
        key_begin = ends-row 2 (omega arith) ∙ b;
        key_size = ends-row 3 (omega arith) ∙ z;
        more = l;
      }
    where
      close : (o : Bool) → Stage o m₀ c₀ cs c.store m c s
          → (o ≡ true → Own t (land_of (with_rows m (put m.rows c₀.rows col_end c.rows)) c) c₀.rows)
          → Sim c.store (with_rows m (put m.rows c₀.rows col_end c.rows)) c (set_object (slot_of o c₀ c) t s)
      close false x own =
          sim-close x.sim c₀.rows c.objects t (open_row x)
          (λ j l d e. let a = x.slot in let b = (x.below j (omega arith)).0 in let f = x.keep.objects j (omega arith) in absurd (omega arith))
          (λ l. absurd (omega arith))
      close true x own =
          let a = x.slot.1 in
          sim-close x.sim c₀.rows c₀.objects t (open_row x)
          (λ j l d e. elim (dec_lt j c₀.objects) [
            | yes h ↦ (let b = x.sim.objects.order j c₀.objects h x.slot.0 in absurd (omega arith))
            | no h ↦ (let b = x.sim.objects.order c₀.objects j (omega arith) l in absurd (omega arith))
          ]) (λ l. (a, own refl))
