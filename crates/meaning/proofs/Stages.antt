-- The loans between two values, and within one: what holds of them, and that each change to them keeps it.
use mathlib.Core.Path.{◌≡◌, refl, ◌∙◌}
use mathlib.Core.Bool.{true}
use mathlib.Core.List.{List, ◌∷◌}
use mathlib.Core.Logic.{◌≢◌}
use Prim.Native.Nat.{ℕ, ◌+◌, ◌*◌, ◌<◌, ◌≤◌}
use native.Mathlib.Omega.{arith}
use native.Mathlib.Decide.{dec_lt, ℕ_discrete}
use lib.ListN.{length, get_or, set, length-set}
use lib.Seq.{sets, length-sets, get_or-set_same, get_or-set_other}
use Rattle.rows.specs.declared.Cursor.{Cursor}
use Rattle.rows.specs.declared.Key.{Key}
use Rattle.rows.specs.Memory.{Memory, memory, span_at, put, col_kind, col_end}
use Rattle.format.specs.Decide.{rows_to, objects_to, trait_at, class_of}
use Rattle.format.specs.RowTest.{is_object, Given}
use Rattle.format.proofs.Lists.{sets_in, Kept, kept_set, kept_sets, last_or}
use Rattle.format.proofs.Memories.{with_rows}
use Rattle.meaning.proofs.Ground.{spot, Land, land, at, Done, Ext, ext-kept, ext-put, spot-put, land_of}
use Rattle.meaning.proofs.Lands.{Valid, Meets, Marked, Form, Sound, form-ext, bare, named, long, sound-ext}
use Rattle.rows.specs.Memory.{row_width}

-- ---- what holds of the loans

pub data Ends (L : Land) (t : ℕ) : Type 0 where
  still : at L t col_end ≡ 0 → Ends L t
  already : Done L t → Ends L t

-- an object's row
pub record Entry (L : Land) (t : ℕ) : Type 0 where
  pub below : t < L.used
  pub kind : is_object (at L t col_kind) ≡ true
  pub ending : Ends L t

-- the texts of strings, names and classes are valid, and objects are rows of such kinds
pub record Ok (m : Memory) (c : Cursor) : Type 0 where
  pub rows_in : c.rows * row_width ≤ length m.rows
  pub store_in : c.store ≤ length m.store
  pub strings : (i : ℕ) → i < c.strings → Valid (land_of m c) (span_at m.strings i)
  pub names : (i : ℕ) → i < c.names → Valid (land_of m c) (span_at m.names i)
  pub traits : (i : ℕ) → i < c.traits → Valid (land_of m c) (class_of (trait_at m.traits i))
  pub objects : (i : ℕ) → i < c.objects → Entry (land_of m c) (get_or m.objects i 0)

-- m' and c' come later: the rows and the store used then are the same
pub record Keep (m : Memory) (c : Cursor) (m' : Memory) (c' : Cursor) : Type 0 where
  pub rows_up : c.rows ≤ c'.rows
  pub rows : Kept (c.rows * row_width) m.rows m'.rows
  pub store_up : c.store ≤ c'.store
  pub store : Kept c.store m.store m'.store
  pub long : length m'.store ≡ length m.store

pub keep_trans : {m m₁ m₂ : Memory} {c c₁ c₂ : Cursor} → Keep m c m₁ c₁ → Keep m₁ c₁ m₂ c₂ → Keep m c m₂ c₂
keep_trans x y =
    let a = x.rows_up in
    let b = x.store_up in
    let d = y.rows_up in
    let e = y.store_up in
    record {
      rows_up = omega arith;
      rows = λ i h. y.rows i (omega arith) ∙ x.rows i h;
      store_up = omega arith;
      store = λ i h. y.store i (omega arith) ∙ x.store i h;
      long = y.long ∙ x.long;
    }

pub keep-ext : {m m' : Memory} {c c' : Cursor} → c.store ≤ length m.store → Keep m c m' c' → Ext (land_of m c) (land_of m' c')
keep-ext {m} {m'} {c} {c'} s k =
    let l = k.long in
    ext-kept k.rows_up k.rows k.store_up k.store s (omega arith)

-- ---- within a value

-- begun at m₀ and c₀, its row has the columns cs so far, and does not end; the rows behind it are sound
pub record Stage (m₀ : Memory) (c₀ : Cursor) (cs : List ℕ) (m : Memory) (c : Cursor) : Type 0 where
  pub ok : Ok m c
  pub keep : Keep m₀ c₀ m c
  pub newer : c₀.rows < c.rows
  pub row : (j : ℕ) → j < row_width → spot m.rows c₀.rows j ≡ get_or cs j 0
  pub long : length cs ≡ row_width
  pub unended : get_or cs col_end 0 ≡ 0
  pub each : (i : ℕ) → c₀.rows < i → i < c.rows → Sound (land_of m c) i

-- a column of a row
ends-put : {L : Land} {t : ℕ} (R : List ℕ) → spot R t col_end ≡ at L t col_end → Ends L t → Ends (land R L.used L.store L.full) t
ends-put R e (still h) = still (e ∙ h)
ends-put R e (already h) = already (rw e h)

ok-put : {m : Memory} {c : Cursor} → Ok m c → (r j v : ℕ) → ((i : ℕ) → i < c.objects → get_or m.objects i 0 * row_width + 0 ≢ r * row_width + j) → j < col_end
    → Ok (with_rows m (put m.rows r j v)) c
ok-put {m} {c} x r j v a b =
    record {
      rows_in = rw length-set x.rows_in;
      store_in = x.store_in;
      strings = x.strings;
      names = x.names;
      traits = x.traits;
      objects = λ i h.
          (let t : ℕ = get_or m.objects i 0 in
          let e = x.objects i h in
          let p = a i h in
          let q : t * row_width + col_end ≢ r * row_width + j = omega arith in
          record { below = e.below; kind = rw get_or-set_other e.kind; ending = ends-put (put m.rows r j v) (simp get_or-set_other) e.ending });
    }

-- a row's end
ok-close : {m : Memory} {c : Cursor} → Ok m c → (r : ℕ) → r < c.rows → Ok (with_rows m (put m.rows r col_end c.rows)) c
ok-close {m} {c} x r l =
    record {
      rows_in = rw length-set x.rows_in;
      store_in = x.store_in;
      strings = x.strings;
      names = x.names;
      traits = x.traits;
      objects = λ i h.
          (let t : ℕ = get_or m.objects i 0 in
          let e = x.objects i h in
          let p : t * row_width + 0 ≢ r * row_width + col_end = omega arith in
          record {
            below = e.below;
            kind = rw get_or-set_other e.kind;
            ending = elim (ℕ_discrete t r) [
              | yes w ↦
                  (let a : r * row_width + col_end < length m.rows = (let b = x.rows_in in omega arith) in
                  let z : spot (put m.rows r col_end c.rows) t col_end ≡ c.rows = rw (w, get_or-set_same) in
                  already (rw z (rw w l, omega arith)))
              | no w ↦ (let q : t * row_width + col_end ≢ r * row_width + col_end = omega arith in ends-put (put m.rows r col_end c.rows) (simp get_or-set_other) e.ending)
            ];
          });
    }

module _ {m₀ : Memory} {c₀ : Cursor} {cs : List ℕ} {m : Memory} {c : Cursor} (x : Stage m₀ c₀ cs m c) where
  pub open_row : spot m.rows c₀.rows col_end ≡ 0
  open_row = x.row col_end (omega arith) ∙ x.unended

  pub keep-put : (j v : ℕ) → Keep m₀ c₀ (with_rows m (put m.rows c₀.rows j v)) c
  keep-put j v =
      let k = x.keep in
      record {
        rows_up = k.rows_up;
        rows = λ i l. kept_set (c₀.rows * row_width) (c₀.rows * row_width + j) v m.rows (omega arith) i l ∙ k.rows i l;
        store_up = k.store_up;
        store = k.store;
        long = k.long;
      }

  pub row_put : (j v i : ℕ) → i < row_width → spot (put m.rows c₀.rows j v) c₀.rows i ≡ get_or (set cs j v) i 0
  row_put j v = spot-put m.rows cs c₀.rows j v x.long (let b = x.newer in let d = x.ok.rows_in in omega arith) x.row

  pub stage-ext : (j v : ℕ) → j < row_width → Ext (land_of m c) (land_of (with_rows m (put m.rows c₀.rows j v)) c)
  stage-ext j v h = ext-put (land_of m c) c₀.rows j v open_row h

  -- a column of its row; its kind, where it is no object
  pub stage-set : (j v : ℕ) → ((i : ℕ) → i < c.objects → get_or m.objects i 0 * row_width + 0 ≢ c₀.rows * row_width + j) → j < col_end
      → Stage m₀ c₀ (set cs j v) (with_rows m (put m.rows c₀.rows j v)) c
  stage-set j v a b =
      let e : col_end ≢ j = omega arith in
      record {
        ok = ok-put x.ok c₀.rows j v a b;
        keep = keep-put j v;
        newer = x.newer;
        row = row_put j v;
        long = rw length-set x.long;
        unended = rw get_or-set_other x.unended;
        each = λ i l h. sound-ext (stage-ext j v (omega arith)) (x.each i l h);
      }

  pub stage-put : (j v : ℕ) → 0 < j → j < col_end → Stage m₀ c₀ (set cs j v) (with_rows m (put m.rows c₀.rows j v)) c
  stage-put j v a b = stage-set j v (λ i h. omega arith) b

  -- later, with what has been read meanwhile
  pub stage-later : {m' : Memory} {c' : Cursor} → Keep m c m' c' → Ok m' c' → ((i : ℕ) → c.rows ≤ i → i < c'.rows → Sound (land_of m' c') i)
      → Stage m₀ c₀ cs m' c'
  stage-later {m'} {c'} k o more =
      let a = x.newer in
      let b = k.rows_up in
      record {
        ok = o;
        keep = keep_trans x.keep k;
        newer = omega arith;
        row = λ j h. k.rows (c₀.rows * row_width + j) (omega arith) ∙ x.row j h;
        long = x.long;
        unended = x.unended;
        each = λ i l h. elim (dec_lt i c.rows) [ yes q ↦ sound-ext (keep-ext x.ok.store_in k) (x.each i l q) | no q ↦ more i (omega arith) h ];
      }

  -- its row enters the objects
  pub stage-enter : is_object (get_or cs 0 0) ≡ true → c.objects < length m.objects
      → Stage m₀ c₀ cs (memory m.rows m.store m.strings (set m.objects c.objects c₀.rows) m.traits m.names)
      (objects_to c (c.objects + 1))
  stage-enter o l =
      let k = x.keep in
      let y = x.ok in
      record {
        ok = record {
          rows_in = y.rows_in;
          store_in = y.store_in;
          strings = y.strings;
          names = y.names;
          traits = y.traits;
          objects = λ i h. last_or c.objects i (λ i. Entry (land_of m c) (get_or (set m.objects c.objects c₀.rows) i 0))
              (λ q. rw (kept_set c.objects c.objects c₀.rows m.objects (omega arith) i q) (y.objects i q))
              (rw get_or-set_same (record { below = x.newer; kind = rw (x.row col_kind (omega arith)) o; ending = still open_row })) h;
        };
        keep = record { rows_up = k.rows_up; rows = k.rows; store_up = k.store_up; store = k.store; long = k.long };
        newer = x.newer;
        row = x.row;
        long = x.long;
        unended = x.unended;
        each = x.each;
      }

module _ {m₀ : Memory} {c₀ : Cursor} {cs : List ℕ} {m : Memory} {c : Cursor} (x : Stage m₀ c₀ cs m c) where
  -- its span; its class
  pub stage-span : (b z : ℕ) → Stage m₀ c₀ (set (set cs 4 b) 5 z) (with_rows m (put (put m.rows c₀.rows 4 b) c₀.rows 5 z)) c
  stage-span b z = stage-put (stage-put x 4 b (omega arith) (omega arith)) 5 z (omega arith) (omega arith)

module _ {m₀ : Memory} {c₀ : Cursor} {cs : List ℕ} {m : Memory} {c : Cursor} (x : Stage m₀ c₀ cs m c) where
  pub stage-class : (mark b z : ℕ)
      → Stage m₀ c₀ (set (set (set cs 6 mark) 4 b) 5 z) (with_rows m (put (put (put m.rows c₀.rows 6 mark) c₀.rows 4 b) c₀.rows 5 z)) c
  stage-class mark b z = stage-span (stage-put x 6 mark (omega arith) (omega arith)) b z

-- ---- a value that has been read: where it ends, and that all its rows are sound

pub record Val (g : Given) (m₀ : Memory) (c₀ : Cursor) (m : Memory) (c : Cursor) : Type 0 where
  pub ok : Ok m c
  pub keep : Keep m₀ c₀ m c
  pub newer : c₀.rows < c.rows
  pub fin : spot m.rows c₀.rows col_end ≡ c.rows
  pub marked : Marked (land_of m c) g c₀.rows
  pub each : (i : ℕ) → c₀.rows ≤ i → i < c.rows → Sound (land_of m c) i

-- the mark that a key asks for
marked_in : {L : Land} {g : Given} {k : Key} {i : ℕ} → Meets L g k → at L i 1 ≡ k.mark → at L i 3 ≡ k.size → Marked L g i
marked_in bare a b = record { mark = a; size = λ t. absurd t }
marked_in (named v) a b = record { mark = a; size = λ t. absurd t }
marked_in (long v l) a b = record { mark = a; size = λ t. rw b l }

-- a value from its row
module _ {g : Given} {m₀ : Memory} {c₀ : Cursor} {m : Memory} {c : Cursor} where
  pub val_of : {kind : ℕ} {k : Key} {cs : List ℕ} → Ok m c → Keep m₀ c₀ m c → c₀.rows < c.rows → Meets (land_of m c) g k
      → Form (land_of m c) c₀.rows kind cs
      → get_or cs 7 0 ≡ c.rows → ((j : ℕ) → j < row_width → spot m.rows c₀.rows j ≡ get_or (kind ∷ k.mark ∷ k.begin ∷ k.size ∷ cs) j 0)
      → ((i : ℕ) → c₀.rows < i → i < c.rows → Sound (land_of m c) i) → Val g m₀ c₀ m c
  val_of {kind} {k} {cs} o q l h f e r more =
      let z : spot m.rows c₀.rows col_end ≡ c.rows = r col_end (omega arith) ∙ e in
      record {
        ok = o;
        keep = q;
        newer = l;
        fin = z;
        marked = marked_in h (r 1 (omega arith)) (r 3 (omega arith));
        each = λ i a b. elim (ℕ_discrete i c₀.rows) [
          | yes w ↦ rw w (record { kind = kind; given = g; key = k; body = cs; top = omega arith; meets = h; form = f; row = r })
          | no w ↦ more i (omega arith) b
        ];
      }

module _ {g : Given} {m₀ : Memory} {c₀ : Cursor} {m : Memory} {c : Cursor} where
  -- it ends
  pub stage-close : {kind : ℕ} {k : Key} {cs : List ℕ} → Stage m₀ c₀ (kind ∷ k.mark ∷ k.begin ∷ k.size ∷ cs) m c → Meets (land_of m c) g k
      → Form (land_of m c) c₀.rows kind (set cs 7 c.rows) → Val g m₀ c₀ (with_rows m (put m.rows c₀.rows col_end c.rows)) c
  stage-close {kind} {k} {cs} x h f =
      let n = x.long in
      let a : 7 < length cs = omega arith in
      let e = stage-ext x col_end c.rows (omega arith) in
      val_of {k = k} (ok-close x.ok c₀.rows x.newer) (keep-put x col_end c.rows) x.newer h (form-ext e f) (get_or-set_same cs 7 c.rows 0 a)
      (row_put x col_end c.rows)
      (λ i l b. sound-ext e (x.each i l b))

-- ---- a row more

module _ {m : Memory} {c : Cursor} (x : Ok m c) (cs : List ℕ) (long : length cs ≡ row_width) (room : c.rows * row_width + row_width ≤ length m.rows) where
  abbrev pub grown_rows : Memory
  grown_rows = with_rows m (sets m.rows (c.rows * row_width) cs)

  abbrev pub grown_by : Cursor
  grown_by = rows_to c (c.rows + 1)

  same_row : (i j : ℕ) → i < c.rows → j < row_width → spot (sets m.rows (c.rows * row_width) cs) i j ≡ spot m.rows i j
  same_row i j h l = kept_sets (c.rows * row_width) (c.rows * row_width) cs m.rows (omega arith) (i * row_width + j) (omega arith)

  pub begin-keep : Keep m c grown_rows grown_by
  begin-keep =
      record {
        rows_up = omega arith;
        rows = kept_sets (c.rows * row_width) (c.rows * row_width) cs m.rows (omega arith);
        store_up = omega arith;
        store = λ i h. refl;
        long = refl;
      }

  pub begin-ok : Ok grown_rows grown_by
  begin-ok =
      let e = length-sets m.rows (c.rows * row_width) cs in
      record {
        rows_in = omega arith;
        store_in = x.store_in;
        strings = x.strings;
        names = x.names;
        traits = x.traits;
        objects = λ i h.
            (let y = x.objects i h in
            let l = y.below in
            record {
              below = omega arith;
              kind = rw (same_row (get_or m.objects i 0) 0 l (omega arith)) y.kind;
              ending = ending
                  (get_or m.objects i 0) l y.ending;
            });
      }
    where
      ending : (t : ℕ) → t < c.rows → Ends (land_of m c) t → Ends (land_of grown_rows grown_by) t
      ending t l (still h) = still (same_row t col_end l (omega arith) ∙ h)
      ending t l (already h) = let a = h.1 in already (rw (same_row t col_end l (omega arith)) (h.0, omega arith))

  pub begin-row : (j : ℕ) → j < row_width → spot (sets m.rows (c.rows * row_width) cs) c.rows j ≡ get_or cs j 0
  begin-row j h = sets_in cs m.rows (c.rows * row_width) (c.rows * row_width + j) j refl (omega arith) (omega arith)

  pub stage-begin : get_or cs col_end 0 ≡ 0 → Stage m c cs grown_rows grown_by
  stage-begin u =
      record {
        ok = begin-ok;
        keep = begin-keep;
        newer = omega arith;
        row = begin-row;
        long = long;
        unended = u;
        each = λ i l h. absurd (omega arith);
      }
