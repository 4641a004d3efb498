-- How a value begins and ends: its marker, its entry among the objects, a reference, and its end.
use mathlib.Core.Path.{◌≡◌, refl, sym, ◌∙◌, subst}
use mathlib.Core.Bool.{true, false, cond, not}
use mathlib.Core.List.{List, [], ◌∷◌}
use mathlib.Core.Option.{Option, none, some}
use Prim.Native.Nat.{ℕ, suc, ◌+◌, ◌*◌, ◌/◌, ◌<◌, ◌≤◌}
use native.Mathlib.Omega.{arith}
use native.Mathlib.Decide.{dec_lt}
use borrow.Author.Tests.{lt-ltb, le-ltb, le-leb, lt-leb, leb-false, ne_eqb}
use lib.Dec.{leb, ltb, eqb, lit≤}
use lib.ListN.{length, get_or, set}
use lib.Seq.{sets, set_out}
use Rattle.rows.specs.declared.Cursor.{Cursor}
use Rattle.rows.specs.declared.Key.{Key}
use Rattle.rows.specs.Memory.{Memory, message_limit, col, put, col_end, row_used}
use Rattle.format.specs.Decide.{Body, stop, give, lift, rows_to, objects_to, on_rows, on_objects, closed, entered, referred}
use Rattle.format.specs.Reading as our
use Rattle.format.specs.Reading.{Values, ResultOf, ok, bind, Reader, decided, taken}
use Rattle.format.specs.Standard as std
use Rattle.format.specs.Standard.{Tables, Tree, Std}
use Rattle.format.proofs.Tests.{clash}
use Rattle.format.proofs.Lists.{kept_sets, sets-at}
use Rattle.format.proofs.Memories.{with_rows, with_objects}
use Rattle.meaning.proofs.Ground.{spot, col-lent, Land, at, ext_trans, ext-put, land_of, land_to}
use Rattle.format.proofs.Alike.{Left, Agree, fine, both}
use Rattle.meaning.proofs.Rep.{goal, face, Is, Own, before, own-head, own-rep, own-ext, Kids}
use Rattle.meaning.proofs.Tables.{Entry, Sim}
use Rattle.meaning.proofs.Changes.{add_object, set_object, sim-at, sim-row}
use Rattle.meaning.proofs.Stage.{Keep, Val, Stage, objects-below, open_row, stage-put, stage-enter, face_of, ends-col, ends-row, ends-own}
use Rattle.meaning.proofs.Stage.{ends-val}
use Rattle.meaning.proofs.Texts.{limit}
use Rattle.meaning.proofs.Loops.{stage-used}
use Rattle.rows.specs.Memory.{row_width}
use Rattle.format.specs.Refusals as refusals
use Rattle.rows.specs.Memory.{col_kind, col_key_begin, col_key_size, col_body_begin, col_body_size, col_class_mark, col_flag, col_number, col_count, col_count2}

-- ---- the end

-- no object: the standard's tables stay
pub free : {m : Memory} {c : Cursor} {s : Tables} (u : ℕ) (t : Tree) → Sim u m c s → set_object c.objects t s ≡ s
free {m} {c} {s} u t x =
    let e = x.objects.many in
    let f : set s.objects c.objects (some t) ≡ s.objects = set_out s.objects c.objects (some t) (omega arith) in
    rw f

module _ {whole : List ℕ} {m₀ : Memory} {c₀ : Cursor} {cs : List ℕ} {m : Memory} {c : Cursor} {s : Tables} (bs : List ℕ) (k : Key) where
  pub ends-object : (t : Tree) → Stage true m₀ c₀ cs c.store m c s → get_or cs 2 0 ≡ k.begin → get_or cs 3 0 ≡ k.size → c₀.at < c.at
      → Is t (face_of cs m.store) → get_or cs 4 0 + get_or cs 5 0 ≤ c.store → Kids t (land_of m c) c₀.rows c.rows
      → Left whole c.at bs → Agree whole (Val m₀ c₀ k) (decided (on_rows (closed c₀.rows) m c) m bs)
      (ok t (set_object c₀.objects t s) c.at bs)
  unfolding closed
  ends-object t x b z l i h q r = let w = ends-own x t i h q in rw (stage-used x) (fine r (ends-val x k t b z l (own-rep t _ c₀.rows w) (λ e. w)))

  pub ends-free : (t : Tree) → Stage false m₀ c₀ cs c.store m c s → get_or cs 2 0 ≡ k.begin → get_or cs 3 0 ≡ k.size → c₀.at < c.at
      → Is t (face_of cs m.store) → get_or cs 4 0 + get_or cs 5 0 ≤ c.store → Kids t (land_of m c) c₀.rows c.rows
      → Left whole c.at bs → Agree whole (Val m₀ c₀ k) (decided (on_rows (closed c₀.rows) m c) m bs) (ok t s c.at bs)
  unfolding closed
  ends-free t x b z l i h q r =
      let w = ends-own x t i h q in
      let v = ends-val x k t b z l (own-rep t _ c₀.rows w) (λ e. w) in
      rw (stage-used x) (fine r (rw (free c.store t x.sim) at v))

-- ---- the beginning

-- an open row of kind b
abbrev pub opening : ℕ → Key → List ℕ
opening b k = b ∷ k.mark ∷ k.begin ∷ k.size ∷ 0 ∷ 0 ∷ 0 ∷ 0 ∷ 0 ∷ 0 ∷ 0 ∷ 0 ∷ []

-- rows with one more, which has the columns cs
abbrev pub rowed : Memory → Cursor → List ℕ → Memory
rowed m c cs = with_rows m (sets m.rows (c.rows * row_width) cs)

abbrev pub rowed_to : Cursor → Cursor
rowed_to c = rows_to (taken c) (c.rows + 1)

module _ {m : Memory} {c : Cursor} {s : Tables} (x : Sim c.store m c s) (l : suc c.at ≤ message_limit) (f : c.rows * row_width + row_width ≤ length m.rows) where
  row-sim : (cs : List ℕ) → length cs ≡ row_width → Sim c.store (rowed m c cs) (rowed_to c) s
  row-sim cs e = sim-row (sim-at x (suc c.at) l) cs e f

  row_keep : (cs : List ℕ) → length cs ≡ row_width → Keep c.store m c (rowed m c cs) (rowed_to c)
  row_keep cs e =
      record {
        rows_up = omega arith;
        rows = kept_sets (c.rows * row_width) (c.rows * row_width) cs m.rows (omega arith);
        store_up = omega arith;
        store =
            λ i l. refl;
        names_up = omega arith;
        names = λ i l. refl;
        objects_up = omega arith;
        objects = λ i l. refl;
        at_up = omega arith;
      }

  row_at : (cs : List ℕ) → length cs ≡ row_width → (j : ℕ) → j < row_width → spot (sets m.rows (c.rows * row_width) cs) c.rows j ≡ get_or cs j 0
  row_at cs e j h = sets-at cs m.rows (c.rows * row_width) j (omega arith) (omega arith)

  pub begins : (cs : List ℕ) → length cs ≡ row_width → get_or cs col_end 0 ≡ 0 → Stage false m c cs c.store (rowed m c cs) (rowed_to c) s
  begins cs e o =
      record {
        sim = row-sim cs e;
        keep = row_keep cs e;
        high = omega arith;
        newer = omega arith;
        row = row_at cs e;
        long = e;
        unended = o;
        below = objects-below x;
        slot = refl;
      }

  -- a leaf that ends with its marker
  pub leaf-val : (k : Key) (cs : List ℕ) (p : std.Plain) → length cs ≡ row_width → get_or cs col_end 0 ≡ c.rows + 1 → get_or cs 4 0 + get_or cs 5 0 ≡ 0
      → get_or cs 2 0 ≡ k.begin → get_or cs 3 0 ≡ k.size → Is (std.plain p) (face_of cs m.store)
      → Val m c k tt (rowed m c cs) (rowed_to c) (std.plain p) s
  leaf-val k cs p e n z b d i =
      let L : Land = land_to c.store (rowed m c cs) (rowed_to c) in
      let a : (j : ℕ) → j < row_width → at L c.rows j ≡ get_or cs j 0 = row_at cs e in
      let g : face L c.rows ≡ face_of cs m.store =
      rw (
        a col_kind (omega arith),
        a col_class_mark (omega arith),
        a col_flag (omega arith),
        a col_number (omega arith),
        a col_count (omega arith),
        a col_count2 (omega arith),
        a 4
            (omega arith),
        a col_body_size (omega arith),
      ) in
      record {
        sim = row-sim cs e;
        keep = row_keep cs e;
        rep = own-rep (std.plain p) L c.rows (
          rw (a col_end (omega arith), a col_body_begin (omega arith), a col_body_size (omega arith))
              (omega arith, omega arith, omega arith),
          subst (Is (std.plain p)) (sym g) i,
        );
        fin = a col_end (omega arith) ∙ n;
        key_begin = a col_key_begin (omega arith) ∙ b;
        key_size = a col_key_size (omega arith) ∙ d;
        more = omega arith;
      }

-- ---- objects

-- a new object of marker b and a size word that says n, begun at m₀ and c₀: read alike, and shut
abbrev pub NewAlike : List ℕ → Values → Std Tree → ℕ → Key → Memory → Cursor → ℕ → Body → ℕ → Memory → Cursor → Tables → List ℕ → Type 0
NewAlike whole value tree f k m₀ c₀ b body n m c s bs =
    Agree whole (Val m₀ c₀ k) (our.new_of value c₀.rows body n m c bs) (bind (std.new_of tree f b body n s c.at bs) (std.shut c₀.objects))

module _ {whole : List ℕ} {A B : Type 0} {Q : A → Memory → Cursor → B → Tables → Type 0} {m₀ : Memory} {c₀ : Cursor} {cs : List ℕ} where
  pub enter-then : (u : ℕ) (m : Memory) (c : Cursor) (s : Tables) (bs : List ℕ) (f : Unit → Reader A) {y : ResultOf Tables ℕ B}
      → Stage false m₀ c₀ cs u m c s → ((O : List ℕ) → Stage true m₀ c₀ cs u (with_objects m O) (objects_to c (c.objects + 1)) (add_object s)
      → Agree whole Q (f tt (with_objects m O) (objects_to c (c.objects + 1)) bs) y)
      → Agree whole Q (bind (decided (on_objects (entered c₀.rows) m c) m bs) f) y
  unfolding entered
  enter-then u m c s bs f x k =
      let a = x.sim.objects.fits in
      rw (lt-leb c.rows c₀.rows x.newer, le-ltb (length m.objects) c.objects a)
      (limit (λ O. with_objects m O) (leb (length m.objects) c.objects) 10 4 c.at _ m bs _ (lit≤ tt) (lit≤ tt) (λ q.
      k _ (stage-enter x (leb-false (length m.objects) c.objects q))))

-- a reference: its row names the row of an object that ended before it
module _ {m₀ : Memory} {c₀ : Cursor} {b : ℕ} {k : Key} {m : Memory} {c : Cursor} {s : Tables} (x : Stage false m₀ c₀ (opening b k) c.store m c s) where
  ended-before : (i : ℕ) → i < c.objects → spot m.rows (get_or m.objects i 0) col_end ≤ c₀.rows
  ended-before i h =
      let a = x.slot in
      let o = x.keep.objects i (omega arith) in
      let w = x.below i (omega arith) in
      let u = w.0 in
      rw (o, x.keep.rows (get_or m₀.objects i 0 * row_width + col_end) (omega arith)) w.1

  refer-val : (i : ℕ) (t : Tree) → c₀.at < c.at → i < c.objects → Own t (land_of m c) (get_or m.objects i 0)
      → Val m₀ c₀ k tt (with_rows m (put (put (put m.rows c₀.rows 0 18) c₀.rows 8 (get_or m.objects i 0)) c₀.rows col_end c.rows)) c t s
  refer-val i t l h o =
      let g : ℕ = get_or m.objects i 0 in
      let x₁ = stage-put x 0 18 (omega arith) in
      let x₂ = stage-put x₁ 8 g (omega arith) in
      let e = ext_trans (ext-put (land_of m c) c₀.rows 0 18 (open_row x) (omega arith))
      (ext_trans (ext-put _ c₀.rows 8 g (open_row x₁) (omega arith))
      (ext-put _ c₀.rows col_end c.rows (open_row x₂) (omega arith))) in
      let d = own-head t (land_of m c) g o in
      let n = x.newer in
      let L : Land = land_of (with_rows m (put (put (put m.rows c₀.rows 0 18) c₀.rows 8 g) c₀.rows col_end c.rows)) c in
      let w : goal L c₀.rows ≡ g = rw (ends-row x₂ 0 (omega arith), ends-row x₂ 8 (omega arith)) in
      let q : at L g col_end ≤ c₀.rows = rw (e.cols g col_end (d.0, d.1) (omega arith)) (ended-before i h) in
      let v = ends-val x₂ k t refl refl l (rw (w, ends-col x₂) ((n, omega arith), before q, own-ext e t g o))
      (λ e. clash cc) in
      rw (free c.store t x.sim) at v

  pub refer-alike : {whole : List ℕ} (i : ℕ) (bs : List ℕ) → c₀.at < c.at → Left whole c.at bs
      → Agree whole (Val m₀ c₀ k) (decided (on_rows (referred c₀.rows i m.objects) m c) m bs) (std.object_at i s c.at bs)
  unfolding referred std.object_at std.finished_object
  refer-alike {whole} i bs l r =
      let y = x.sim.objects in
      let a = y.fits in
      let e = y.many in
      rw (le-ltb (length m.objects) c.objects a) (elim (dec_lt i c.objects) [
        | yes h ↦
            (let f : i < length s.objects = omega arith in
            rw (lt-leb c.objects i h, lt-ltb i (length s.objects) f) (entry h (get_or s.objects i none) (y.each i h)))
        | no h ↦
            (let f : length s.objects ≤ i = omega arith in
            rw (le-leb c.objects i (omega arith), le-ltb i (length s.objects) f) (both (lit≤ tt) (lit≤ tt)))
      ])
    where
      used : (g : ℕ) → g < c.rows → row_used m.rows c g ≡ true
      used g h = let d = x.sim.rows_in in rw (lt-ltb g c.rows h, le-leb c.rows (length m.rows / row_width) (omega arith))

      lent : (g : ℕ) → g < c.rows → col m.rows g col_end ≡ spot m.rows g col_end
      lent g h = let d = x.sim.rows_in in col-lent m.rows g col_end (omega arith)

      entry : i < c.objects → (o : Option Tree) → Entry (land_of m c) (get_or m.objects i 0) o
          → Agree whole (Val m₀ c₀ k) (decided (lift (λ R. with_rows m R)
          (cond (not (row_used m.rows c (get_or m.objects i 0))) (stop refusals.lost 0 0)
          (cond (ltb c.rows (col m.rows (get_or m.objects i 0) col_end)) (stop refusals.lost 0 0)
          (cond (eqb (col m.rows (get_or m.objects i 0) col_end) 0) (stop 5 i c.at)
          (cond (row_used m.rows c c₀.rows) (give tt
          (put (put (put m.rows c₀.rows 0 18) c₀.rows 8 (get_or m.objects i 0)) c₀.rows col_end c.rows) c) (stop refusals.lost 0 0)))))) m bs)
          (std.finished_object i o s c.at bs)
      entry h none z =
          rw (used (get_or m.objects i 0) z.0, lent (get_or m.objects i 0) z.0, z.1, le-ltb c.rows 0 (omega arith)) (both (lit≤ tt) (lit≤ tt))
      entry h (some t) z =
          let d = own-head t (land_of m c) (get_or m.objects i 0) z in
          let p = d.0 in
          let q = d.1 in
          let v : spot m.rows (get_or m.objects i 0) col_end ≡ 0 → ⊥ = λ e. omega arith in
          rw (
            used (get_or m.objects i 0) (omega arith),
            lent (get_or m.objects i 0) (omega arith),
            le-ltb c.rows (spot m.rows (get_or m.objects i 0) col_end) q,
            ne_eqb (spot m.rows (get_or m.objects i 0) col_end) 0 v,
            stage-used x,
          )
          (fine r (refer-val i t l h z))
