-- The values that a value holds, read alike one after the other: items, sealed members, entries of a dictionary, and pairs.
use mathlib.Core.Path.{◌≡◌, refl, ◌∙◌}
use mathlib.Core.Bool.{Bool, true}
use mathlib.Core.List.{List, [], ◌∷◌}
use Prim.Native.Nat.{ℕ, zero, suc, ◌+◌, ◌*◌, ◌/◌, ◌<◌, ◌≤◌}
use native.Mathlib.Omega.{arith}
use native.Mathlib.Numerals.{add-one}
use borrow.Author.Tests.{lt-ltb, le-ltb, le-leb, lt-leb}
use lib.ListN.{length, set}
use lib.Seq.{set-set}
use Rattle.rows.specs.declared.Cursor.{Cursor}
use Rattle.rows.specs.declared.Span.{Span}
use Rattle.rows.specs.declared.Key.{Key}
use Rattle.rows.specs.Memory.{Memory, no_key, key_of, span_at, col_key_begin, col_key_size, col_end, row_used}
use Rattle.wire.proofs.Octets.{Bytes}
use Rattle.format.specs.Decide.{on_rows, looking, counted, key_end, sealed_key}
use Rattle.format.specs.Reading.{ResultOf, bind, ◌>>=◌, ret, Reader, Values, decided, by, plain}
use Rattle.format.specs.Reading as our
use Rattle.format.specs.Standard as std
use Rattle.format.specs.Standard.{Tables, Std, Tree, nil, cons, Pairs, no_pairs, pair, no_entries, entry, count, count_pairs, count_entries}
use Rattle.format.proofs.Lists.{Kept}
use Rattle.format.proofs.Memories.{with_rows}
use Rattle.meaning.proofs.Ground.{Land, at, Ext, ext_same, ext_trans, ext-put, ext-kept, land_of, land_to}
use Rattle.format.proofs.Alike.{Left, left-enough, Agree, fine, then, made, weaken, flat}
use Rattle.meaning.proofs.Rep.{Text, RepT, RepP, RepE, Rep, text-ext, rep-ext}
use Rattle.meaning.proofs.Tables.{Names, names-ext, Sim}
use Rattle.meaning.proofs.Stage.{Keep, Val, Stage, open_row, stage-put, stage-keep}
use Rattle.meaning.proofs.Texts.{text-then, text-size}
use Rattle.meaning.proofs.Naming.{lasting, held, nothing}
use Rattle.rows.specs.Memory.{row_width}

-- ---- what is finished stays

pub keep-ext : {m : Memory} {c : Cursor} {s : Tables} {m' : Memory} {c' : Cursor} {s' : Tables} → Sim c.store m c s → Sim c'.store m' c' s'
    → Keep c.store m c m' c' → Ext (land_of m c) (land_of m' c')
keep-ext {m} {c} {s} {m'} {c'} x y k =
    let a = k.store_up in
    let f = y.store_in in
    ext-kept k.rows_up k.rows a k.store x.store_in (omega arith)

-- a value that stands in row k, and ends at row n, later
later : {L L' : Land} (t : Tree) (k n : ℕ) → Ext L L' → Rep t L k → at L k col_end ≡ n → Rep t L' k × (at L' k col_end ≡ n)
later t k n x h e = (rep-ext x t k h, x.cols k col_end h.0 (omega arith) ∙ e)

-- ---- counting

-- the row of a value in work is used
pub stage-used : {o : Bool} {m₀ : Memory} {c₀ : Cursor} {cs : List ℕ} {u : ℕ} {m : Memory} {c : Cursor} {s : Tables} → Stage o m₀ c₀ cs u m c s
    → row_used m.rows c c₀.rows ≡ true
stage-used {c₀ = c₀} {m = m} {c = c} x = let a = x.sim.rows_in in
    rw (lt-ltb c₀.rows c.rows x.newer, le-leb c.rows (length m.rows / row_width) (omega arith))

-- where no entry is done there are more rows than that: its own
pub begun : {o : Bool} {m₀ : Memory} {c₀ : Cursor} {cs : List ℕ} {u : ℕ} {m : Memory} {c : Cursor} {s : Tables} → Stage o m₀ c₀ cs u m c s → 0 < c.rows
begun x = let a = x.newer in omega arith

module _ {whole : List ℕ} {A B : Type 0} {Q : A → Memory → Cursor → B → Tables → Type 0} {o : Bool} {m₀ : Memory} {c₀ : Cursor} (cs : List ℕ) where
  pub count-then : (j done u : ℕ) (m : Memory) (c : Cursor) (s : Tables) (bs : List ℕ) (f : Unit → Reader A) {y : ResultOf Tables ℕ B}
      → Stage o m₀ c₀ (set cs j done) u m c s → j < col_end → done < c.rows
      → ((R : List ℕ) → Stage o m₀ c₀ (set cs j (suc done)) u (with_rows m R) c s → Ext (land_to u m c) (land_to u (with_rows m R) c)
      → Agree whole Q (f tt (with_rows m R) c bs) y) → Agree whole Q (bind (decided (on_rows (counted c₀.rows j done) m c) m bs) f) y
  unfolding counted
  count-then j done u m c s bs f x h l k =
      let e : set (set cs j done) j (done + 1) ≡ set cs j (suc done) = rw (set-set, add-one) in
      let x₁ = stage-put x j (done + 1) h in
      rw (lt-leb c.rows done l, stage-used x) (k _ (rw e at x₁) (ext-put (land_to u m c) c₀.rows j (done + 1) (open_row x) (omega arith)))

-- ---- what a loop leaves

pub record Loop (m₀ : Memory) (c₀ : Cursor) (cs : List ℕ) (P : Land → ℕ → ℕ → Type 0) (m : Memory) (c : Cursor) (m' : Memory) (c' : Cursor)
    (s' : Tables) : Type 0 where
  pub stage : Stage true m₀ c₀ cs c'.store m' c' s'
  pub ext : Ext (land_of m c) (land_of m' c')
  pub kids : P (land_of m' c') c.rows c'.rows
  pub up : c.at ≤ c'.at

-- a pair: its key's text is where its row says
pair-kids : (m : Memory) (c : Cursor) (sp : Span) (xs : List ℕ) → Text m.store c.store sp.begin sp.size xs
    → (t : Tree) (ps : Pairs) (L : Land) (n e : ℕ) → Ext (land_of m c) L → Rep t L c.rows → at L c.rows col_end ≡ n
    → at L c.rows col_key_begin ≡ sp.begin → at L c.rows col_key_size ≡ sp.size → RepP ps L n e → RepP (pair xs t ps) L c.rows e
pair-kids m c sp xs w t ps L n e y r f k₂ k₃ q = (r, rw (k₂, k₃) (text-ext y sp.begin sp.size xs w), rw f q)

module _ (whole : List ℕ) (octets : Bytes whole) (value : Values) (tree : Std Tree) (low : ℕ)
    (ih : (k : Key) (m : Memory) (c : Cursor) (s : Tables) (bs : List ℕ) → Sim c.store m c s → Left whole c.at bs → low ≤ c.at
    → Agree whole (Val m c k) (value k m c bs) (tree s c.at bs)) (m₀ : Memory) (c₀ : Cursor) where
  -- one value with its key, counted, and the others after it
  one_value : {B : Type 0} (P : B → Land → ℕ → ℕ → Type 0) (size : B → ℕ) (make : Tree → B → B)
      → ((t : Tree) (b : B) → size (make t b) ≡ suc (size b))
      → (k : Key) (cs : List ℕ) (j done : ℕ) (m : Memory) (c : Cursor) (s : Tables) (bs : List ℕ) (more : Reader Unit) (others : Std B)
      → ((t : Tree) (b : B) (L : Land) (n e : ℕ) → Ext (land_of m c) L → Rep t L c.rows → at L c.rows col_end ≡ n
      → at L c.rows col_key_begin ≡ k.begin → at L c.rows col_key_size ≡ k.size → P b L n e → P (make t b) L c.rows e)
      → Stage true m₀ c₀ (set cs j done) c.store m c s → j < col_end → done < c.rows → low ≤ c.at → Left whole c.at bs
      → ((m₁ : Memory) (c₁ : Cursor) (s₁ : Tables) (bs : List ℕ) → Stage true m₀ c₀ (set cs j (suc done)) c₁.store m₁ c₁ s₁
      → Ext (land_of m c) (land_of m₁ c₁) → c.names ≤ c₁.names → Kept (c.names * 2) m.names m₁.names → c.rows < c₁.rows → c.at < c₁.at
      → Left whole c₁.at bs → Agree whole (λ x m' c' b s'. Loop m₀ c₀ (set cs j (suc done + size b)) (P b) m₁ c₁ m' c' s') (more m₁ c₁ bs)
      (others s₁ c₁.at bs)) → Agree whole (λ x m' c' b s'. Loop m₀ c₀ (set cs j (done + size b)) (P b) m c m' c' s')
      (bind (bind (value k m c bs) (λ x. by (on_rows (counted c₀.rows j done)))) (λ x. more))
      (bind (tree s c.at bs) (λ t s p bs. bind (others s p bs) (λ b. ret (make t b))))
  one_value P size make grows k cs j done m c s bs more others kids x h a b l after =
      rw flat (then _ _ (ih k m c s bs x.sim l b) (λ v m₁ c₁ t s₁ bs l g.
      let d = g.more in
      let i : c.rows < c₁.rows = omega (arith, g.rep.0) in
      let e₁ = keep-ext x.sim g.sim g.keep in
      count-then cs j done c₁.store m₁ c₁ s₁ bs _ (stage-keep x c₁.store g.keep.store_up g.keep g.sim) h (omega arith) (λ R x₂ e₂.
      made (make t) (after (with_rows m₁ R) c₁ s₁ bs x₂ (ext_trans e₁ e₂) g.keep.names_up g.keep.names i d l) (λ v m₂ c₂ b s₂ r.
      let u = r.up in
      let w = grows t b in
      let e : suc done + size b ≡ done + size (make t b) = omega arith in
      let e₃ = ext_trans e₂ r.ext in
      let z = later t c.rows c₁.rows e₃ g.rep g.fin in
      let k₂ = e₃.cols c.rows col_key_begin g.rep.0 (omega arith) ∙ g.key_begin in
      let k₃ = e₃.cols c.rows col_key_size g.rep.0 (omega arith) ∙ g.key_size in
      record {
        stage = rw e at r.stage;
        ext = ext_trans e₁ e₃;
        kids = kids t b (land_of m₂ c₂) c₁.rows c₂.rows (ext_trans e₁ e₃) z.0 z.1 k₂ k₃ r.kids;
        up = omega arith;
      }))))

  -- items
  pub trees-alike : (n : ℕ) (cs : List ℕ) (j done : ℕ) (m : Memory) (c : Cursor) (s : Tables) (bs : List ℕ)
      → Stage true m₀ c₀ (set cs j done) c.store m c s → j < col_end → done < c.rows → low ≤ c.at → Left whole c.at bs
      → Agree whole (λ x m' c' ts s'. Loop m₀ c₀ (set cs j (done + count ts)) (RepT ts) m c m' c' s')
      (our.entries (λ done. value no_key) c₀.rows j n done m c bs) (std.trees tree n s c.at bs)
  unfolding our.entries std.trees count
  trees-alike zero cs j done m c s bs x h a b l =
      let e : done ≡ done + 0 = omega arith in
      fine {b = nil} l (record { stage = rw e at x; ext = ext_same _; kids = refl; up = omega arith })
  trees-alike (suc n) cs j done m c s bs x h a b l =
      one_value RepT count cons (λ t ts. refl) no_key cs j done m c s bs _ _ (λ t ts L n e y r f k₂ k₃ q. (r, rw f q)) x h a b l
      (λ m₁ c₁ s₁ bs x₁ y u w o d l. trees-alike n cs j (suc done) m₁ c₁ s₁ bs x₁ h (omega arith) (omega arith) l)

  -- entries of a dictionary: two values each
  pub entries-alike : (n : ℕ) (cs : List ℕ) (j done : ℕ) (m : Memory) (c : Cursor) (s : Tables) (bs : List ℕ)
      → Stage true m₀ c₀ (set cs j done) c.store m c s → j < col_end → done < c.rows → low ≤ c.at → Left whole c.at bs
      → Agree whole (λ x m' c' es s'. Loop m₀ c₀ (set cs j (done + count_entries es)) (RepE es) m c m' c' s')
      (our.entries (our.couple value c₀.rows) c₀.rows j n done m c bs) (std.entries tree n s c.at bs)
  unfolding our.entries our.couple std.entries count_entries key_end
  entries-alike zero cs j done m c s bs x h a b l =
      let e : done ≡ done + 0 = omega arith in
      fine {b = no_entries} l (record { stage = rw e at x; ext = ext_same _; kids = refl; up = omega arith })
  entries-alike (suc n) cs j done m c s bs x h a b l = rw (flat, flat, flat) (then _ _ (ih no_key m c s bs x.sim l b) (λ v m₁ c₁ t s₁ bs l g.
      let d = g.more in
      let i = g.keep.rows_up in
      let x₁ = stage-keep x c₁.store g.keep.store_up g.keep g.sim in
      rw (lt-leb c₁.rows done (omega arith), stage-used x₁) (then _ _ (ih no_key m₁ c₁ s₁ bs g.sim l (omega arith)) (λ v m₂ c₂ t₂ s₂ bs l g₂.
      let d₂ = g₂.more in
      let i₂ = g₂.rep.0 in
      count-then cs j done c₂.store m₂ c₂ s₂ bs _ (stage-keep x₁ c₂.store g₂.keep.store_up g₂.keep g₂.sim) h (omega arith) (λ R x₃ e₃.
      made (entry t t₂) (entries-alike n cs j (suc done) (with_rows m₂ R) c₂ s₂ bs x₃ h (omega arith) (omega arith) l) (λ v m₄ c₄ es s₄ r.
      let u = r.up in
      let e : suc done + count_entries es ≡ done + suc (count_entries es) = omega arith in
      let e₁ = keep-ext x.sim g.sim g.keep in
      let e₂ = keep-ext g.sim g₂.sim g₂.keep in
      let e₄ = ext_trans e₃ r.ext in
      let z = later t c.rows c₁.rows (ext_trans e₂ e₄) g.rep g.fin in
      let z₂ = later t₂ c₁.rows c₂.rows e₄ g₂.rep g₂.fin in
      record {
        stage = rw e at r.stage;
        ext = ext_trans e₁ (ext_trans e₂ e₄);
        kids = (z.0, rw z.1 z₂.0, rw (z.1, z₂.1) r.kids);
        up = omega arith;
      }))))))

  -- sealed members: each has its name for a key
  pub sealed-alike : (xs : List (List ℕ)) (first : ℕ) (cs : List ℕ) (j done : ℕ) (m : Memory) (c : Cursor) (s : Tables) (bs : List ℕ)
      → Stage true m₀ c₀ (set cs j done) c.store m c s → j < col_end → done < c.rows → low ≤ c.at → Left whole c.at bs
      → Names m.store c.store m.names (first + done) xs → first + done + length xs ≤ c.names
      → Agree whole (λ x m' c' ps s'. Loop m₀ c₀ (set cs j (done + count_pairs ps)) (RepP ps) m c m' c' s')
      (our.entries (λ done. by (looking (λ m. sealed_key (first + done) m.names)) >>= value) c₀.rows j (length xs) done m c bs)
      (std.sealed tree xs s c.at bs)
  unfolding our.entries std.sealed count_pairs sealed_key
  sealed-alike [] first cs j done m c s bs x h a b l w q =
      let e : done ≡ done + 0 = omega arith in
      fine {b = no_pairs} l (record { stage = rw e at x; ext = ext_same _; kids = refl; up = omega arith })
  sealed-alike (y ∷ ys) first cs j done m c s bs x h a b l w q =
      let i = x.sim.names_in in
      let sp : Span = span_at m.names (first + done) in
      let p : first + suc done ≡ suc (first + done) = omega arith in
      rw (
        le-ltb (length m.names / 2) c.names (omega arith),
        lt-leb c.names (first + done) (omega arith),
        le-leb (sp.begin + sp.size)
            c.store w.0.1,
      )
      (one_value RepP count_pairs (pair y) (λ t ps. refl) (key_of sp) cs j done m c s bs _ _ (pair-kids m c sp y w.0) x h a b l
      (λ m₁ c₁ s₁ bs x₁ f u v o d l.
      sealed-alike ys first cs j (suc done) m₁ c₁ s₁ bs x₁ h (omega arith) (omega arith) l
      (rw p (names-ext (land_of m c) (land_of m₁ c₁) f m.names m₁.names c.names v ys (suc (first + done))
      (omega arith) w.1))
      (omega arith)))

  -- a pair whose key is read, the others after it
  one-pair : (cs : List ℕ) (j done : ℕ) (m : Memory) (c : Cursor) (s : Tables) (bs : List ℕ) (more : Reader Unit) (others : Std Pairs) (sp : Span)
      (z : ℕ) (xs : List ℕ) → Stage true m₀ c₀ (set cs j done) c.store m c s → j < col_end → done < c.rows → low ≤ c.at → Left whole c.at bs
      → Text m.store c.store sp.begin sp.size xs → length xs ≡ z
      → ((m₁ : Memory) (c₁ : Cursor) (s₁ : Tables) (bs : List ℕ) → Stage true m₀ c₀ (set cs j (suc done)) c₁.store m₁ c₁ s₁ → c.rows < c₁.rows → c.at < c₁.at
      → Left whole c₁.at bs → Agree whole (λ x m' c' ps s'. Loop m₀ c₀ (set cs j (suc done + count_pairs ps)) (RepP ps) m₁ c₁ m' c' s')
      (more m₁ c₁ bs) (others s₁ c₁.at bs)) → Agree whole (λ x m' c' ps s'. Loop m₀ c₀ (set cs j (done + count_pairs ps)) (RepP ps) m c m' c' s')
      (our.pair value c₀.rows j done more sp z m c bs) (std.pairs_from tree others xs s c.at bs)
  unfolding our.pair std.pairs_from count_pairs
  one-pair cs j done m c s bs more others sp zero [] x h a b l w q k =
      let e : done ≡ done + 0 = omega arith in
      fine {b = no_pairs} l (record { stage = rw e at x; ext = ext_same _; kids = refl; up = omega arith })
  one-pair cs j done m c s bs more others sp zero (y ∷ ys) x h a b l w q k = absurd (omega arith)
  one-pair cs j done m c s bs more others sp (suc z) [] x h a b l w q k = absurd (omega arith)
  one-pair cs j done m c s bs more others sp (suc z) (y ∷ ys) x h a b l w q k =
      one_value RepP count_pairs (pair (y ∷ ys)) (λ t ps. refl) (key_of sp) cs j done m c s bs more others (pair-kids m c sp (y ∷ ys) w) x h a b l
      (λ m₁ c₁ s₁ bs x₁ f u v o d l. k m₁ c₁ s₁ bs x₁ o d l)

  -- pairs up to an empty key; both fuels are more than the bytes left
  pairs-by : (most f : ℕ) (cs : List ℕ) (j done : ℕ) (m : Memory) (c : Cursor) (s : Tables) (bs : List ℕ)
      → Stage true m₀ c₀ (set cs j done) c.store m c s → j < col_end → done < c.rows → low ≤ c.at → length whole < most + c.at
      → length whole < f + c.at → Left whole c.at bs
      → Agree whole (λ x m' c' ps s'. Loop m₀ c₀ (set cs j (done + count_pairs ps)) (RepP ps) m c m' c' s')
      (our.pairs_by value c₀.rows j most done m c bs) (std.pairs tree f s c.at bs)
  unfolding our.pairs_by std.pairs
  pairs-by zero f cs j done m c s bs x h a b e w l = let i = l.within in absurd (omega arith)
  pairs-by (suc most) zero cs j done m c s bs x h a b e w l = let i = l.within in absurd (omega arith)
  pairs-by (suc most) (suc f) cs j done m c s bs x h a b e w l =
      text-then whole octets (lasting true m₀ c₀ (set cs j done) m c) plain (nothing _ whole octets _) m c s bs _ _ (held x) l (λ sp m₁ c₁ xs s₁ bs l y t d.
      let i = y.stage.sim in
      let q = y.since in
      let r = q.rows_same in
      weaken (one-pair cs j done m₁ c₁ s₁ bs _ _ sp sp.size xs y.stage h (omega arith) (omega arith) l t
      (text-size m₁.store c₁.store sp.begin sp.size xs t i.store_in)
      (λ m₂ c₂ s₂ bs x₂ o d₂ l₂. pairs-by most f cs j (suc done) m₂ c₂ s₂ bs x₂ h (omega arith) (omega arith) (omega arith) (omega arith) l₂))
      (λ v m₂ c₂ ps s₂ r.
      let u = r.up in
      record {
        stage = r.stage;
        ext = ext_trans (keep-ext x.sim i q.keep) r.ext;
        kids = rw q.rows_same at r.kids;
        up = omega arith;
      }))

  -- with the fuel that ours is read with
  pub pairs-alike : (f : ℕ) (cs : List ℕ) (j : ℕ) (m : Memory) (c : Cursor) (s : Tables) (bs : List ℕ)
      → Stage true m₀ c₀ (set cs j 0) c.store m c s → j < col_end → low ≤ c.at → length whole < f + c.at → Left whole c.at bs
      → Agree whole (λ x m' c' ps s'. Loop m₀ c₀ (set cs j (0 + count_pairs ps)) (RepP ps) m c m' c' s')
      (our.pairs value c₀.rows j 0 m c bs) (std.pairs tree f s c.at bs)
  unfolding our.pairs
  pairs-alike f cs j m c s bs x h b w l = pairs-by (suc (length bs)) f cs j 0 m c s bs x h (begun x) b (left-enough l) w l

  pub dynamics-alike : (y f : ℕ) (cs : List ℕ) (m : Memory) (c : Cursor) (s : Tables) (bs : List ℕ) → Stage true m₀ c₀ (set cs 10 0) c.store m c s
      → low ≤ c.at → length whole < f → Left whole c.at bs
      → Agree whole (λ x m' c' ps s'. Loop m₀ c₀ (set cs 10 (count_pairs ps)) (RepP ps) m c m' c' s') (our.dynamics value c₀.rows y m c bs)
      (std.dynamics tree f y s c.at bs)
  unfolding our.dynamics std.dynamics count_pairs
  dynamics-alike zero f cs m c s bs x b w l = fine {b = no_pairs} l (record { stage = x; ext = ext_same _; kids = refl; up = omega arith })
  dynamics-alike (suc y) f cs m c s bs x b w l =
      weaken (pairs-alike f cs 10 m c s bs x (omega arith) b (omega arith) l) (λ v m' c' ps s' r.
      let e : 0 + count_pairs ps ≡ count_pairs ps = omega arith in
      record { stage = rw e at r.stage; ext = r.ext; kids = r.kids; up = r.up })
