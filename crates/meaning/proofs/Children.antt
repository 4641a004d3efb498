-- The children of a value: each loop over them counts them in a column of its row, and they stand one behind the other, keyed as their row gives.
use mathlib.Core.Path.{◌≡◌, refl}
use mathlib.Core.List.{List}
use Prim.Native.Nat.{ℕ, zero, suc, ◌+◌, ◌*◌, ◌<◌}
use native.Mathlib.Omega.{arith}
use native.Mathlib.Numerals.{add-one}
use lib.ListN.{length, set}
use lib.Seq.{set-set}
use Rattle.rows.specs.declared.Cursor.{Cursor}
use Rattle.rows.specs.declared.Span.{Span}
use Rattle.rows.specs.declared.Key.{Key}
use Rattle.rows.specs.Memory.{Memory, no_key, put}
use Rattle.format.specs.Decide.{on_rows, looking, counted, sealed_key}
use Rattle.format.specs.Reading.{◌>>=◌, Reader, Values, decided, by, entries, pair, pairs_by, pairs, couple}
use Rattle.format.specs.RowTest.{Given, keyless, any_key, full_key}
use Rattle.format.proofs.Memories.{with_rows}
use Rattle.meaning.proofs.Ground.{Land, Done, Ext, ext_same, ext_trans, land_of}
use Rattle.meaning.proofs.Lands.{Valid, Meets, bare, named, long, Run, ends, run-ext, run_more}
use Rattle.meaning.proofs.Stages.{Ok, keep-ext, Stage, stage-put, stage-ext, stage-later, Val}
use Rattle.meaning.proofs.Posts.{Post, stops, gets, post_then, post_map, post_by, wp_counted, wp_key-end, wp_sealed}
use Rattle.meaning.proofs.Heard.{Heard, text-heard}
use Rattle.rows.specs.Memory.{col_end}

-- n children from row `start` on, read since the land was L₀
pub record Loop (L₀ : Land) (g : Given) (start : ℕ) (m₀ : Memory) (c₀ : Cursor) (cs : List ℕ) (n : ℕ) (m : Memory) (c : Cursor) : Type 0 where
  pub stage : Stage m₀ c₀ cs m c
  pub ext : Ext L₀ (land_of m c)
  pub kids : Run (land_of m c) g start c.rows n

pub loop_begin : {g : Given} {m₀ : Memory} {c₀ : Cursor} {cs : List ℕ} {m : Memory} {c : Cursor} → Stage m₀ c₀ cs m c
    → Loop (land_of m c) g c.rows m₀ c₀ cs 0 m c
loop_begin x = record { stage = x; ext = ext_same _; kids = ends }

module _ {L₀ : Land} {g : Given} {start : ℕ} {m₀ : Memory} {c₀ : Cursor} {cs : List ℕ} {n : ℕ} {m : Memory} {c : Cursor}
    (x : Loop L₀ g start m₀ c₀ cs n m c) where
  -- a child more
  loop_value : {m' : Memory} {c' : Cursor} → Val g m c m' c' → Loop L₀ g start m₀ c₀ cs (suc n) m' c'
  loop_value {m'} {c'} v =
      let e = keep-ext x.stage.ok.store_in v.keep in
      let l = v.newer in
      let d : Done (land_of m' c') c.rows = rw v.fin (l, omega arith) in
      record {
        stage = stage-later x.stage v.keep v.ok v.each;
        ext = ext_trans x.ext e;
        kids = rw v.fin at (run_more (run-ext e x.kids) d v.marked);
      }

  -- a column of the row
  loop_put : (j v : ℕ) → 0 < j → j < col_end → Loop L₀ g start m₀ c₀ (set cs j v) n (with_rows m (put m.rows c₀.rows j v)) c
  loop_put j v a b =
      let e = stage-ext x.stage j v (omega arith) in
      record { stage = stage-put x.stage j v a b; ext = ext_trans x.ext e; kids = run-ext e x.kids }

  -- a text
  loop_heard : {s : Span} {m' : Memory} {c' : Cursor} → Heard m₀ c₀ cs m c s m' c' → Loop L₀ g start m₀ c₀ cs n m' c'
  loop_heard h = record { stage = h.stage; ext = ext_trans x.ext h.ext; kids = rw (← h.rows) at (run-ext h.ext x.kids) }

-- entries, each of which keeps what holds after so many of them
pub entries_post : (I : ℕ → Memory → Cursor → Type 0) (one : ℕ → Reader Unit) (row col : ℕ)
    → ((done : ℕ) (m : Memory) (c : Cursor) (bs : List ℕ) → I done m c
    → Post (λ x m c. (bs : List ℕ) → Post (λ x. I (suc done)) (decided (on_rows (counted row col done) m c) m bs)) (one done m c bs))
    → (n done : ℕ) (m : Memory) (c : Cursor) (bs : List ℕ) → I done m c → Post (λ x m c. (n : ℕ) × I n m c) (entries one row col n done m c bs)
unfolding entries
entries_post I one row col step zero done m c bs i = gets (done, i)
entries_post I one row col step (suc n) done m c bs i =
    post_then _ _ (post_then _ _ (post_map _ (step done m c bs i) (λ x m c h bs. post_map _ (h bs)
    (λ x m c i bs. entries_post I one row col step n (suc done) m c bs i))))

-- what reads one value
abbrev pub Reads : Values → Type 0
Reads value = (g : Given) (k : Key) (m : Memory) (c : Cursor) (bs : List ℕ) → Ok m c → Meets (land_of m c) g k → Post (λ x. Val g m c) (value k m c bs)

module _ (value : Values) (reads : Reads value) (m₀ : Memory) (c₀ : Cursor) (cs : List ℕ) (L₀ : Land) (start j : ℕ) (low : 0 < j) (high : j < col_end) where
  -- after so many entries, of w children each
  abbrev pub Counted : Given → ℕ → ℕ → Memory → Cursor → Type 0
  Counted g w done = Loop L₀ g start m₀ c₀ (set cs j done) (w * done)

  count_post : {g : Given} (w done : ℕ) (m : Memory) (c : Cursor) (bs : List ℕ) → Loop L₀ g start m₀ c₀ (set cs j done) (w * suc done) m c
      → Post (λ x. Counted g w (suc done)) (decided (on_rows (counted c₀.rows j done) m c) m bs)
  count_post w done m c bs x =
      let e : set (set cs j done) j (done + 1) ≡ set cs j (suc done) = rw (set-set, add-one) in
      post_by _ m bs _ (wp_counted c₀.rows m.rows c j done (rw e at (loop_put x j (done + 1) low high)))

  child : {g : Given} {k : Key} {n : ℕ} (ds : List ℕ) (m : Memory) (c : Cursor) (bs : List ℕ) → Meets (land_of m c) g k → Loop L₀ g start m₀ c₀ ds n m c
      → Post (λ x. Loop L₀ g start m₀ c₀ ds (suc n)) (value k m c bs)
  child {g} {k} ds m c bs h x = post_map _ (reads g k m c bs x.stage.ok h) (λ u m c v. loop_value x v)

  pub items_post : (n : ℕ) (m : Memory) (c : Cursor) (bs : List ℕ) → Counted keyless 1 0 m c
      → Post (λ x m c. (n : ℕ) × Counted keyless 1 n m c) (entries (λ done. value no_key) c₀.rows j n 0 m c bs)
  items_post n m c bs i = entries_post (Counted keyless 1) _ c₀.rows j (λ done m c bs i.
      let e : suc (1 * done) ≡ 1 * suc done = omega arith in
      post_map _ (child _ m c bs bare i) (λ x m c i bs. count_post 1 done m c bs (rw e at i))) n 0 m c bs i

  -- pairs of a dictionary: two children each
  pub doubles_post : (n : ℕ) (m : Memory) (c : Cursor) (bs : List ℕ) → Counted keyless 2 0 m c
      → Post (λ x m c. (n : ℕ) × Counted keyless 2 n m c) (entries (couple value c₀.rows) c₀.rows j n 0 m c bs)
  unfolding couple
  doubles_post n m c bs i = entries_post (Counted keyless 2) _ c₀.rows j (λ done m c bs i.
      let e : suc (suc (2 * done)) ≡ 2 * suc done = omega arith in
      post_then _ _ (post_then _ _ (post_map _ (child _ m c bs bare i) (λ x m c i bs.
      post_by _ m bs _ (wp_key-end c₀.rows done m.rows c (λ bs.
      post_map _ (child _ m c bs bare i) (λ x m c i bs. count_post 2 done m c bs (rw e at i)))))))) n 0 m c bs i

  pub sealed_post : (first n : ℕ) (m : Memory) (c : Cursor) (bs : List ℕ) → Counted any_key 1 0 m c
      → Post (λ x m c. (n : ℕ) × Counted any_key 1 n m c) (entries (λ done. by (looking (λ m. sealed_key (first + done) m.names)) >>= value) c₀.rows j
      n 0 m c bs)
  sealed_post first n m c bs i = entries_post (Counted any_key 1) _ c₀.rows j (λ done m c bs i.
      let e : suc (1 * done) ≡ 1 * suc done = omega arith in
      post_then _ _ (post_by _ m bs _ (wp_sealed c (first + done) m.names (λ l bs.
      post_map _ (child _ m c bs (named (i.stage.ok.names (first + done) l)) i) (λ x m c i bs. count_post 1 done m c bs (rw e at i)))))) n 0 m c bs i

  pair_post : (done : ℕ) (more : Reader Unit) (s : Span) (z : ℕ) (m : Memory) (c : Cursor) (bs : List ℕ) → s.size ≡ z → Valid (land_of m c) s
      → Counted full_key 1 done m c
      → ((m : Memory) (c : Cursor) (bs : List ℕ) → Counted full_key 1 (suc done) m c → Post (λ x m c. (n : ℕ) × Counted full_key 1 n m c) (more m c bs))
      → Post (λ x m c. (n : ℕ) × Counted full_key 1 n m c) (pair value c₀.rows j done more s z m c bs)
  unfolding pair
  pair_post done more s zero m c bs q v i h = gets (done, i)
  pair_post done more s (suc z) m c bs q v i h =
      let e : suc (1 * done) ≡ 1 * suc done = omega arith in
      post_then _ _ (post_then _ _ (post_map _ (child _ m c bs (long v (omega arith)) i) (λ x m c i bs.
      post_map _ (count_post 1 done m c bs (rw e at i)) (λ x m c i bs. h m c bs i))))

  -- pairs with any fuel, and with the one that they are read with
  pairs-by : (most done : ℕ) (m : Memory) (c : Cursor) (bs : List ℕ) → Counted full_key 1 done m c
      → Post (λ x m c. (n : ℕ) × Counted full_key 1 n m c) (pairs_by value c₀.rows j most done m c bs)
  unfolding pairs_by
  pairs-by zero done m c bs i = stops
  pairs-by (suc most) done m c bs i =
      post_then _ _ (post_map _ (text-heard i.stage bs) (λ s m c h bs.
      pair_post done _ s s.size m c bs refl h.valid (loop_heard i h) (pairs-by most (suc done))))

  pub pairs_post : (m : Memory) (c : Cursor) (bs : List ℕ) → Counted full_key 1 0 m c
      → Post (λ x m c. (n : ℕ) × Counted full_key 1 n m c) (pairs value c₀.rows j 0 m c bs)
  unfolding pairs
  pairs_post m c bs i = pairs-by (suc (length bs)) 0 m c bs i
