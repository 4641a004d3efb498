-- Traits, old and new, and the names of a new one: read alike while a value is in work.
use mathlib.Core.Path.{◌≡◌, refl, ap, ◌∙◌}
use mathlib.Core.Bool.{Bool, true}
use mathlib.Core.List.{List, [], ◌∷◌}
use Prim.Native.Nat.{ℕ, zero, suc, ◌+◌, ◌*◌, ◌/◌, ◌<◌, ◌≤◌}
use native.Mathlib.Omega.{arith}
use native.Mathlib.Decide.{dec_lt}
use borrow.Author.Tests.{lt-ltb, le-ltb, le-leb, lt-leb, leb-false}
use lib.Dec.{leb, lit≤}
use lib.ListN.{length, get_or}
use lib.Seq.{sets}
use Rattle.rows.specs.declared.Cursor.{Cursor}
use Rattle.rows.specs.declared.Span.{Span}
use Rattle.rows.specs.declared.Trait.{Trait}
use Rattle.rows.specs.Memory.{Memory}
use Rattle.wire.proofs.Octets.{Bytes}
use Rattle.format.specs.Decide.{names_to, traits_to, on_traits, looking, named, trait_holds, old_trait, trait_end}
use Rattle.format.specs.Reading.{ResultOf, bind, Reader, decided, plain}
use Rattle.format.specs.Reading as our
use Rattle.format.specs.Standard as std
use Rattle.format.specs.Standard.{Tables, Traits, Std}
use Rattle.format.proofs.Lists.{kept_sets, sets-at, part-kept}
use Rattle.format.proofs.Memories.{with_names, with_traits}
use Rattle.format.proofs.Alike.{Left, Agree, fine, both, made}
use Rattle.meaning.proofs.Rep.{Text}
use Rattle.meaning.proofs.Tables.{Names, TraitRep, no_traits, Sim}
use Rattle.meaning.proofs.Changes.{add_traits, sim-name, sim_trait}
use Rattle.meaning.proofs.Stage.{Keep, keep_trans, Quiet, quiet_of, quiet_same, quiet_trans, Stage, stage-quiet, stage-keep}
use Rattle.meaning.proofs.Texts.{limit, Lasting, Reserving, text-then}

-- ---- a text while a value is in work

-- still the stage; since m and c there came texts alone
pub record Held (o : Bool) (m₀ : Memory) (c₀ : Cursor) (cs : List ℕ) (m : Memory) (c : Cursor) (u : ℕ) (m' : Memory) (c' : Cursor)
    (s' : Tables) : Type 0 where
  pub stage : Stage o m₀ c₀ cs u m' c' s'
  pub since : Quiet c.store m c m' c'
  pub over : c.store ≤ u

pub lasting : (o : Bool) (m₀ : Memory) (c₀ : Cursor) (cs : List ℕ) (m : Memory) (c : Cursor) → Lasting (Held o m₀ c₀ cs m c)
lasting o m₀ c₀ cs m c =
    record {
      sim = λ h. h.stage.sim;
      quiet = λ v h l q y. (let a = h.over in record { stage = stage-quiet h.stage v l q y; since = quiet_trans a h.since q; over = omega arith });
    }

pub held : {o : Bool} {m₀ : Memory} {c₀ : Cursor} {cs : List ℕ} {m : Memory} {c : Cursor} {s : Tables} → Stage o m₀ c₀ cs c.store m c s
    → Held o m₀ c₀ cs m c c.store m c s
held {m = m} {c = c} x = record { stage = x; since = quiet_same c.store m c; over = omega arith }

pub nothing : (J : ℕ → Memory → Cursor → Tables → Type 0) (whole : List ℕ) (octets : Bytes whole) (l : Lasting J) → Reserving whole octets l plain
nothing J whole octets l = record { done = λ {u} {m} {c} {s} sp bs j. (m, refl, j) }

-- what was settled stays
pub keep-text : {m : Memory} {c : Cursor} {m' : Memory} {c' : Cursor} {s' : Tables} → c.store ≤ length m.store → Sim c'.store m' c' s'
    → Keep c.store m c m' c' → (b z : ℕ) (xs : List ℕ) → Text m.store c.store b z xs → Text m'.store c'.store b z xs
keep-text {m} {c} {m'} {c'} h y k b z xs t =
    let a = k.store_up in
    let d = y.store_in in
    let e = t.1 in
    (part-kept c.store m.store m'.store b z k.store h (omega arith) e ∙ t.0, omega arith)

-- ---- names

pub record GotNames (m₀ : Memory) (c₀ : Cursor) (cs : List ℕ) (m : Memory) (c : Cursor) (n : ℕ) (x : Unit {0}) (m' : Memory) (c' : Cursor)
    (xs : List (List ℕ)) (s' : Tables) : Type 0 where
  pub stage : Stage true m₀ c₀ cs c'.store m' c' s'
  pub keep : Keep c.store m c m' c'
  pub rows_same : c'.rows ≡ c.rows
  pub names_up : c'.names ≡ c.names + n
  pub names : Names m'.store c'.store m'.names c.names xs
  pub many : length xs ≡ n

abbrev pub with_name : Memory → Cursor → Span → Memory
with_name m c sp = with_names m (sets m.names (c.names * 2) (sp.begin ∷ sp.size ∷ []))

keep-name : (m : Memory) (c : Cursor) (sp : Span) → Keep c.store m c (with_name m c sp) (names_to c (c.names + 1))
keep-name m c sp =
    record {
      rows_up = omega arith;
      rows = λ i l. refl;
      store_up = omega arith;
      store = λ i l. refl;
      names_up = omega arith;
      names = kept_sets (c.names * 2) (c.names * 2) (sp.begin ∷ sp.size ∷ []) m.names (omega arith);
      objects_up = omega arith;
      objects = λ i l. refl;
      at_up = omega arith;
    }

-- a name is entered, and others after it
one_name : {m₀ : Memory} {c₀ : Cursor} {cs : List ℕ} (m : Memory) (c : Cursor) (n : ℕ) (sp : Span) (m₁ : Memory) (c₁ : Cursor) (z : List ℕ)
    (s₁ : Tables) (v : Unit {0}) (m₂ : Memory) (c₂ : Cursor) (zs : List (List ℕ)) (s₂ : Tables) → Quiet c.store m c m₁ c₁
    → c₁.store ≤ length m₁.store → c₁.names * 2 + 2 ≤ length m₁.names → Text m₁.store c₁.store sp.begin sp.size z
    → GotNames m₀ c₀ cs (with_name m₁ c₁ sp) (names_to c₁ (c₁.names + 1)) n v m₂ c₂ zs s₂ → GotNames m₀ c₀ cs m c (suc n) v m₂ c₂ (z ∷ zs) s₂
one_name m c n sp m₁ c₁ z s₁ v m₂ c₂ zs s₂ q f d t g =
    let a = q.names_same in
    let b = q.rows_same in
    let k = g.keep in
    let e = g.names_up in
    let h = g.rows_same in
    let up = q.keep.store_up in
    let at : (j : ℕ) → j < 2 → get_or m₂.names (c₁.names * 2 + j) 0 ≡ get_or (sp.begin ∷ sp.size ∷ []) j 0 =
    λ j l. k.names (c₁.names * 2 + j) (omega arith) ∙ sets-at (sp.begin ∷ sp.size ∷ []) m₁.names (c₁.names * 2) j (omega arith) d in
    let o : c₁.names * 2 + 0 ≡ c₁.names * 2 = omega arith in
    let one : c₁.names + 1 ≡ suc c₁.names = omega arith in
    record {
      stage = g.stage;
      keep = keep_trans up q.keep (keep_trans (omega arith) (keep-name m₁ c₁ sp) k);
      rows_same = h ∙ b;
      names_up = omega arith;
      names = rw (← a) (
        rw (rw o at (at 0 (omega arith)), at 1 (omega arith)) (keep-text f g.stage.sim k sp.begin sp.size z t),
        rw one at
            g.names,
      );
      many = ap suc g.many;
    }

module _ (whole : List ℕ) (octets : Bytes whole) {m₀ : Memory} {c₀ : Cursor} {cs : List ℕ} where
  pub names-alike : (n : ℕ) (m : Memory) (c : Cursor) (s : Tables) (bs : List ℕ) → Stage true m₀ c₀ cs c.store m c s → Left whole c.at bs
      → Agree whole (GotNames m₀ c₀ cs m c n) (our.names n m c bs) (std.names n s c.at bs)
  unfolding our.names std.names named
  names-alike zero m c s bs x l =
      fine {b = []} l (record { stage = x; keep = (quiet_same c.store m c).keep; rows_same = refl; names_up = omega arith; names = tt; many = refl })
  names-alike (suc n) m c s bs x l =
      text-then whole octets (lasting true m₀ c₀ cs m c) plain (nothing _ whole octets _) m c s bs _ _ (held x) l (λ sp m₁ c₁ z s₁ bs l h t a.
      let y = h.stage.sim in
      let f = y.names_in in
      rw (le-ltb (length m₁.names / 2) c₁.names (omega arith))
      (limit (λ N. with_names m₁ N) (leb (length m₁.names / 2) c₁.names) 10 6 c₁.at _ m₁ bs _ (lit≤ tt) (lit≤ tt) (λ q.
      let d = leb-false (length m₁.names / 2) c₁.names q in
      let d₁ : c₁.names * 2 + 2 ≤ length m₁.names = omega arith in
      let x₂ = stage-keep h.stage c₁.store (omega arith) (keep-name m₁ c₁ sp) (sim-name y sp.begin sp.size d₁) in
      made (λ zs. z ∷ zs) (names-alike n (with_name m₁ c₁ sp) (names_to c₁ (c₁.names + 1)) s₁ bs x₂ l)
      (λ v m₂ c₂ zs s₂ g. one_name m c n sp m₁ c₁ z s₁ v m₂ c₂ zs s₂ h.since y.store_in d₁ t g))))

  -- ---- traits

  -- a trait of the table
  pub known-then : {A B : Type 0} {Q : A → Memory → Cursor → B → Tables → Type 0} (i : ℕ) (m : Memory) (c : Cursor) (s : Tables) (bs : List ℕ)
      (f : Trait → Reader A) (g : Traits → Std B) → Stage true m₀ c₀ cs c.store m c s
      → ((t : Trait) (k : Traits) → TraitRep m.store c.store m.names c.names t k → Agree whole Q (f t m c bs) (g k s c.at bs))
      → Agree whole Q (bind (decided (looking (λ m. old_trait i m.traits) m c) m bs) f)
      (bind (std.lookup (λ s. s.traits) no_traits i s c.at bs) g)
  unfolding old_trait trait_holds
  known-then i m c s bs f g x k =
      let y = x.sim.kinds in
      let a = y.fits in
      rw (le-ltb (length m.traits / 5) c.traits (omega arith)) (elim (dec_lt i c.traits) [
        | yes h ↦
            (let t = y.each i h in
            let b : i < length s.traits = (let e = y.many in omega arith) in
            rw (
              lt-leb c.traits i h,
              le-leb _ c.store t.class.1,
              le-leb _ c.names t.within,
              lt-ltb i
                  (length s.traits) b,
            )
            (k _ _ t))
        | no h ↦
            (let b : length s.traits ≤ i = (let e = y.many in omega arith) in
            rw (le-leb c.traits i (omega arith), le-ltb i (length s.traits) b) (both (lit≤ tt) (lit≤ tt)))
      ])

  -- a trait enters the table
  pub enter_trait : {A B : Type 0} {Q : A → Memory → Cursor → B → Tables → Type 0} (t : Trait) (k : Traits) (m : Memory) (c : Cursor) (s : Tables)
      (bs : List ℕ) (f : Unit → Reader A) {y : ResultOf Tables ℕ B} → Stage true m₀ c₀ cs c.store m c s
      → TraitRep m.store c.store m.names c.names t k
      → ((U : List ℕ) → Stage true m₀ c₀ cs c.store (with_traits m U) (traits_to c (c.traits + 1)) (add_traits k s)
      → Agree whole Q (f tt (with_traits m U) (traits_to c (c.traits + 1)) bs) y) → Agree whole Q (bind (decided (on_traits (trait_end t) m c) m bs) f) y
  unfolding trait_end trait_holds
  enter_trait t k m c s bs f x r g =
      let y = x.sim in
      let a = y.kinds.fits in
      rw (
        le-ltb (length m.traits / 5) c.traits (omega arith),
        le-leb (t.begin + t.size) c.store r.class.1,
        le-leb (t.first + t.count) c.names r.within,
      )
      (limit (λ U. with_traits m U) (leb (length m.traits / 5) c.traits) 10 5 c.at _ m bs _ (lit≤ tt) (lit≤ tt) (λ q.
      let d = leb-false (length m.traits / 5) c.traits q in
      g _ (stage-quiet x c.store (omega arith)
      (quiet_of c.store m c m.store m.strings _ c.at c.store c.strings _ (omega arith) (omega arith) (λ i l. refl))
      (sim_trait y t k (omega arith) r))))
