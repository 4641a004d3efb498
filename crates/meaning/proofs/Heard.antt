-- Texts, names and traits within a value: what holds of the loans goes on to hold, and what is read is valid.
use mathlib.Core.Path.{◌≡◌, refl}
use mathlib.Core.Bool.{true}
use mathlib.Core.List.{List, [], ◌∷◌}
use Prim.Native.Nat.{ℕ, suc, ◌+◌, ◌*◌, ◌<◌, ◌≤◌}
use native.Mathlib.Omega.{arith}
use lib.ListN.{length, get_or}
use lib.Seq.{sets}
use Rattle.rows.specs.declared.Cursor.{Cursor}
use Rattle.rows.specs.declared.Span.{Span}
use Rattle.rows.specs.declared.Trait.{Trait}
use Rattle.rows.specs.Memory.{Memory, memory, cursor, span, no_span, span_at}
use Rattle.utf8.specs.Grammar.{valid_text, follow}
use Rattle.format.specs.Decide.{strings_to, traits_to, names_to, trait_at, class_of}
use Rattle.format.specs.Reading.{text, plain}
use Rattle.format.specs.Unfold.{part}
use Rattle.format.proofs.Lists.{sets_in, Kept, kept_sets, last_or}
use Rattle.format.proofs.Memories.{at_to, with_store, numbers}
use Rattle.meaning.proofs.Ground.{Ext, ext_same, land_of}
use Rattle.meaning.proofs.Lands.{ValidIn, Valid, valid-ext}
use Rattle.meaning.proofs.Stages.{Ends, still, already, Ok, Keep, keep-ext, Stage, stage-later}
use Rattle.meaning.proofs.Posts.{Post}
use Rattle.meaning.proofs.Spans.{plain-only, wp_text}

-- ---- tables of spans

module _ (B : List ℕ) (u : ℕ) (T : List ℕ) (n b z : ℕ) (room : n * 2 + 2 ≤ length T) (all : (i : ℕ) → i < n → ValidIn B u (span_at T i))
    (v : ValidIn B u (span b z)) where
  more-spans : (i : ℕ) → i < n + 1 → ValidIn B u (span_at (sets T (n * 2) (b ∷ z ∷ [])) i)
  more-spans i h = last_or n i (λ i. ValidIn B u (span_at S i)) (λ l. rw (same (i * 2) (omega arith), same (i * 2 + 1) (omega arith)) (all i l)) new h
    where
      S : List ℕ
      S = sets T (n * 2) (b ∷ z ∷ [])

      same : Kept (n * 2) T S
      same = kept_sets (n * 2) (n * 2) (b ∷ z ∷ []) T (omega arith)

      new : ValidIn B u (span_at S n)
      new =
          let p : get_or S (n * 2) 0 ≡ b = sets_in (b ∷ z ∷ []) T (n * 2) (n * 2) 0 (omega arith) (omega arith) room in
          let q : get_or S (n * 2 + 1) 0 ≡ z = sets_in (b ∷ z ∷ []) T (n * 2) (n * 2 + 1) 1 refl (omega arith) room in
          rw (p, q) v

module _ (B : List ℕ) (u : ℕ) (T : List ℕ) (n : ℕ) (t : Trait) (room : n * 5 + 5 ≤ length T) (all : (i : ℕ) → i < n → ValidIn B u (class_of (trait_at T i)))
    (v : ValidIn B u (class_of t)) where
  more-traits : (i : ℕ) → i < n + 1 → ValidIn B u (class_of (trait_at (sets T (n * 5) (numbers t)) i))
  more-traits i h = last_or n i (λ i. ValidIn B u (class_of (trait_at S i)))
      (λ l. rw (same (i * 5) (omega arith), same (i * 5 + 1) (omega arith)) (all i l)) new h
    where
      S : List ℕ
      S = sets T (n * 5) (numbers t)

      same : Kept (n * 5) T S
      same = kept_sets (n * 5) (n * 5) (numbers t) T (omega arith)

      new : ValidIn B u (class_of (trait_at S n))
      new =
          let p : get_or S (n * 5) 0 ≡ t.begin = sets_in (numbers t) T (n * 5) (n * 5) 0 (omega arith) (omega arith) room in
          let q : get_or S (n * 5 + 1) 0 ≡ t.size = sets_in (numbers t) T (n * 5) (n * 5 + 1) 1 refl (omega arith) room in
          rw (p, q) v

-- ---- what holds of the loans, with more of the store

module _ {m : Memory} {c : Cursor} (x : Ok m c) (a u : ℕ) (B : List ℕ) (kept : Kept c.store m.store B) (long : length B ≡ length m.store)
    (up : c.store ≤ u)
    (fits : u ≤ length m.store) where
  abbrev more_store : Cursor
  more_store = cursor a c.rows u c.strings c.objects c.traits c.names

  keep-store : Keep m c (with_store m B) more_store
  keep-store = record { rows_up = omega arith; rows = λ i h. refl; store_up = up; store = kept; long = long }

  ok-store : Ok (with_store m B) more_store
  ok-store =
      let e = keep-ext x.store_in keep-store in
      record {
        rows_in = x.rows_in;
        store_in = omega arith;
        strings = λ i h. valid-ext e (x.strings i h);
        names = λ i h. valid-ext e (x.names i h);
        traits = λ i h. valid-ext e (x.traits i h);
        objects = λ i h. (let y = x.objects i h in record { below = y.below; kind = y.kind; ending = ending y.ending });
      }
    where
      ending : {t : ℕ} → Ends (land_of m c) t → Ends (land_of (with_store m B) more_store) t
      ending (still h) = still h
      ending (already h) = already h

-- within a value
module _ {m₀ : Memory} {c₀ : Cursor} {cs : List ℕ} {m : Memory} {c : Cursor} (x : Stage m₀ c₀ cs m c) where
  pub stage-store : (a u : ℕ) (B : List ℕ) → Kept c.store m.store B → length B ≡ length m.store → c.store ≤ u → u ≤ length m.store
      → Stage m₀ c₀ cs (with_store m B) (cursor a c.rows u c.strings c.objects c.traits c.names)
  stage-store a u B k l up f = stage-later x (keep-store x.ok a u B k l up f) (ok-store x.ok a u B k l up f) (λ i p q. absurd (omega arith))

  pub stage_at : (a : ℕ) → Stage m₀ c₀ cs m (at_to c a)
  stage_at a = stage-store a c.store m.store (λ i h. refl) refl (omega arith) x.ok.store_in

  pub stage-string : (b z : ℕ) → c.strings * 2 + 2 ≤ length m.strings → Valid (land_of m c) (span b z)
      → Stage m₀ c₀ cs (memory m.rows m.store (sets m.strings (c.strings * 2) (b ∷ z ∷ [])) m.objects m.traits m.names)
      (strings_to c (c.strings + 1))
  stage-string b z r v =
      let y = x.ok in
      stage-later x (record { rows_up = omega arith; rows = λ i h. refl; store_up = omega arith; store = λ i h. refl; long = refl })
      (record {
        rows_in = y.rows_in;
        store_in = y.store_in;
        strings = more-spans m.store c.store m.strings c.strings b z r y.strings v;
        names = y.names;
        traits = y.traits;
        objects = y.objects;
      }) (λ i p q. absurd (omega arith))

  pub stage-name : (b z : ℕ) → c.names * 2 + 2 ≤ length m.names → Valid (land_of m c) (span b z)
      → Stage m₀ c₀ cs (memory m.rows m.store m.strings m.objects m.traits (sets m.names (c.names * 2) (b ∷ z ∷ [])))
      (names_to c (c.names + 1))
  stage-name b z r v =
      let y = x.ok in
      stage-later x (record { rows_up = omega arith; rows = λ i h. refl; store_up = omega arith; store = λ i h. refl; long = refl })
      (record {
        rows_in = y.rows_in;
        store_in = y.store_in;
        strings = y.strings;
        names = more-spans m.store c.store m.names c.names b z r y.names v;
        traits = y.traits;
        objects = y.objects;
      }) (λ i p q. absurd (omega arith))

  pub stage_trait : (t : Trait) → c.traits * 5 + 5 ≤ length m.traits → Valid (land_of m c) (class_of t)
      → Stage m₀ c₀ cs
      (memory m.rows m.store m.strings m.objects (sets m.traits (c.traits * 5) (numbers t)) m.names)
      (traits_to c (c.traits + 1))
  stage_trait t r v =
      let y = x.ok in
      stage-later x (record { rows_up = omega arith; rows = λ i h. refl; store_up = omega arith; store = λ i h. refl; long = refl })
      (record {
        rows_in = y.rows_in;
        store_in = y.store_in;
        strings = y.strings;
        names = y.names;
        traits = more-traits m.store c.store m.traits c.traits t r y.traits v;
        objects = y.objects;
      }) (λ i p q. absurd (omega arith))

-- ---- texts

-- a text is there, and the value in work has gone on from m and c
pub record Heard (m₀ : Memory) (c₀ : Cursor) (cs : List ℕ) (m : Memory) (c : Cursor) (s : Span) (m' : Memory) (c' : Cursor) : Type 0 where
  pub stage : Stage m₀ c₀ cs m' c'
  pub valid : Valid (land_of m' c') s
  pub ext : Ext (land_of m c) (land_of m' c')
  pub rows : c'.rows ≡ c.rows

empty-valid : (B : List ℕ) (u : ℕ) → ValidIn B u no_span
unfolding part valid_text follow
empty-valid B u = record { within = record { inside = omega arith; empty = λ e. refl }; text = refl }

module _ {m₀ : Memory} {c₀ : Cursor} {cs : List ℕ} {m : Memory} {c : Cursor} (x : Stage m₀ c₀ cs m c) where
  pub heard-old : (i a : ℕ) → i < c.strings → Heard m₀ c₀ cs m c (span_at m.strings i) m (at_to c a)
  heard-old i a h = record { stage = stage_at x a; valid = x.ok.strings i h; ext = ext_same (land_of m c); rows = refl }

  pub heard-none : (a : ℕ) → Heard m₀ c₀ cs m c no_span m (at_to c a)
  heard-none a = record { stage = stage_at x a; valid = empty-valid m.store c.store; ext = ext_same (land_of m c); rows = refl }

  pub heard-new : (n a : ℕ) (B : List ℕ) → Kept c.store m.store B → length B ≡ length m.store → c.store + suc n ≤ length m.store
      → c.strings * 2 + 2 ≤ length m.strings → valid_text (part B c.store (suc n)) ≡ true
      → Heard m₀ c₀ cs m c (span c.store (suc n))
      (memory m.rows B (sets m.strings (c.strings * 2) (c.store ∷ suc n ∷ [])) m.objects m.traits m.names)
      (cursor a c.rows (c.store + suc n) (c.strings + 1) c.objects c.traits c.names)
  heard-new n a B k l r t v =
      let w : ValidIn B (c.store + suc n) (span c.store (suc n)) = record
      { within = record { inside = omega arith; empty = λ e. absurd (omega arith) }; text = v } in
      record {
        stage = stage-string (stage-store x a (c.store + suc n) B k l (omega arith) r) c.store (suc n) t w;
        valid = w;
        ext = keep-ext x.ok.store_in (keep-store x.ok a (c.store + suc n) B k l (omega arith) r);
        rows = refl;
      }

  pub text-heard : (bs : List ℕ) → Post (Heard m₀ c₀ cs m c) (text plain m c bs)
  text-heard bs = wp_text plain (λ s R. R) plain-only m c heard-old heard-none heard-new bs
