-- The loans with their used counts, and the standard's tables: what they have to do with one another, and that it lasts while rows, store and names grow.
use mathlib.Core.Path.{◌≡◌}
use mathlib.Core.List.{List, [], ◌∷◌}
use mathlib.Core.Option.{Option, none, some}
use Prim.Native.Nat.{ℕ, suc, ◌+◌, ◌*◌, ◌<◌, ◌≤◌}
use native.Mathlib.Omega.{arith}
use lib.ListN.{length, get_or}
use Rattle.rows.specs.declared.Cursor.{Cursor}
use Rattle.rows.specs.declared.Trait.{Trait}
use Rattle.rows.specs.Memory.{Memory, memory, cursor, message_limit, col_end}
use Rattle.format.specs.Decide.{trait_at}
use Rattle.format.specs.Standard.{Tree, Traits, Tables}
use Rattle.format.proofs.Lists.{Kept}
use Rattle.meaning.proofs.Ground.{spot, Land, land, at, Ext, land_to}
use Rattle.meaning.proofs.Rep.{Text, Own, own-ext, text-ext}
use Rattle.rows.specs.Memory.{row_width}

-- ---- what the tables have to do with the loans

-- names from number f on
abbrev pub Names : List ℕ → ℕ → List ℕ → ℕ → List (List ℕ) → Type 0
Names B u N f [] = Unit {0}
Names B u N f (x ∷ xs) = Text B u (get_or N (f * 2) 0) (get_or N (f * 2 + 1) 0) x × Names B u N (suc f) xs

pub record TraitRep (B : List ℕ) (u : ℕ) (N : List ℕ) (k : ℕ) (t : Trait) (x : Traits) : Type 0 where
  pub class : Text B u t.begin t.size x.class
  pub dynamic : t.dynamic ≡ x.dynamic
  pub count : t.count ≡ length x.names
  pub within : t.first + t.count ≤ k
  pub names : Names B u N t.first x.names

pub record Strings (T : List ℕ) (n : ℕ) (B : List ℕ) (u : ℕ) (xs : List (List ℕ)) : Type 0 where
  pub fits : n * 2 ≤ length T
  pub many : n ≡ length xs
  pub each : (i : ℕ) → i < n → Text B u (get_or T (i * 2) 0) (get_or T (i * 2 + 1) 0) (get_or xs i [])

abbrev pub no_traits : Traits
no_traits = record { class = []; dynamic = 0; names = [] }

pub record Kinds (U : List ℕ) (n : ℕ) (B : List ℕ) (u : ℕ) (N : List ℕ) (k : ℕ) (xs : List Traits) : Type 0 where
  pub fits : n * 5 ≤ length U
  pub many : n ≡ length xs
  pub each : (i : ℕ) → i < n → TraitRep B u N k (trait_at U i) (get_or xs i no_traits)

-- an object's entry: an open row, or one with its tree
abbrev pub Entry : Land → ℕ → Option Tree → Type 0
Entry L r none = (r < L.used) × (at L r col_end ≡ 0)
Entry L r (some t) = Own t L r

pub record Objects (O : List ℕ) (n : ℕ) (L : Land) (xs : List (Option Tree)) : Type 0 where
  pub fits : n ≤ length O
  pub many : n ≡ length xs
  pub each : (i : ℕ) → i < n → Entry L (get_or O i 0) (get_or xs i none)
  pub order : (i j : ℕ) → i < j → j < n → get_or O i 0 < get_or O j 0

-- u: how far the store is settled
pub record Sim (u : ℕ) (m : Memory) (c : Cursor) (s : Tables) : Type 0 where
  pub limit : c.at ≤ message_limit
  pub rows_in : c.rows * row_width ≤ length m.rows
  pub settled : u ≤ c.store
  pub store_in : c.store ≤ length m.store
  pub names_in : c.names * 2 ≤ length m.names
  pub strings : Strings m.strings c.strings m.store u s.texts
  pub kinds : Kinds m.traits c.traits m.store u m.names c.names s.traits
  pub objects : Objects m.objects c.objects (land_to u m c) s.objects

-- ---- it lasts

pub names-ext : (L L' : Land) → Ext L L' → (N N' : List ℕ) (k : ℕ) → Kept (k * 2) N N' → (xs : List (List ℕ)) (f : ℕ) → f + length xs ≤ k
    → Names L.store L.full N f xs → Names L'.store L'.full N' f xs
names-ext L L' x N N' k h [] f l n = tt
names-ext L L' x N N' k h (z ∷ zs) f l n =
    (rw (h (f * 2) (omega arith), h (f * 2 + 1) (omega arith)) (text-ext x _ _ z n.0), names-ext L L' x N N' k h zs (suc f) (omega arith) n.1)

pub trait_ext : (L L' : Land) → Ext L L' → (N N' : List ℕ) (k k' : ℕ) → k ≤ k' → Kept (k * 2) N N' → (t : Trait) (x : Traits)
    → TraitRep L.store L.full N k t x → TraitRep L'.store L'.full N' k' t x
trait_ext L L' e N N' k k' u h t x r =
    let w = r.within in
    let n = r.count in
    record {
      class = text-ext e _ _ x.class r.class;
      dynamic = r.dynamic;
      count = n;
      within = omega arith;
      names = names-ext L L' e N N' k h x.names t.first (omega arith) r.names;
    }

-- rows, store and names change, so that what was finished and settled stays, and what was open stays open
module _ {u : ℕ} {m : Memory} {c : Cursor} {s : Tables} (x : Sim u m c s) (R B N : List ℕ) (a n z k v : ℕ) where
  pub sim_grow : a ≤ message_limit → n * row_width ≤ length R → v ≤ z → z ≤ length B → k * 2 ≤ length N → c.names ≤ k → Kept (c.names * 2) m.names N
      → Ext (land_to u m c) (land R n B v) → ((r : ℕ) → r < c.rows → spot m.rows r col_end ≡ 0 → spot R r col_end ≡ 0)
      → Sim v (memory R B m.strings m.objects m.traits N) (cursor a n z c.strings c.objects c.traits k) s
  sim_grow l f g h i j p e o =
      record {
        limit = l;
        rows_in = f;
        settled = g;
        store_in = h;
        names_in = i;
        strings = record { fits = x.strings.fits; many = x.strings.many; each = λ i l. text-ext e _ _ _ (x.strings.each i l) };
        kinds = record {
          fits = x.kinds.fits;
          many = x.kinds.many;
          each = λ i l. trait_ext (land_to u m c) (land R n B v) e m.names N
              c.names k j p _ _ (x.kinds.each i l);
        };
        objects = record {
          fits = x.objects.fits;
          many = x.objects.many;
          each = λ i l. entry (get_or m.objects i 0) (get_or s.objects i none) (x.objects.each i l);
          order = x.objects.order;
        };
      }
    where
      entry : (r : ℕ) (t : Option Tree) → Entry (land_to u m c) r t → Entry (land R n B v) r t
      entry r none h = let q = e.up in let l = h.0 in (omega arith, o r l h.1)
      entry r (some t) h = own-ext e t r h
