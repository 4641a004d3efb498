-- Demand 2 for reading: a reading means what the standard says, unless a loan or a limit is met; it never loses itself.
use mathlib.Core.Path.{◌≡◌, refl, sym, ap, ◌∙◌}
use mathlib.Core.List.{List, [], ◌∷◌, ◌++◌}
use mathlib.Core.Logic.{◌≢◌}
use Prim.Native.Nat.{ℕ, zero, suc, ◌+◌, ◌*◌, ◌<◌, ◌≤◌}
use native.Mathlib.Omega.{arith}
use lib.ListN.{length, take, get_or, take-append-drop}
use lib.Seq.{length-take-le, get_or-take}
use Rattle.rows.specs.declared.Cursor.{Cursor}
use Rattle.rows.specs.Memory.{Memory, fresh, zeroed, fault_of, row_width, open_limit, no_key}
use Rattle.wire.proofs.Octets.{Bytes}
use Rattle.format.specs.Reading.{ResultOf, ok, bad, Result, Ended, finished, refused, ended, unless_fault, reading}
use Rattle.format.specs.Reading as our
use Rattle.format.specs.Standard.{Tables, Tree, no_tables, standard}
use Rattle.format.specs.Unfold.{part, unfolded}
use Rattle.format.specs.RowTest.{keyless}
use Rattle.format.proofs.Tests.{clash}
use Rattle.format.proofs.Lists.{Kept, part-kept}
use Rattle.meaning.proofs.Ground.{col-lent, land_of}
use Rattle.format.proofs.Alike.{Agree, fine, both, ours}
use Rattle.meaning.proofs.Tables.{Names, no_traits, Sim}
use Rattle.meaning.proofs.Rep.{Rep}
use Rattle.meaning.proofs.Stage.{Val}
use Rattle.format.proofs.Tested.{formed-of}
use Rattle.meaning.proofs.RowTests.{well-formed}
use Rattle.format.proofs.Levels.{more-levels}
use Rattle.meaning.proofs.Posts.{Post}
use Rattle.meaning.proofs.Stages as stages
use Rattle.meaning.proofs.Finished.{finished-val, val_table, fresh-reads}
pub use Rattle.meaning.proofs.Finished.{used_rows, used_store, used-many}
use Rattle.meaning.proofs.Unfolding.{View, rep-unfolds}
use Rattle.meaning.proofs.Values.{value-alike}
use Rattle.meaning.proofs.Limits.{limit-most, limits}
use Rattle.format.specs.Refusals as refusals
use Rattle.format.specs.Limits.{TablesHeld}
pub use Rattle.format.specs.Limits.{Accord, reads, refuses, limited, Kept-to, finishes, stops, meets}

-- ---- what is said of a reading and the standard's

-- ---- a fresh reading

sim-fresh : (m : Memory) → Sim 0 m fresh no_tables
sim-fresh m =
    record {
      limit = omega arith;
      rows_in = omega arith;
      settled = omega arith;
      store_in = omega arith;
      names_in = omega arith;
      strings = record { fits = omega arith; many = refl; each = λ i l. absurd (omega arith) };
      kinds = record { fits = omega arith; many = refl; each = λ i l. absurd (omega arith) };
      objects = record { fits = omega arith; many = refl; each = λ i l. absurd (omega arith); order = λ i j k l. absurd (omega arith) };
    }

pub read_alike : (m : Memory) (bs : List ℕ) → Bytes bs → Agree bs (Val m fresh no_key) (our.value open_limit no_key m fresh bs) (standard bs)
unfolding standard
read_alike m bs h =
    value-alike bs h (suc (length bs)) (omega arith) open_limit (suc (length bs)) no_key m fresh no_tables bs (sim-fresh m)
    (record { rest = refl; within = omega arith }) (omega arith)

-- ---- its end

view : {m : Memory} {c : Cursor} {s : Tables} → Sim c.store m c s → (B : List ℕ) → c.store ≤ length B → Kept c.store m.store B
    → View (land_of m c) (used_rows c m) B
view {m} {c} {s} x B h k =
    let n = used-many c m x.rows_in in
    record {
      many = n;
      cols = λ r j l i. col-lent (used_rows c m) r j (omega arith) ∙ get_or-take (c.rows * row_width) m.rows (r * row_width + j) 0 (omega arith);
      texts = λ b z l. part-kept c.store m.store B b z k x.store_in h l;
    }

-- the rows that stand for a tree unfold to it, with a store that is the same as far as it was used
unfolds : {m₀ m : Memory} {c : Cursor} {s : Tables} (t : Tree) (B : List ℕ) → Sim c.store m c s → stages.Val keyless m₀ fresh m c → Rep t (land_of m c) 0
    → c.store ≤ length B → Kept c.store m.store B → unfolded (used_rows c m) B 0 ≡ t
unfolds {m = m} {c = c} t B s v r l k =
    let R : List ℕ = used_rows c m in
    let table = val_table v B l k in
    let n = used-many c m s.rows_in in
    let n² : ℕ = c.rows * c.rows in
    sym (more-levels R B (λ i h. formed-of R B i (well-formed table i h)) (suc (n² + c.rows)) 0 table.some (omega arith))
    ∙ rep-unfolds (land_of m c) R B (view s B l k) t 0 (n² + c.rows) r (omega arith)

-- a name of a trait
name-held : (B : List ℕ) (u : ℕ) (N : List ℕ) (f : ℕ) (xs : List (List ℕ)) → Names B u N f xs → (i : ℕ) → i < length xs
    → part B (get_or N ((f + i) * 2) 0) (get_or N ((f + i) * 2 + 1) 0) ≡ get_or xs i []
name-held B u N f [] h i l = absurd (omega arith)
name-held B u N f (x ∷ xs) h zero l = let e : f + 0 ≡ f = omega arith in rw e h.0.0
name-held B u N f (x ∷ xs) h (suc i) l = let e : f + suc i ≡ suc f + i = omega arith in rw e (name-held B u N (suc f) xs h.1 i (omega arith))

-- the tables that stand for the standard's hold them
tables-held : {u : ℕ} {m : Memory} {c : Cursor} {s : Tables} → Sim u m c s → TablesHeld c m s
tables-held {m = m} {s = s} x =
    record {
      strings = x.strings.many;
      texts = λ i l. (x.strings.each i l).0;
      within = λ i l. (let k = (x.strings.each i l).1 in let u = x.settled in omega arith);
      objects = x.objects.many;
      traits = x.kinds.many;
      kinds = λ i l. (let k = x.kinds.each i l in
          record {
            class = k.class.0;
            dynamic = k.dynamic;
            count = k.count;
            names = λ j h. name-held _ _ _ _ (get_or s.traits i no_traits).names k.names j (let n = k.count in omega arith);
          });
    }

-- by how both end
accord : (lent : Memory) (bs : List ℕ) (x : Result Unit) (y : ResultOf Tables ℕ Tree) → fault_of lent ≡ 0 → reading lent bs ≡ ended x
    → Post (λ u. stages.Val keyless (zeroed lent) fresh) x → Agree bs (Val (zeroed lent) fresh no_key) x y → Accord lent bs (ended x) y
unfolding ended
accord lent bs x y e q p (fine {m = m} {c = c} {b = t} {bs = rest} l v) =
    let s = v.sim in
    let i = s.store_in in
    let w = finished-val _ c m p refl in
    reads (sym (take-append-drop c.at bs) ∙ ap (λ z. take c.at bs ++ z) (sym l.rest)) l.within
    (unfolds t (used_store c m) s w v.rep (let e = length-take-le c.store m.store i in omega arith) (λ j h. get_or-take c.store m.store j 0 h))
    (unfolds t m.store s w v.rep i (λ j h. refl)) (tables-held s)
accord lent bs x y e q p (both h i) = refuses h i
accord lent bs x y e q p (ours {m = m} h i) = limited (limits lent bs (zeroed m) e h i q)

-- ---- the theorems

-- where no loan is faulty the reading is the first value's
unfaulted : (m : Memory) (bs : List ℕ) → fault_of m ≡ 0 → reading m bs ≡ ended (our.value open_limit no_key (zeroed m) fresh bs)
unfolding reading
unfaulted m bs e = rw e

-- reading means the standard
pub reading_means : (m : Memory) (bs : List ℕ) → Bytes bs → fault_of m ≡ 0 → Accord m bs (reading m bs) (standard bs)
reading_means m bs h e =
    let q : reading m bs ≡ ended (our.value open_limit no_key (zeroed m) fresh bs) = unfaulted m bs e in
    rw q (accord m bs _ _ e q (fresh-reads (zeroed m) bs) (read_alike (zeroed m) bs h))

-- whatever the loans, a reading never says 12
pub never-lost : (m : Memory) (bs : List ℕ) → Bytes bs → (n told place : ℕ) (m' : Memory) → reading m bs ≡ refused n told place m' → n ≢ refusals.lost
unfolding reading
never-lost m bs h n told place m' = by-fault (fault_of m) refl
  where
    met : (e : Ended) (y : ResultOf Tables ℕ Tree) → Accord m bs e y → e ≡ refused n told place m' → n ≢ refusals.lost
    met e y (reads p q r s u) d = clash cc
    met e y (refuses {n = k} p q) d = let z : k ≡ n = cc in λ w. omega arith
    met e y (limited {n = k} l) d = let z : k ≡ n = cc in let (p, q) = limit-most l in λ w. omega arith

    by-fault : (k : ℕ) → fault_of m ≡ k → unless_fault k m (ended (our.value open_limit no_key (zeroed m) fresh bs)) ≡ refused n told place m' → n ≢ refusals.lost
    by-fault zero e d = met _ _ (reading_means m bs h e) (unfaulted m bs e ∙ d)
    by-fault (suc k) e d = let z : 1 ≡ n = cc in λ w. omega arith

-- what a finished reading says
pub record Understood (bs : List ℕ) (y : ResultOf Tables ℕ Tree) (c : Cursor) (m : Memory) : Type 0 where
  pub tree : Tree
  pub tables : Tables
  pub rest : List ℕ
  pub says : y ≡ ok tree tables c.at rest
  pub joined : bs ≡ take c.at bs ++ rest
  pub within : c.at ≤ length bs
  pub unfolds : unfolded (used_rows c m) (used_store c m) 0 ≡ tree
  pub unfolds_whole : unfolded (used_rows c m) m.store 0 ≡ tree

module _ (m : Memory) (bs : List ℕ) (octets : Bytes bs) (accepted : fault_of m ≡ 0) where
  -- what is finished is the standard's tree
  pub finished_means : (c : Cursor) (m' : Memory) → reading m bs ≡ finished c m' → Understood bs (standard bs) c m'
  finished_means c m' = met (reading m bs) (standard bs) (reading_means m bs octets accepted)
    where
      met : (e : Ended) (y : ResultOf Tables ℕ Tree) → Accord m bs e y → e ≡ finished c m' → Understood bs y c m'
      met e y (reads {c = k} {m = n} {t = t} {s = s} {rest = rest} p q r w u) d =
          let f : k ≡ c = cc in
          let g : n ≡ m' = cc in
          record {
            tree = t;
            tables = s;
            rest = rest;
            says = ap (λ (z : Cursor). ok t s z.at rest) f;
            joined = rw f at p;
            within = rw f at q;
            unfolds = rw (f, g) at r;
            unfolds_whole = rw (f, g) at w;
          }
      met e y (refuses p q) d = clash cc
      met e y (limited l) d = clash cc

  -- what is refused, but by a limit or a loan, the standard refuses so
  pub refused_means : (n told place : ℕ) (m' : Memory) → reading m bs ≡ refused n told place m' → n ≢ refusals.too_deep → n ≢ refusals.no_room → n ≢ refusals.too_long
      → (s : Tables) × (standard bs ≡ bad n told place s)
  refused_means n told place m' = met (reading m bs) (standard bs) (reading_means m bs octets accepted)
    where
      met : (e : Ended) (y : ResultOf Tables ℕ Tree) → Accord m bs e y → e ≡ refused n told place m' → n ≢ refusals.too_deep → n ≢ refusals.no_room → n ≢ refusals.too_long
          → (s : Tables) × (y ≡ bad n told place s)
      met e y (reads p q r w u) d a b c = clash cc
      met e y (refuses {n = k} {told = u} {place = v} {s = s} p q) d a b c =
          let f : k ≡ n = cc in
          let g : u ≡ told = cc in
          let h : v ≡ place = cc in
          (s, rw (f, g, h))
      met e y (limited {n = k} l) d a b c = let f : k ≡ n = cc in let (p, q) = limit-most l in absurd (omega arith)

  -- and the other way round
  pub standard-kept : Kept-to m bs (reading m bs) (standard bs)
  standard-kept = met (reading m bs) (standard bs) (reading_means m bs octets accepted)
    where
      met : (e : Ended) (y : ResultOf Tables ℕ Tree) → Accord m bs e y → Kept-to m bs e y
      met e y (reads {c = c} {m = m'} p q r w u) = finishes c m' refl refl r
      met e y (refuses {m = m'} p q) = stops m' refl
      met e y (limited {n = n} {told = told} {place = place} {m = m'} l) = meets n told place m' l refl
