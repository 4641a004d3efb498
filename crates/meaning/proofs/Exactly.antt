-- `can_hold` is exact: a reading that finishes on a written tree has used just the room that `can_hold` asks for, so the loans can hold that tree.
use mathlib.Core.Path.{◌≡◌, ◌∙◌}
use mathlib.Core.Bool.{true}
use mathlib.Core.List.{List, ◌++◌}
use Prim.Native.Nat.{ℕ, zero, suc, ◌+◌, ◌*◌, ◌≤◌}
use native.Mathlib.Omega.{arith}
use lib.ListN.{length}
use borrow.Author.Tests.{le-leb}
use Rattle.rows.specs.declared.Cursor.{Cursor}
use Rattle.rows.specs.Memory.{Memory, row_width, span_width, trait_width, open_limit, no_key, fresh, zeroed, fault_of}
use Rattle.wire.proofs.Octets.{Bytes}
use Rattle.format.specs.Reading.{Result, ok, bad, finished, ended, unless_fault, value, reading}
use Rattle.format.specs.Step.{State, run, begin, end}
use Rattle.format.specs.Standard.{Tree, encode}
use Rattle.format.specs.Holds.{Room, of_tree, can_hold}
use Rattle.format.specs.Numbers.{lent_of}
use Rattle.rows.specs.declared.lent.Lent.{Lent}
use Rattle.format.proofs.Tests.{on_bool, clash}
use Rattle.format.proofs.Feeding.{feeding}
use Rattle.format.proofs.Used.{Counts}
use Rattle.format.proofs.Along.{Able, awaits, completes, rejects}
use Rattle.format.proofs.Shows.{able_along}
use Rattle.meaning.proofs.Depth.{deeper-reading}
use Rattle.meaning.proofs.Parts.{depth}
use Rattle.format.specs.Writable.{Writable}
use Rattle.meaning.proofs.Holds.{Spent, Exact, Any}
use Rattle.meaning.proofs.Finishes.{tree-goes}
use Rattle.meaning.proofs.Trip.{tree_trip}
pub use Rattle.format.specs.Claims.{Held_just, holds, lacks}

-- ---- what a finished reading used lies within the loans

-- of a state that has finished
counts_able : {B : Type 0} {lent : Lent} {at : ℕ} {c : Cursor} {k : Memory} (s : State) → Able B lent at s → end s ≡ finished c k → Counts lent c
unfolding end
counts_able {lent = lent} {c = c} s (awaits h f u p) e = clash cc
counts_able {lent = lent} {c = c} s (completes {c = d} h) e = let q : d ≡ c = cc in rw q at h.counts
counts_able {lent = lent} {c = c} s (rejects t h z) e = clash cc

-- of a whole reading
pub finished-counts : (m : Memory) (bs : List ℕ) (c : Cursor) (k : Memory) → reading m bs ≡ finished c k → Counts (lent_of m) c
finished-counts m bs c k e = counts_able (run (begin m) bs) (able_along m bs) (feeding m bs ∙ e)

-- ---- and on a written tree it is the room that the tree takes

-- a first value that is read with greater depth, of which the reading finished
spent_first : {n : Room} (rest : List ℕ) (m : Memory) (fault : ℕ) (r : Result Unit) (c : Cursor) (k : Memory) → Exact Any n fresh rest r
    → unless_fault fault m (ended r) ≡ finished c k → Spent n fresh c
unfolding ended
spent_first rest m zero (ok x l d bs) c k h e = let q : d ≡ c = cc in rw q at h.2
spent_first rest m zero (bad number told place l) c k h e = clash cc
spent_first rest m (suc fault) r c k h e = clash cc

-- whatever follows the tree, and however deep it nests
pub used_exactly : (m : Memory) (t : Tree) → Writable t → (rest : List ℕ) (c : Cursor) (k : Memory) → reading m (encode t ++ rest) ≡ finished c k
    → Spent (of_tree t) fresh c
used_exactly m t w rest c k e =
    spent_first rest m (fault_of m) (value (open_limit + depth t) no_key (zeroed m) fresh (encode t ++ rest)) c k
    ((tree-goes t w (open_limit + depth t) (omega arith) no_key).exact (zeroed m) fresh rest)
    (deeper-reading (open_limit + depth t) (omega arith) m (encode t ++ rest) (λ told place l q. clash cc) ∙ e)

-- so the loans can hold it
pub held_exactly : (m : Memory) (t : Tree) → Writable t → (rest : List ℕ) (c : Cursor) (k : Memory) → reading m (encode t ++ rest) ≡ finished c k
    → can_hold m t ≡ true
unfolding can_hold lent_of
held_exactly m t w rest c k e =
    let u = used_exactly m t w rest c k e in
    let n = finished-counts m (encode t ++ rest) c k e in
    let (((((rows, store), strings), objects), traits), names) = n in
    rw (
      le-leb ((of_tree t).rows * row_width) (length m.rows) (omega arith),
      le-leb (of_tree t).store (length m.store) (omega arith),
      le-leb ((of_tree t).strings * span_width) (length m.strings) (omega arith),
      le-leb (of_tree t).objects (length m.objects) (omega arith),
      le-leb ((of_tree t).traits * trait_width) (length m.traits) (omega arith),
      le-leb ((of_tree t).names * span_width) (length m.names) (omega arith),
    )

-- for every tree that can be written and doesn't nest too deep
pub can_hold_exact : (m : Memory) (t : Tree) → fault_of m ≡ 0 → Writable t → depth t ≤ open_limit → (rest : List ℕ) → Bytes (encode t ++ rest)
    → Held_just m t rest (can_hold m t)
can_hold_exact m t fault w d rest b =
    on_bool (can_hold m t) (λ e. rw e (holds (tree_trip t m e fault w d rest b)))
    (λ e. rw e (lacks (λ c k q. let f = held_exactly m t w rest c k q in clash cc)))
