-- Orders back to back, fed in pieces that don't heed where an order ends: the readings begun one after the other find them.
use mathlib.Core.Path.{◌≡◌, refl, ap, sym, ◌∙◌}
use mathlib.Core.Bool.{true}
use mathlib.Core.List.{List, [], ◌∷◌, ◌++◌, map, append-nil, append_assoc}
use Prim.Native.Nat.{ℕ, zero, suc, ◌+◌, ◌≤◌}
use native.Mathlib.Omega.{arith}
use lib.Dec.{lit<}
use lib.ListN.{length, take, drop}
use Rattle.rows.specs.declared.Cursor.{Cursor}
use Rattle.rows.specs.Memory.{Memory, zeroed, fault_of}
use Rattle.wire.specs.Octets.{Bytes}
use Rattle.format.specs.Standard.{Tree}
use Rattle.format.specs.Holds.{can_hold}
use Rattle.format.specs.Reading.{finished, refused, reading}
use Rattle.format.specs.Step.{State, wait, over, none, run, end, begin, begin_at}
use Rattle.format.specs.declared.Answer.TheVariants.{Finished}
use Rattle.format.specs.Numbers.{Numbers, lent_of}
use Rattle.format.specs.Answers.{Fed, fed, answered, begin_call, run_held, taken_by}
use Rattle.format.specs.Claims.{joined, fed_by, fed_pieces, tally, tree_read, Returns}
use Rattle.format.specs.Orders.{Order, order_bytes, order_tree, back_to_back, HoldsEach, FedFindings, fed_findings, found_before, after_feed, fed_in_turn}
use Rattle.format.proofs.Tests.{clash}
use Rattle.format.proofs.Lengths.{same-lent}
use Rattle.format.proofs.Feeding.{feeding}
use Rattle.format.proofs.Cuts as cuts
use Rattle.format.proofs.Cuts.{run-over}
use Rattle.promises.proofs.Counted.{Waits, fed-is}
use Rattle.promises.proofs.Answered.{begin-waits}
use Rattle.promises.proofs.Trips.{append-bytes}
use Rattle.promises.proofs.Behind.{none-run, run-finished, more-behind, read-finished}
use Rattle.promises.proofs.Decides.{finished-tally}
use Rattle.promises.proofs.OnePiece.{front_bytes, behind-bytes, on-waits, first, state-after, begin-first, begin-run, count, feeds-on, feeds-next, feeds-last, rest-is, loans-last, all-taken}
use Rattle.promises.proofs.Turns.{order-octets, first-order, order_is, lent_again, each_again}

-- ---- the orders' bytes

-- are bytes
pub orders-octets : (os : List Order) → Bytes (back_to_back os)
orders-octets [] i = lit< tt
orders-octets (o ∷ os) i = append-bytes (order_bytes o) (back_to_back os) (order-octets o) (orders-octets os) i

-- ---- the first of the orders to come

-- a state on the way through it: it waits, or has finished with the order
data Way (o : Order) : State → Type 0 where
  waits : {t : State} → Waits t → Way o t
  ended : {c : Cursor} {m : Memory} → c.at ≡ o.size → tree_read c.rows m ≡ order_tree o → Way o (over (finished c m))

module _ (o : Order) (y : List ℕ) (m : Memory) (lent : fault_of m ≡ 0) (room : can_hold m (order_tree o) ≡ true) where
  order-returns : Returns (reading m (order_bytes o ++ y)) o.size (order_tree o)
  order-returns = first-order o m room lent y

  order-runs : run (begin m) (order_bytes o ++ y) ≡ over (finished order-returns.cursor order-returns.memory)
  order-runs = run-finished m (order_bytes o ++ y) order-returns.cursor order-returns.memory order-returns.finishes

  on_the_way : (t : State) (z : List ℕ) → run t z ≡ over (finished order-returns.cursor order-returns.memory) → Way o t
  on_the_way (wait x ts c k) z q = waits tt
  on_the_way (over e) z q = rw (sym (run-over e z) ∙ q) (ended order-returns.takes order-returns.unfolds)
  on_the_way (none k) z q = absurd (none-run k z _ _ q)

  -- behind any of its bytes, or of those after it
  way : (x z : List ℕ) → x ++ z ≡ order_bytes o ++ y → Way o (run (begin m) x)
  way x z e = on_the_way (run (begin m) x) z (sym (cuts.run-append (begin m) x z) ∙ ap (run (begin m)) e ∙ order-runs)

-- ---- feed after feed

-- what so many feeds find: the orders, and then what a reading finds that is begun in loans of the same lengths and fed the rest
record Goes (n : ℕ) (os : List Order) (m : Memory) (parts : List (List ℕ)) (rest : List ℕ) (x : FedFindings) : Type 0 where
  loans : Memory
  pieces : List (List ℕ)
  feeds : ℕ
  lengths : lent_of loans ≡ lent_of m
  joins : joined pieces ≡ rest
  counts : n + length pieces ≡ feeds + (length os + length parts)
  finds : x ≡ found_before (map order_tree os) (fed_in_turn feeds (begin_call loans) pieces)

-- some bytes of the first order may have been fed before
data Ready : List Order → List ℕ → ℕ → Type 0 where
  nothing : Ready [] [] 0
  some : {o : Order} {os : List Order} {had : List ℕ} {i : ℕ} → Ready (o ∷ os) had i

abbrev Finds : ℕ → Type 0
Finds n =
    (os : List Order) (m : Memory) → fault_of m ≡ 0 → HoldsEach m os → (had : List ℕ) (i : ℕ) (parts : List (List ℕ)) (rest : List ℕ) → Ready os had i
    → had ++ joined parts ≡ back_to_back os ++ rest → Bytes (back_to_back os ++ rest) → Waits (run (begin m) had) → length os + length parts ≤ n
    → Goes n os m parts rest (fed_in_turn n (answered (run_held (first m) had) i) parts)

-- trees before trees
before-first : (t : Tree) (ts : List Tree) (x : FedFindings) → found_before (t ∷ []) (found_before ts x) ≡ found_before (t ∷ ts) x
before-first t ts (fed_findings us f left) = refl

before-none : (x : FedFindings) → x ≡ found_before [] x
before-none (fed_findings ts f left) = refl

-- a reading begun in which nothing was fed can be followed by the next orders
ready : (os : List Order) → Ready os [] 0
ready [] = nothing
ready (o ∷ os) = some

-- a feed of the next piece, and those after it
module _ (n : ℕ) (finds : Finds n) (p : Order) (os : List Order) (m : Memory) (lent : fault_of m ≡ 0) (holds : HoldsEach m (p ∷ os)) (had piece : List ℕ) (i : ℕ)
    (pieces : List (List ℕ)) (rest : List ℕ) (w : Waits (run (begin m) had)) (o : Bytes (had ++ piece)) (e : had ++ (piece ++ joined pieces) ≡ back_to_back (p ∷ os) ++ rest)
    (whole : Bytes (back_to_back (p ∷ os) ++ rest)) (enough : length os + suc (length pieces) ≤ n) where
  all : taken_by (first m) had ≡ length had
  all = all-taken m had (front_bytes had piece o) w

  next-feed : (t : State) → run (begin m) (had ++ piece) ≡ t → Way p t → Goes (suc n) (p ∷ os) m (piece ∷ pieces) rest (fed_in_turn (suc n) (answered (run_held (first m) had) i) (piece ∷ pieces))
  next-feed t q (waits v) =
      let w' : Waits (run (begin m) (had ++ piece)) = rw q v in
      let g = finds (p ∷ os) m lent holds (had ++ piece) (count m had piece o all) pieces rest some (append_assoc had piece (joined pieces) ∙ e) whole w' (omega (arith, enough)) in
      record {
        loans = g.loans;
        pieces = g.pieces;
        feeds = g.feeds;
        lengths = g.lengths;
        joins = g.joins;
        counts = omega (arith, g.counts);
        finds = feeds-on m had piece o all n i pieces w' ∙ g.finds;
      }
  next-feed t q (ended {c = c} {m = k} a u) =
      let y : List ℕ = back_to_back os ++ rest in
      let split = append_assoc (order_bytes p) (back_to_back os) rest in
      let same = loans-last m had piece o all c k q in
      let fine = lent_again m k same lent in
      let g = finds os k fine (each_again m k same os holds.1) [] 0 (drop (count m had piece o all) piece ∷ pieces) rest (ready os)
      (rest-is m had piece o all p y c k pieces q a (e ∙ split)) (behind-bytes (order_bytes p) y (rw split at whole)) (begin-run k fine) enough in
      let after : FedFindings = fed_in_turn g.feeds (begin_call g.loans) g.pieces in
      record {
        loans = g.loans;
        pieces = g.pieces;
        feeds = g.feeds;
        lengths = g.lengths ∙ same;
        joins = g.joins;
        counts = omega (arith, g.counts);
        finds = feeds-next m had piece o all n i pieces c k q ∙ ap (found_before (tree_read c.rows k ∷ [])) g.finds
            ∙ before-first (tree_read c.rows k) (map order_tree os) after ∙ ap (λ (t : Tree). found_before (t ∷ map order_tree os) after) u;
      }

-- no order to come
none-to_come : (n : ℕ) (m : Memory) (parts : List (List ℕ)) (rest : List ℕ) → joined parts ≡ rest
    → Goes n [] m parts rest (fed_in_turn n (answered (run_held (first m) []) 0) parts)
none-to_come n m parts rest e =
    record {
      loans = m;
      pieces = parts;
      feeds = n;
      lengths = refl;
      joins = e;
      counts = omega arith;
      finds = ap (λ (g : Fed). fed_in_turn n g parts) (sym (begin-first m)) ∙ before-none (fed_in_turn n (begin_call m) parts);
    }

finds : (n : ℕ) → Finds n
unfolding fed_in_turn
finds zero [] m f h [] zero parts rest nothing e b w l = none-to_come zero m parts rest e
finds zero (o ∷ os) m f h had i parts rest some e b w l = absurd (omega arith)
finds (suc n) [] m f h [] zero parts rest nothing e b w l = none-to_come (suc n) m parts rest e
finds (suc n) (o ∷ os) m f h had i [] rest some e b w l =
    absurd (rw (sym (append-nil had) ∙ e ∙ append_assoc (order_bytes o) (back_to_back os) rest, order-runs o (back_to_back os ++ rest) m f h.0) at w)
finds zero [] m f h [] (suc i) parts rest x e b w l = elim x [ ]
finds zero [] m f h (a ∷ had) i parts rest x e b w l = elim x [ ]
finds (suc n) [] m f h [] (suc i) parts rest x e b w l = elim x [ ]
finds (suc n) [] m f h (a ∷ had) i parts rest x e b w l = elim x [ ]
finds (suc n) (o ∷ os) m f h had i (piece ∷ pieces) rest some e b w l =
    let x : List ℕ = had ++ piece in
    let q : x ++ joined pieces ≡ back_to_back (o ∷ os) ++ rest = append_assoc had piece (joined pieces) ∙ e in
    next-feed n (finds n) o os m f h had piece i pieces rest w (front_bytes x (joined pieces) (rw q b)) e b (omega (arith, l)) (run (begin m) x) refl
    (way o (back_to_back os ++ rest) m f h.0 x (joined pieces) (q ∙ append_assoc (order_bytes o) (back_to_back os) rest))

-- loans of the same lengths begin alike
begin-alike : (m k : Memory) → lent_of k ≡ lent_of m → fault_of m ≡ 0 → begin_call k ≡ begin_call m
unfolding zeroed
begin-alike m k same f =
    let l = same-lent k m same in
    begin-waits k (lent_again m k same f) ∙ rw (same, l.rows, l.store, l.strings, l.objects, l.traits, l.names) (sym (begin-waits m f))

module _ (os : List Order) (m : Memory) (lent : fault_of m ≡ 0) (holds : HoldsEach m os) (parts : List (List ℕ)) where
  -- pieces that begin with the orders' bytes, and then have others
  pub pieces_in_turn : (rest : List ℕ) → Bytes rest → joined parts ≡ back_to_back os ++ rest → (n : ℕ) → length os + length parts ≤ n
      → (pieces : List (List ℕ)) × (j : ℕ) × (joined pieces ≡ rest) × (n + length pieces ≡ j + (length os + length parts))
      × (fed_in_turn n (begin_call m) parts ≡ found_before (map order_tree os) (fed_in_turn j (begin_call m) pieces))
  pieces_in_turn rest b e n l =
      let g = finds n os m lent holds [] 0 parts rest (ready os) e (append-bytes (back_to_back os) rest (orders-octets os) b) (begin-run m lent) l in
      let begun = ap (λ (f : Fed). found_before (map order_tree os) (fed_in_turn g.feeds f g.pieces)) (begin-alike m g.loans g.lengths lent) in
      (g.pieces, g.feeds, g.joins, g.counts, ap (λ (f : Fed). fed_in_turn n f parts) (begin-first m) ∙ g.finds ∙ begun)

-- a piece of no bytes leaves a reading as it began
fed-none : (k : Memory) → fed_by (begin_call k) [] ≡ begin_call k
unfolding run_held taken_by
fed-none k = ap (λ (f : Fed). fed_by f []) (begin-first k) ∙ fed-is (run_held (first k) []) 0 [] ∙ sym (begin-first k)

begun-on : (k : Memory) → fault_of k ≡ 0 → (next : Fed → List (List ℕ) → FedFindings) (piece : List ℕ) (pieces : List (List ℕ))
    → after_feed next piece pieces (begin_call k) ≡ next (begin_call k) pieces
begun-on k f next piece pieces =
    rw (begin-first k) (on-waits next piece pieces (run_held (first k) []) 0 (rw (state-after k [] (λ i. lit< tt)) (begin-run k f)))

-- and so do any of them
nothing-fed : (k : Memory) → fault_of k ≡ 0 → (n : ℕ) (pieces : List (List ℕ)) → joined pieces ≡ [] → length pieces ≤ n
    → fed_in_turn n (begin_call k) pieces ≡ fed_findings [] (begin_call k) []
unfolding fed_in_turn
nothing-fed k f zero [] e l = refl
nothing-fed k f zero (piece ∷ pieces) e l = absurd (omega arith)
nothing-fed k f (suc n) [] e l = refl
nothing-fed k f (suc n) ([] ∷ pieces) e l = rw (fed-none k) (begun-on k f (fed_in_turn n) [] pieces ∙ nothing-fed k f n pieces e (omega arith))
nothing-fed k f (suc n) ((b ∷ piece) ∷ pieces) e l = clash cc

-- pieces of the orders' bytes and nothing else: in the end all is as begin left it
pub piece-by-piece : (os : List Order) (m : Memory) → fault_of m ≡ 0 → HoldsEach m os → (parts : List (List ℕ)) → joined parts ≡ back_to_back os
    → (n : ℕ) → length os + length parts ≤ n → fed_in_turn n (begin_call m) parts ≡ fed_findings (map order_tree os) (begin_call m) []
piece-by-piece os m f h parts e n l =
    let (pieces, j, joins, counts, q) = pieces_in_turn os m f h parts [] (λ i. lit< tt) (e ∙ sym (append-nil (back_to_back os))) n l in
    q ∙ ap (found_before (map order_tree os)) (nothing-fed m f j pieces joins (omega (arith, counts, l))) ∙ rw (append-nil (map order_tree os))

-- ---- with any loans

-- where begin and any pieces finish at all, it is with the first order
pub finished-order-feed : (o : Order) (m : Memory) (parts : List (List ℕ)) (rest : List ℕ) → Bytes rest → joined parts ≡ order_bytes o ++ rest
    → (rows stored taken : ℕ) (n : Numbers) (l : Memory) → fed_pieces (begin_call m) parts ≡ fed (Finished rows stored taken) n l
    → (tally (begin_call m) parts ≡ o.size) × (tree_read rows l ≡ order_tree o)
finished-order-feed o m parts rest b e rows stored taken n l q =
    let whole : Bytes (joined parts) = rw e (append-bytes (order_bytes o) rest (order-octets o) b) in
    let (c, r, at, is) = read-finished m (joined parts) rows stored (tally (begin_call m) parts) l (finished-tally m parts n l whole rows stored taken q) in
    let f : reading m (order_bytes o ++ rest) ≡ finished c l = ap (reading m) (sym e) ∙ r in
    let (t, u) = order_is o m rest c l f in
    let i : c.rows ≡ rows = cc in
    (sym at ∙ t, ap (λ (r : ℕ). tree_read r l) (sym i) ∙ u)

-- some orders' trees, from the first one on
abbrev Trees : List Order → FedFindings → Type 0
Trees os x = (k : ℕ) × (f : Fed) × (left : List (List ℕ)) × (x ≡ fed_findings (map order_tree (take k os)) f left)

-- a feed behind bytes that were all taken, and those after it
abbrev Only : ℕ → Type 0
Only n =
    (os : List Order) (m : Memory) (had : List ℕ) (i : ℕ) (parts : List (List ℕ)) → had ++ joined parts ≡ back_to_back os → taken_by (first m) had ≡ length had
    → Trees os (fed_in_turn n (answered (run_held (first m) had) i) parts)

none-taken : (m : Memory) → taken_by (first m) [] ≡ length {A = ℕ} []
unfolding taken_by
none-taken m = refl

-- begin has not finished
unfinished : (m : Memory) (x y : List ℕ) (c : Cursor) (k : Memory) → x ++ y ≡ [] → run (begin m) x ≡ over (finished c k) → ⊥
unfolding begin run
unfinished m [] y c k e q = of (fault_of m) q
  where
    of : (fault : ℕ) → begin_at fault m ≡ over (finished c k) → ⊥
    of zero q = clash cc
    of (suc loan) q = clash cc
unfinished m (b ∷ x) y c k e q = clash cc

module _ (n : ℕ) (only : Only n) (m : Memory) (had piece : List ℕ) (i : ℕ) (pieces : List (List ℕ)) (o : Bytes (had ++ piece)) (all : taken_by (first m) had ≡ length had) where
  ends-first : (p : Order) (os : List Order) (c : Cursor) (k : Memory) → had ++ (piece ++ joined pieces) ≡ back_to_back (p ∷ os)
      → run (begin m) (had ++ piece) ≡ over (finished c k) → reading m (order_bytes p ++ back_to_back os) ≡ finished c k
  unfolding end
  ends-first p os c k e q =
      ap (reading m) (sym (append_assoc had piece (joined pieces) ∙ e))
      ∙ more-behind m (had ++ piece) c k (sym (feeding m (had ++ piece)) ∙ ap end q) (joined pieces)

  any_feed : (os : List Order) (t : State) → had ++ (piece ++ joined pieces) ≡ back_to_back os → run (begin m) (had ++ piece) ≡ t
      → Trees os (fed_in_turn (suc n) (answered (run_held (first m) had) i) (piece ∷ pieces))
  any_feed os (wait y ts c k) e q =
      let w : Waits (run (begin m) (had ++ piece)) = rw q tt in
      let (k, f, left, g) = only os m (had ++ piece) (count m had piece o all) pieces (append_assoc had piece (joined pieces) ∙ e) (all-taken m (had ++ piece) o w) in
      (k, f, left, feeds-on m had piece o all n i pieces w ∙ g)
  any_feed [] (over (finished c k)) e q = absurd (unfinished m (had ++ piece) (joined pieces) c k (append_assoc had piece (joined pieces) ∙ e) q)
  any_feed (p ∷ os) (over (finished c k)) e q =
      let (a, u) = order_is p m (back_to_back os) c k (ends-first p os c k e q) in
      let (j, f, left, g) = only os k [] 0 (drop (count m had piece o all) piece ∷ pieces) (rest-is m had piece o all p (back_to_back os) c k pieces q a e) (none-taken k) in
      (suc j, f, left, feeds-next m had piece o all n i pieces c k q ∙ ap (found_before (tree_read c.rows k ∷ [])) g ∙ ap (λ (t : Tree). fed_findings (t ∷ map order_tree (take j os)) f left) u)
  any_feed os (over (refused number told place k)) e q = (0, _, _, feeds-last m had piece o all n i pieces (rw q tt))
  any_feed os (none k) e q = (0, _, _, feeds-last m had piece o all n i pieces (rw q tt))

only : (n : ℕ) → Only n
unfolding fed_in_turn
only zero os m had i parts e all = (0, _, _, refl)
only (suc n) os m had i [] e all = (0, _, _, refl)
only (suc n) os m had i (piece ∷ pieces) e all =
    let x : List ℕ = had ++ piece in
    let q : x ++ joined pieces ≡ back_to_back os = append_assoc had piece (joined pieces) ∙ e in
    any_feed n (only n) m had piece i pieces (front_bytes x (joined pieces) (rw q (orders-octets os))) all os (run (begin m) x) e refl

-- with any loans pieces of orders give trees of orders from the first one on, and nothing else
pub only-pieces : (n : ℕ) (os : List Order) (m : Memory) (parts : List (List ℕ)) → joined parts ≡ back_to_back os
    → (k : ℕ) × (f : Fed) × (left : List (List ℕ)) × (fed_in_turn n (begin_call m) parts ≡ fed_findings (map order_tree (take k os)) f left)
only-pieces n os m parts e =
    let (k, f, left, g) = only n os m [] 0 parts e (none-taken m) in
    (k, f, left, ap (λ (f : Fed). fed_in_turn n f parts) (begin-first m) ∙ g)
