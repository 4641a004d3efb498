-- Orders back to back, read one after the other with the same loans: each reading finishes at its order's end, with its tree.
use mathlib.Core.Path.{◌≡◌, refl, ap, sym, ◌∙◌}
use mathlib.Core.Bool.{true}
use mathlib.Core.List.{List, [], ◌∷◌, ◌++◌, map, append-nil, append_assoc}
use Prim.Native.Nat.{ℕ, zero, suc, ◌+◌, ◌-◌, ◌≤◌}
use native.Mathlib.Nat.{zero-add, add-zero}
use native.Mathlib.Omega.{arith}
use lib.ListN.{length, take, drop, length-append}
use lib.Seq.{take-append_seam, drop-append_seam}
use Rattle.rows.specs.declared.Cursor.{Cursor}
use Rattle.rows.specs.Memory.{Memory, fault_of}
use Rattle.wire.specs.Octets.{Bytes}
use Rattle.format.specs.Standard.{Tree}
use Rattle.format.specs.Holds.{can_hold}
use Rattle.format.specs.Numbers.{lent_of}
use Rattle.format.specs.Reading.{Ended, finished, refused, reading}
use Rattle.format.specs.Step.{end, run, begin, begin_at}
use Rattle.format.specs.Answers.{read_of, read_call}
use Rattle.format.specs.Claims.{tree_read, Returns, Again}
use Rattle.format.specs.Orders.{Order, order_bytes, order_tree, back_to_back, HoldsEach, Findings, findings, read_first, after_read, read_in_turn}
use Rattle.format.proofs.Lengths.{same-lent}
use Rattle.format.proofs.Kept.{fault_in, fault-in}
use Rattle.format.proofs.Feeding.{feeding}
use Rattle.meaning.proofs.Exactly.{held_exactly}
use Rattle.meaning.proofs.Trip.{round_trip}
use Rattle.meaning.proofs.Orders.{order-written, order-accepted, order-bytes, order-writable}
use Rattle.promises.proofs.Trips.{encode-bytes, call_trip}
use Rattle.promises.proofs.Behind.{finished-holds, taken-there, more-behind}

none-behind : (x y : List ℕ) → length (x ++ y) ≤ length x → y ≡ []
none-behind x [] l = refl
none-behind x (b ∷ y) l = absurd (omega (arith, length-append x (b ∷ y)))

-- ---- one order

module _ (o : Order) where
  -- what is written of it are bytes
  pub order-octets : Bytes (order_bytes o)
  order-octets = rw (order-bytes o) (encode-bytes o.rows o.store o.octets)

  -- as many as were reported
  pub order-size : o.size ≡ length (order_bytes o)
  order-size = (order-accepted o).size ∙ ap length (sym (order-bytes o))

  module _ (m : Memory) (room : can_hold m (order_tree o) ≡ true) (lent : fault_of m ≡ 0) where
    alone : Returns (reading m (order_bytes o)) o.size (order_tree o)
    alone =
        rw (append-nil (order_bytes o)) at
        (round_trip o.rows o.store o.out o.out_after o.size o.wide (order-written o) m room lent [] (rw (append-nil (order_bytes o)) order-octets))

    -- whatever follows it
    pub first-order : (rest : List ℕ) → Returns (reading m (order_bytes o ++ rest)) o.size (order_tree o)
    first-order rest =
        let r = alone in
        record {
          cursor = r.cursor;
          memory = r.memory;
          finishes = more-behind m (order_bytes o) r.cursor r.memory r.finishes rest;
          takes = r.takes;
          unfolds = r.unfolds;
        }

    -- and through the calls, whole and however the bytes are cut
    pub first-order_calls : (rest : List ℕ) → Bytes rest → Again m (order_bytes o ++ rest) o.size (order_tree o)
    first-order_calls rest h = call_trip o.rows o.store o.out o.out_after o.size o.wide o.octets o.accepted m room lent rest h

  -- where a reading finishes at all, it is with the order
  pub finished-order : (m : Memory) (rest : List ℕ) (c : Cursor) (k : Memory) → reading m (order_bytes o ++ rest) ≡ finished c k
      → Returns (reading m (order_bytes o ++ rest)) o.size (order_tree o)
  finished-order m rest c k e =
      let lent = sym (fault-in m) ∙ (finished-holds m (order_bytes o ++ rest) c k e).clean in
      first-order m (held_exactly m (order_tree o) (order-writable o) rest c k (rw (order-bytes o) at e)) lent rest

  -- its place and its rows are the order's
  pub order_is : (m : Memory) (rest : List ℕ) (c : Cursor) (k : Memory) → reading m (order_bytes o ++ rest) ≡ finished c k
      → (c.at ≡ o.size) × (tree_read c.rows k ≡ order_tree o)
  order_is m rest c k e = let r = finished-order m rest c k e in of r.cursor r.memory (sym e ∙ r.finishes) r.takes r.unfolds
    where
      of : (d : Cursor) (l : Memory) → finished c k ≡ finished d l → d.at ≡ o.size → tree_read d.rows l ≡ order_tree o
          → (c.at ≡ o.size) × (tree_read c.rows k ≡ order_tree o)
      of d l q t u = let i : c ≡ d = cc in let j : k ≡ l = cc in (ap (λ (d : Cursor). d.at) i ∙ t, rw (i, j) u)

  -- no part of it that lacks a byte does
  pub no_part : (x y : List ℕ) → x ++ y ≡ order_bytes o → (m : Memory) (c : Cursor) (k : Memory) → reading m x ≡ finished c k → y ≡ []
  no_part x y e m c k q =
      let whole : reading m (order_bytes o ++ []) ≡ finished c k = rw (append-nil (order_bytes o), ← e) (more-behind m x c k q y) in
      none-behind x y (omega (arith, (order_is m [] c k whole).0, order-size, ap length e, taken-there m x c k q))

-- ---- loans of the same lengths

module _ (m m' : Memory) (same : lent_of m' ≡ lent_of m) where
  -- are accepted
  pub lent_again : fault_of m ≡ 0 → fault_of m' ≡ 0
  lent_again f = sym (fault-in m') ∙ ap fault_in same ∙ fault-in m ∙ f

  -- and hold the same trees
  hold_again : (t : Tree) → can_hold m t ≡ true → can_hold m' t ≡ true
  unfolding can_hold
  hold_again t h = let k = same-lent m' m same in rw (k.rows, k.store, k.strings, k.objects, k.traits, k.names) h

  pub each_again : (os : List Order) → HoldsEach m os → HoldsEach m' os
  each_again [] h = tt
  each_again (o ∷ os) h = (hold_again (order_tree o) h.0, each_again os h.1)

-- ---- lists

-- the orders before what else is found
abbrev before : List Order → Findings → Findings
before [] f = f
before (o ∷ os) f = read_first (order_bytes o) (order_tree o) (before os f)

before-these : (os : List Order) (rest : List ℕ) → before os (findings [] [] rest) ≡ findings (map order_bytes os) (map order_tree os) rest
before-these [] rest = refl
before-these (o ∷ os) rest = rw (before-these os rest)

-- a first reading that returns, and those after it
returned : (n : ℕ) (m : Memory) (x rest : List ℕ) (k : ℕ) (t : Tree) (r : Returns (reading m (x ++ rest)) k t) → k ≡ length x
    → read_in_turn (suc n) m (x ++ rest) ≡ read_first x t (read_in_turn n r.memory rest)
unfolding read_in_turn read_call
returned n m x rest k t r e = rw (r.finishes, r.takes, r.unfolds, e, take-append_seam x rest, drop-append_seam x rest)

-- all of them are found, and then what is behind them, with loans of the same lengths
found_before : (os : List Order) (n : ℕ) (m : Memory) → fault_of m ≡ 0 → HoldsEach m os → (rest : List ℕ)
    → (m' : Memory) × (read_in_turn (length os + n) m (back_to_back os ++ rest) ≡ before os (read_in_turn n m' rest))
found_before [] n m f h rest = (m, rw zero-add)
found_before (o ∷ os) n m f h rest =
    let x : List ℕ = back_to_back os ++ rest in
    let r = first-order o m h.0 f x in
    let same = (finished-holds m (order_bytes o ++ x) r.cursor r.memory r.finishes).lends in
    let (k, q) = found_before os n r.memory (lent_again m r.memory same f) (each_again m r.memory same os h.1) rest in
    let i : suc (length os) + n ≡ suc (length os + n) = omega arith in (
      k,
      ap (λ (j : ℕ). read_in_turn j m (back_to_back (o ∷ os) ++ rest)) i ∙ ap (read_in_turn (suc (length os + n)) m) (append_assoc (order_bytes o) (back_to_back os) rest)
          ∙ returned (length os + n) m (order_bytes o) x o.size (order_tree o) r (order-size o) ∙ ap (read_first (order_bytes o) (order_tree o)) q,
    )

-- the orders, and what is behind them
pub order-by-order : (os : List Order) (m : Memory) → fault_of m ≡ 0 → HoldsEach m os → (rest : List ℕ)
    → read_in_turn (length os) m (back_to_back os ++ rest) ≡ findings (map order_bytes os) (map order_tree os) rest
unfolding read_in_turn
order-by-order os m f h rest =
    let (k, q) = found_before os 0 m f h rest in
    ap (λ (n : ℕ). read_in_turn n m (back_to_back os ++ rest)) (sym (add-zero (length os))) ∙ q ∙ before-these os rest

-- some orders are found, from the first one on, and the others are left
abbrev First : List Order → List ℕ → Findings → Type 0
First os rest f = (k : ℕ) × (f ≡ findings (map order_bytes (take k os)) (map order_tree (take k os)) (back_to_back (drop k os) ++ rest))

-- a reading of what begins with an order finishes with it, or is the last
one-of_them : (n : ℕ) (o : Order) (os : List Order) (m : Memory) (rest : List ℕ) (e : Ended) → reading m (order_bytes o ++ (back_to_back os ++ rest)) ≡ e
    → ((m : Memory) → First os rest (read_in_turn n m (back_to_back os ++ rest))) → First (o ∷ os) rest (read_in_turn (suc n) m (order_bytes o ++ (back_to_back os ++ rest)))
unfolding read_in_turn read_call
one-of_them n o os m rest (finished c l) e next =
    let r = finished-order o m (back_to_back os ++ rest) c l e in
    let (k, q) = next r.memory in
    (suc k, returned n m (order_bytes o) (back_to_back os ++ rest) o.size (order_tree o) r (order-size o) ∙ ap (read_first (order_bytes o) (order_tree o)) q)
one-of_them n o os m rest (refused number told place l) e next = (0, rw e (ap (findings [] []) (sym (append_assoc (order_bytes o) (back_to_back os) rest))))

-- of no bytes nothing is read
none_left : (n : ℕ) (m : Memory) → read_in_turn n m [] ≡ findings [] [] []
unfolding read_in_turn read_call begin run end
none_left zero m = refl
none_left (suc n) m = rw (← feeding m []) (of (fault_of m))
  where
    of : (fault : ℕ) → after_read (read_in_turn n) [] (read_of (end (run (begin_at fault m) []))) ≡ findings [] [] []
    of zero = refl
    of (suc loan) = refl

-- so many readings stop at the last of so many orders: they are no more, or nothing is behind it
data Stops (n orders : ℕ) (rest : List ℕ) : Type 0 where
  few : n ≤ orders → Stops n orders rest
  bare : rest ≡ [] → Stops n orders rest

fewer : {n orders : ℕ} {rest : List ℕ} → Stops (suc n) (suc orders) rest → Stops n orders rest
fewer (few l) = few (omega (arith, l))
fewer (bare e) = bare e

-- whatever the loans, they find orders from the first one on, and nothing else
found_first : (n : ℕ) (os : List Order) (m : Memory) (rest : List ℕ) → Stops n (length os) rest → First os rest (read_in_turn n m (back_to_back os ++ rest))
unfolding read_in_turn
found_first zero os m rest h = (0, refl)
found_first (suc n) [] m rest (few l) = absurd (omega arith)
found_first (suc n) [] m rest (bare e) = (0, rw e (none_left (suc n) m))
found_first (suc n) (o ∷ os) m rest h =
    let (k, q) = one-of_them n o os m rest (reading m (order_bytes o ++ (back_to_back os ++ rest))) refl (λ k. found_first n os k rest (fewer h)) in
    (k, ap (read_in_turn (suc n) m) (append_assoc (order_bytes o) (back_to_back os) rest) ∙ q)

pub only-orders : (n : ℕ) (os : List Order) (m : Memory) (rest : List ℕ) → n ≤ length os
    → (k : ℕ) × (read_in_turn n m (back_to_back os ++ rest) ≡ findings (map order_bytes (take k os)) (map order_tree (take k os)) (back_to_back (drop k os) ++ rest))
only-orders n os m rest l = found_first n os m rest (few l)

-- with nothing behind them, however many they are
pub no-others : (n : ℕ) (os : List Order) (m : Memory)
    → (k : ℕ) × (read_in_turn n m (back_to_back os) ≡ findings (map order_bytes (take k os)) (map order_tree (take k os)) (back_to_back (drop k os)))
no-others n os m = let (k, q) = found_first n os m [] (bare refl) in (k, rw (append-nil (back_to_back os), append-nil (back_to_back (drop k os))) at q)

-- however many more readings may follow: they find these orders and nothing else
pub whole-list : (os : List Order) (m : Memory) → fault_of m ≡ 0 → HoldsEach m os → (n : ℕ) → length os ≤ n
    → read_in_turn n m (back_to_back os) ≡ findings (map order_bytes os) (map order_tree os) []
whole-list os m f h n l =
    let (k, q) = found_before os (n - length os) m f h [] in
    let i : length os + (n - length os) ≡ n = omega arith in
    ap (read_in_turn n m) (sym (append-nil (back_to_back os))) ∙ ap (λ (j : ℕ). read_in_turn j m (back_to_back os ++ [])) (sym i)
    ∙ q ∙ ap (before os) (none_left (n - length os) k) ∙ before-these os []
