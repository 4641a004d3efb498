-- A feed of one piece in turn: what it leads to, where the bytes before it were all taken.
use mathlib.Core.Path.{◌≡◌, refl, ap, sym, ◌∙◌}
use mathlib.Core.List.{List, [], ◌∷◌, ◌++◌}
use Prim.Native.Nat.{ℕ, zero, suc, ◌+◌, ◌≤◌}
use lib.Dec.{lit<}
use lib.ListN.{length, drop}
use lib.Seq.{drop-append_seam, drop-append-add, drop-append-le}
use Rattle.rows.specs.declared.Cursor.{Cursor}
use Rattle.rows.specs.Memory.{Memory, fault_of}
use Rattle.wire.specs.Octets.{Bytes}
use Rattle.format.specs.Reading.{finished, refused}
use Rattle.format.specs.Step.{State, wait, over, none, run, end, begin}
use Rattle.format.specs.Numbers.{Held, held, lent_of, state_of, memory_of, after_step}
use Rattle.format.specs.Answers.{Fed, fed, answer_of, answered, blank, begin_call, run_held, state_in, taken_by}
use Rattle.format.specs.Claims.{joined, fed_by, tree_read}
use Rattle.format.specs.Orders.{Order, order_bytes, FedFindings, fed_findings, found_before, after_feed, fed_in_turn}
use Rattle.format.proofs.Feeding.{feeding}
use Rattle.format.proofs.Pieces.{taken-most}
use Rattle.format.proofs.Shows.{shows-run, shows-begin, taken-run, memory-of}
use Rattle.promises.proofs.Counted.{Waits, waits-all, run-append, taken-append, fed-is}
use Rattle.promises.proofs.Behind.{finished-holds}
use Rattle.promises.proofs.Turns.{order-size}

-- ---- lists of bytes

pub front_bytes : (x y : List ℕ) → Bytes (x ++ y) → Bytes x
front_bytes [] y h i = lit< tt
front_bytes (b ∷ x) y h zero = h 0
front_bytes (b ∷ x) y h (suc i) = front_bytes x y (λ j. h (suc j)) i

pub behind-bytes : (x y : List ℕ) → Bytes (x ++ y) → Bytes y
behind-bytes [] y h i = h i
behind-bytes (b ∷ x) y h i = behind-bytes x y (λ j. h (suc j)) i

-- ---- a feed's next state

-- one that is refused, or was never begun
abbrev pub Last : State → Type 0
Last (wait x ts c m) = ⊥
Last (over (finished c m)) = ⊥
Last (over (refused number told place m)) = Unit
Last (none m) = Unit

module _ (next : Fed → List (List ℕ) → FedFindings) (piece : List ℕ) (pieces : List (List ℕ)) where
  pub on-waits : (h : Held) (k : ℕ) → Waits (state_in h) → after_feed next piece pieces (answered h k) ≡ next (answered h k) pieces
  on-waits (held s l) k w = of (state_of s l) w
    where
      of : (t : State) → Waits t → after_feed next piece pieces (fed (answer_of t k) s l) ≡ next (fed (answer_of t k) s l) pieces
      of (wait x ts c m) w = refl
      of (over e) w = absurd w
      of (none m) w = absurd w

  on-finishes : (h : Held) (k : ℕ) (c : Cursor) (l : Memory) → state_in h ≡ over (finished c l)
      → after_feed next piece pieces (answered h k) ≡ found_before (tree_read c.rows l ∷ []) (next (begin_call l) (drop k piece ∷ pieces))
  on-finishes (held s l₀) k c l e = let i : l ≡ l₀ = sym (ap memory_of e) ∙ memory-of s l₀ in rw (e, i)

  on-last : (h : Held) (k : ℕ) → Last (state_in h) → after_feed next piece pieces (answered h k) ≡ fed_findings [] (answered h k) (drop k piece ∷ pieces)
  on-last (held s l) k w = of (state_of s l) w
    where
      of : (t : State) → Last t → after_feed next piece pieces (fed (answer_of t k) s l) ≡ fed_findings [] (fed (answer_of t k) s l) (drop k piece ∷ pieces)
      of (over (refused number told place m)) w = refl
      of (none m) w = refl
      of (over (finished c m)) w = absurd w
      of (wait x ts c m) w = absurd w

-- ---- begin, and bytes after it

pub first : Memory → Held
first m = after_step (blank (lent_of m)) (begin m)

pub state-after : (m : Memory) (bs : List ℕ) → Bytes bs → state_in (run_held (first m) bs) ≡ run (begin m) bs
unfolding first
state-after m bs o = (shows-run (begin m) (first m) bs o (shows-begin m)).shown

pub begin-first : (m : Memory) → begin_call m ≡ answered (run_held (first m) []) 0
unfolding begin_call first run_held
begin-first m = refl

-- it waits
pub begin-run : (m : Memory) → fault_of m ≡ 0 → Waits (run (begin m) [])
unfolding begin run
begin-run m f = rw f tt

-- ---- a piece

-- a piece behind bytes that were all taken
module _ (m : Memory) (had piece : List ℕ) (o : Bytes (had ++ piece)) (all : taken_by (first m) had ≡ length had) where
  -- the bytes of a piece that are taken, and those before it
  pub count : ℕ
  count = taken_by (run_held (first m) had) piece

  count_most : count ≤ length piece
  unfolding count
  count_most = taken-most (run_held (first m) had) piece

  -- as many as the place of a finished reading says
  count-place : (c : Cursor) (k : Memory) → run (begin m) (had ++ piece) ≡ over (finished c k) → length had + count ≡ c.at
  unfolding count end first
  count-place c k q =
      ap (λ (n : ℕ). n + count) (sym all) ∙ sym (taken-append (first m) had piece) ∙ taken-run (begin m) (first m) (had ++ piece) o (shows-begin m)
      ∙ sym (finished-holds m (had ++ piece) c k (sym (feeding m (had ++ piece)) ∙ ap end q)).place

  fed-piece : (next : Fed → List (List ℕ) → FedFindings) (pieces : List (List ℕ)) (i : ℕ)
      → after_feed next piece pieces (fed_by (answered (run_held (first m) had) i) piece) ≡ after_feed next piece pieces (answered (run_held (first m) (had ++ piece)) count)
  unfolding count
  fed-piece next pieces i =
      ap (after_feed next piece pieces) (fed-is (run_held (first m) had) i piece ∙ ap (λ (h : Held). answered h count) (sym (run-append (first m) had piece)))

  -- the feeds after it: where it waits, where it finishes, and where it is the last
  module _ (n i : ℕ) (pieces : List (List ℕ)) where
    pub feeds-on : Waits (run (begin m) (had ++ piece))
        → fed_in_turn (suc n) (answered (run_held (first m) had) i) (piece ∷ pieces) ≡ fed_in_turn n (answered (run_held (first m) (had ++ piece)) count) pieces
    unfolding fed_in_turn
    feeds-on w = fed-piece (fed_in_turn n) pieces i ∙ on-waits (fed_in_turn n) piece pieces (run_held (first m) (had ++ piece)) count (rw (state-after m (had ++ piece) o) w)

    pub feeds-next : (c : Cursor) (k : Memory) → run (begin m) (had ++ piece) ≡ over (finished c k)
        → fed_in_turn (suc n) (answered (run_held (first m) had) i) (piece ∷ pieces)
        ≡ found_before (tree_read c.rows k ∷ []) (fed_in_turn n (answered (run_held (first k) []) 0) (drop count piece ∷ pieces))
    unfolding fed_in_turn
    feeds-next c k q =
        fed-piece (fed_in_turn n) pieces i ∙ on-finishes (fed_in_turn n) piece pieces (run_held (first m) (had ++ piece)) count c k (state-after m (had ++ piece) o ∙ q)
        ∙ ap (λ (f : Fed). found_before (tree_read c.rows k ∷ []) (fed_in_turn n f (drop count piece ∷ pieces))) (begin-first k)

    pub feeds-last : Last (run (begin m) (had ++ piece))
        → fed_in_turn (suc n) (answered (run_held (first m) had) i) (piece ∷ pieces) ≡ fed_findings [] (answered (run_held (first m) (had ++ piece)) count) (drop count piece ∷ pieces)
    unfolding fed_in_turn
    feeds-last w = fed-piece (fed_in_turn n) pieces i ∙ on-last (fed_in_turn n) piece pieces (run_held (first m) (had ++ piece)) count (rw (state-after m (had ++ piece) o) w)

  -- and what is left of the piece goes on where the order ended
  pub rest-is : (p : Order) (y : List ℕ) (c : Cursor) (k : Memory) (pieces : List (List ℕ)) → run (begin m) (had ++ piece) ≡ over (finished c k) → c.at ≡ p.size
      → had ++ (piece ++ joined pieces) ≡ order_bytes p ++ y → drop count piece ++ joined pieces ≡ y
  rest-is p y c k pieces q a e =
      let z : List ℕ = joined pieces in
      sym (drop-append-le count piece z count_most) ∙ sym (drop-append-add had (piece ++ z) count)
      ∙ ap (λ (n : ℕ). drop n (had ++ (piece ++ z))) (count-place c k q ∙ a ∙ order-size p)
      ∙ ap (drop (length (order_bytes p))) e ∙ drop-append_seam (order_bytes p) y

  -- in loans of the same lengths
  pub loans-last : (c : Cursor) (k : Memory) → run (begin m) (had ++ piece) ≡ over (finished c k) → lent_of k ≡ lent_of m
  unfolding end
  loans-last c k q = (finished-holds m (had ++ piece) c k (sym (feeding m (had ++ piece)) ∙ ap end q)).lends

-- what waits took all
pub all-taken : (m : Memory) (had : List ℕ) → Bytes had → Waits (run (begin m) had) → taken_by (first m) had ≡ length had
all-taken m had o w = waits-all (first m) had (rw (state-after m had o) w)
