-- Orders one after the other: tables that the writer accepts, the bytes that it writes of them, and what readings find in such bytes joined together.
use Rattle.std.specs.Prelude.{Ok, ◌≡◌, true, List, [], ◌∷◌, ◌++◌, map, ℕ, zero, suc, take, drop}
use Rattle.rows.specs.Memory.{Memory}
use Rattle.wire.specs.Octets.{Bytes}
use Rattle.format.specs.declared.Answer.TheVariants.{Waiting, Finished, Refused}
use Rattle.format.specs.Standard.{Tree}
use Rattle.format.specs.Unfold.{unfolded}
use Rattle.format.specs.Holds.{can_hold}
use Rattle.format.specs.Answers.{Fed, fed, begin_call, Read, read, read_call, output, write_call}
use Rattle.format.specs.Claims.{joined, fed_by, tree_read, Wide}

-- ---- orders

-- a table of one tree that the writer accepts, as code has it: rows of 64-bit numbers and a store of bytes; the output before and after, and how many bytes it reports.
-- That it is one tree the writer tests itself: rows past row 0's end are 13
pub record Order : Type 0 where
  pub rows : List ℕ
  pub store : List ℕ
  pub out : List ℕ
  pub out_after : List ℕ
  pub size : ℕ
  pub wide : Wide rows
  pub octets : Bytes store
  pub accepted : write_call rows store out ≡ output (Ok size) out_after

-- the bytes that are reported
abbrev pub order_bytes : Order → List ℕ
order_bytes o = take o.size o.out_after

-- its unfolded tree; rows have no place column, and were there one a tree would not show it
abbrev pub order_tree : Order → Tree
order_tree o = unfolded o.rows o.store 0

-- the bytes of orders, back to back
abbrev pub back_to_back : List Order → List ℕ
back_to_back os = joined (map order_bytes os)

-- the loans can hold each of them
abbrev pub HoldsEach : Memory → List Order → Type 0
HoldsEach m [] = Unit
HoldsEach m (o ∷ os) = (can_hold m (order_tree o) ≡ true) × HoldsEach m os

-- ---- read in turn

-- what readings find: the bytes that each finished one took, its tree, and the bytes that none of them took
pub data Findings : Type 0 where
  findings : List (List ℕ) → List Tree → List ℕ → Findings

-- with what the first of them found
abbrev pub read_first : List ℕ → Tree → Findings → Findings
read_first bytes t (findings taken trees left) = findings (bytes ∷ taken) (t ∷ trees) left

-- after a finished reading comes the next one, behind the bytes that it took and in the loans as it left them; a refused one is the last, and a read never waits
abbrev pub after_read : (Memory → List ℕ → Findings) → List ℕ → Read → Findings
after_read next message (read (Finished rows bytes taken) m) = read_first (take taken message) (tree_read rows m) (next m (drop taken message))
after_read next message (read (Refused number told place taken) m) = findings [] [] message
after_read next message (read (Waiting taken) m) = findings [] [] message

-- at most so many readings
unfoldable pub read_in_turn : ℕ → Memory → List ℕ → Findings
read_in_turn zero m message = findings [] [] message
read_in_turn (suc n) m message = after_read (read_in_turn n) message (read_call m message)

-- ---- fed in turn

-- what feeds find: the trees, the last answer with its state and loans, and what was not taken, in its pieces
pub data FedFindings : Type 0 where
  fed_findings : List Tree → Fed → List (List ℕ) → FedFindings

-- trees that were found before
abbrev pub found_before : List Tree → FedFindings → FedFindings
found_before before (fed_findings trees f left) = fed_findings (before ++ trees) f left

-- what waits gets the next piece; after a finished reading another is begun, in the loans as it left them, and gets the rest of the piece; a refused one is the last
abbrev pub after_feed : (Fed → List (List ℕ) → FedFindings) → List ℕ → List (List ℕ) → Fed → FedFindings
after_feed next piece pieces (fed (Waiting taken) state m) = next (fed (Waiting taken) state m) pieces
after_feed next piece pieces (fed (Finished rows bytes taken) state m) = found_before (tree_read rows m ∷ []) (next (begin_call m) (drop taken piece ∷ pieces))
after_feed next piece pieces (fed (Refused number told place taken) state m) = fed_findings [] (fed (Refused number told place taken) state m) (drop taken piece ∷ pieces)

-- at most so many feeds
unfoldable pub fed_in_turn : ℕ → Fed → List (List ℕ) → FedFindings
fed_in_turn zero f pieces = fed_findings [] f pieces
fed_in_turn (suc n) f [] = fed_findings [] f []
fed_in_turn (suc n) f (piece ∷ pieces) = after_feed (fed_in_turn n) piece pieces (fed_by f piece)
