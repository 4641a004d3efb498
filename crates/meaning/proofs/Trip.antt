-- The round trip: what an accepted writing wrote, a reading with loans that can hold the tree finishes on, takes whole, and unfolds to the same tree.
use mathlib.Core.Path.{◌≡◌, refl, ◌∙◌}
use mathlib.Core.Bool.{true}
use mathlib.Core.List.{List, ◌++◌}
use Prim.Native.Nat.{ℕ, ◌≤◌}
use native.Mathlib.Omega.{arith}
use native.Mathlib.Decide.{ℕ_discrete}
use lib.ListN.{length, take}
use Rattle.rows.specs.Memory.{Memory, fault_of, open_limit}
use Rattle.wire.proofs.Octets.{Bytes}
use Rattle.format.specs.Reading.{ResultOf, ok, Ended, reading}
use Rattle.format.specs.Standard.{Tables, Tree, encode}
use Rattle.format.specs.Unfold.{unfolded}
use Rattle.format.specs.Writing.{written, writing}
use Rattle.format.specs.Holds.{can_hold}
use Rattle.format.proofs.Tests.{clash}
use Rattle.meaning.proofs.Meaning.{Accord, reads, refuses, limited, reading_means}
use Rattle.meaning.proofs.Limits.{limit-most}
use Rattle.meaning.proofs.Parts.{depth}
use Rattle.meaning.proofs.Holds.{limit}
use Rattle.format.specs.Writable.{Writable}
use Rattle.meaning.proofs.Round.{standard-round}
use Rattle.format.proofs.Unfolded.{unfolded-fits}
use Rattle.meaning.proofs.Finishes.{Unlimited, reading_unlimited}
use Rattle.meaning.proofs.Writes.{accepted, reported}
use Rattle.format.specs.Claims.{Wide}
use Rattle.format.specs.Refusals as refusals
pub use Rattle.format.specs.Claims.{Returns}

is-limit : (n : ℕ) → refusals.too_deep ≤ n → n ≤ refusals.too_long → limit n ≡ true
is-limit n lo hi =
    elim (ℕ_discrete n 9) [
      | yes e ↦ rw e
      | no a ↦ elim (ℕ_discrete n 10) [
        | yes e ↦ rw e
        | no b ↦ let e : n ≡ refusals.too_long = omega arith in rw e
      ]
    ]

pub returns : {m₀ : Memory} {bs : List ℕ} {e : Ended} {y : ResultOf Tables ℕ Tree} → Accord m₀ bs e y → Unlimited e
    → (t' : Tree) (s' : Tables) (k : ℕ) (rest' : List ℕ) → y ≡ ok t' s' k rest' → Returns e k t'
returns (reads {c} {m} {t} {s} {rest} j w u v h) free t' s' k rest' q =
    let a : c.at ≡ k = cc in
    let b : t ≡ t' = cc in
    record { cursor = c; memory = m; finishes = refl; takes = a; unfolds = v ∙ b }
returns (refuses lo hi) free t' s' k rest' q = clash cc
returns (limited {n} l) free t' s' k rest' q = let (lo, hi) = limit-most l in let e = is-limit n lo hi in clash cc

-- a tree that can be written and does not nest too deep
pub tree_trip : (t : Tree) (m : Memory) → can_hold m t ≡ true → fault_of m ≡ 0 → Writable t → depth t ≤ open_limit → (rest : List ℕ) → Bytes (encode t ++ rest)
    → Returns (reading m (encode t ++ rest)) (length (encode t)) t
tree_trip t m h f w d rest b =
    let (s, q) = standard-round t w rest in
    returns (reading_means m (encode t ++ rest) b f) (reading_unlimited t m h f w d rest) t s (length (encode t)) rest q

-- the bytes that an accepted writing reports, with anything behind them
pub round_trip : (R B out P : List ℕ) (n : ℕ) → Wide R → writing R B out ≡ written n P
    → (m : Memory) → can_hold m (unfolded R B 0) ≡ true → fault_of m ≡ 0 → (rest : List ℕ) → Bytes (take n P ++ rest)
    → Returns (reading m (take n P ++ rest)) n (unfolded R B 0)
round_trip R B out P n wide e m h f rest b =
    let a = accepted R B out P n e in
    let same = (reported R B out P n a).0 in
    let w = unfolded-fits R B a.passes.lent a.passes.rows wide in
    rw (same, a.size) (tree_trip (unfolded R B 0) m h f w a.shallow rest (rw same at b))
