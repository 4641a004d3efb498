-- Enough is enough: what the standard finishes, within the two limits, and the loans can hold unfolded, a reading finishes; whatever the message, with references and long forms too.
use mathlib.Core.Path.{◌≡◌, refl}
use mathlib.Core.Bool.{true}
use mathlib.Core.List.{List}
use Prim.Native.Nat.{ℕ, suc, ◌+◌, ◌-◌, ◌≤◌}
use native.Mathlib.Omega.{arith}
use lib.ListN.{length, length-replicate}
use Rattle.rows.specs.Memory.{Memory, message_limit, open_limit, no_key, fresh, zeros, zeroed, fault_of}
use Rattle.wire.proofs.Octets.{Bytes}
use Rattle.format.specs.Reading.{ok, bad, Result, ended, reading, value}
use Rattle.format.specs.Standard.{Tables, Tree, no_tables, standard}
use Rattle.format.specs.Holds.{of_tree, nothing, can_hold}
use Rattle.meaning.proofs.Meaning.{reading_means}
use Rattle.meaning.proofs.Parts.{depth}
use Rattle.meaning.proofs.Size.{holds}
use Rattle.meaning.proofs.Fuel.{value-takes}
use Rattle.meaning.proofs.Holds.{Fits}
use Rattle.meaning.proofs.Finishes.{Unlimited}
use Rattle.promises.proofs.Fares.{Small, Nice, Paid}
use Rattle.promises.proofs.Spends.{Both}
use Rattle.promises.proofs.Afford.{Deep, pays-value}
use Rattle.promises.proofs.Brief.{held-brief}
use Rattle.meaning.proofs.Trip.{Returns, returns}

module _ (m : Memory) (bs : List ℕ) (t : Tree) (s : Tables) (p : ℕ) (rest : List ℕ) (says : standard bs ≡ ok t s p rest) (can : can_hold m t ≡ true)
    (short : p ≤ message_limit) where
  lengths : (l : List ℕ) → length (zeros l) ≡ length l
  lengths l = length-replicate (length l) 0

  placed : p + length rest ≡ 0 + length bs
  unfolding standard
  placed = rw says at ((value-takes (suc (length bs)) (suc (length bs))).level no_tables 0 bs)

  inside : Fits 0 nothing (zeroed m) fresh
  inside = omega arith

  fits : Fits (length bs - length rest) (of_tree t) (zeroed m) fresh
  unfolding zeroed
  fits =
      let h = holds m t can in
      let l = placed in
      omega (
        arith,
        lengths m.rows,
        lengths m.store,
        lengths m.strings,
        lengths m.objects,
        lengths m.traits,
        lengths m.names,
      )

  small : Small (zeroed m) fresh no_tables
  small =
      record {
        inside = inside;
        texts = refl;
        sizes = λ i l. absurd (omega arith);
        kinds = refl;
        marks = λ i l. absurd (omega arith);
        counts = λ i l. absurd (omega arith);
      }

  paid : Paid of_tree (Deep open_limit) Both (length bs) (zeroed m) fresh (value open_limit no_key (zeroed m) fresh bs) (ok t s p rest)
  unfolding standard
  paid = rw says at ((pays-value open_limit (suc (length bs)) (suc (length bs)) no_key).pays (length bs) (zeroed m) fresh 0 (zeroed m) fresh no_tables 0 bs
      (λ l x f. omega arith) (omega arith) small)

  -- no loan and no limit ends it
  pub never-limited : fault_of m ≡ 0 → depth t ≤ open_limit → Unlimited (reading m bs)
  unfolding reading ended
  never-limited fault d = rw fault (end (value open_limit no_key (zeroed m) fresh bs) (paid fits d))
    where
      end : (r : Result Unit) → Nice (λ a. Both a t) (length bs - length rest) (of_tree t) (zeroed m) fresh s rest r → Unlimited (ended r)
      end (ok a m' c bs) k = tt
      end (bad number told place m') k = k

-- the theorem
pub enough : (m : Memory) (bs : List ℕ) → Bytes bs → fault_of m ≡ 0 → (t : Tree) (s : Tables) (p : ℕ) (rest : List ℕ) → standard bs ≡ ok t s p rest
    → can_hold m t ≡ true → depth t ≤ open_limit → p ≤ message_limit → Returns (reading m bs) p t
enough m bs b fault t s p rest says can deep short =
    returns (reading_means m bs b fault) (never-limited m bs t s p rest says can short fault deep) t s p rest says

-- the same with nothing asked of the message's length: what the loans can hold is never longer than the limit
pub enough-held : (m : Memory) (bs : List ℕ) → Bytes bs → fault_of m ≡ 0 → (t : Tree) (s : Tables) (p : ℕ) (rest : List ℕ) → standard bs ≡ ok t s p rest
    → can_hold m t ≡ true → depth t ≤ open_limit → Returns (reading m bs) p t
enough-held m bs b fault t s p rest says can deep = enough m bs b fault t s p rest says can deep (held-brief m fault bs t s p rest says can)
