-- Room for k bytes at a place: the test on it, and what it says of bytes that are to be put there.
use Rattle.std.proofs.Common.{Some, None}
use mathlib.Core.Path.{◌≡◌, sym, ◌∙◌}
use mathlib.Core.Bool.{Bool, true, false}
use mathlib.Core.List.{List, append_assoc}
use Prim.Native.Nat.{ℕ, ◌+◌, ◌-◌, ◌≤◌}
use native.Mathlib.Omega.{arith}
use native.Mathlib.Decide.{dec_le}
use borrow.Author.Tests.{leb-true, le-leb, lt-leb}
use lib.Dec.{leb}
use lib.ListN.{length}
use lib.Seq.{drop-drop}
use borrow.Rule.Slice.PartMut.{put_mid}
use Rattle.std.proofs.lemmas.List.Edits.{sets, sets-eq}
use Rattle.wire.specs.Put.{with1, put_at}

-- the test, without a sum
pub behind : (len at k : ℕ) → at ≤ len → leb k (len - at) ≡ leb (at + k) len
behind len at k h =
    elim (dec_le (at + k) len) [
      | yes a ↦ le-leb k (len - at) (omega arith) ∙ sym (le-leb (at + k) len a)
      | no a ↦ lt-leb k (len - at) (omega arith) ∙ sym (lt-leb (at + k) len (omega arith))
    ]

-- a part of the output after a copy into it
pub put_part : (at k : ℕ) (out bytes : List ℕ) → length bytes ≡ k → at + k ≤ length out → put_mid at (at + k - at) out bytes ≡ sets out at bytes
put_part at k out bytes l h =
    let e : at + k - at ≡ length bytes = omega arith in
    rw (e, sets-eq bytes out at (omega arith), append_assoc, drop-drop)

module _ (k at : ℕ) (s : List ℕ) {r : Bool} (e : r ≡ leb (at + k) (length s)) where
  pub room : r ≡ true → at + k ≤ length s
  room t = leb-true (at + k) (length s) (sym e ∙ t)

  module _ (bytes : List ℕ) (l : length bytes ≡ k) where
    pub put_whole : {left : List ℕ} → r ≡ true → left ≡ sets s at bytes → with1 (Some (at + k)) left ≡ put_at s at bytes
    unfolding put_at
    put_whole t p = rw (l, ← e, t, p)

    pub put_full : r ≡ false → with1 None s ≡ put_at s at bytes
    unfolding put_at
    put_full t = rw (l, ← e, t)
