-- Numbers that were stored one after the other.
use mathlib.Core.Path.{◌≡◌}
use mathlib.Core.List.{List, [], ◌∷◌}
use Prim.Native.Nat.{ℕ, suc, ◌+◌}
use native.Mathlib.Omega.{arith}
use lib.ListN.{set}
use lib.Seq.{sets}

pub five_stored : (l : List ℕ) (i a b c d e : ℕ)
    → set (set (set (set (set l i a) (i + 1) b) (i + 2) c) (i + 3) d) (i + 4) e ≡ sets l i (a ∷ b ∷ c ∷ d ∷ e ∷ [])
five_stored l i a b c d e =
    let p : i + 1 ≡ suc i = omega arith in
    let q : i + 2 ≡ suc (suc i) = omega arith in
    let r : i + 3 ≡ suc (suc (suc i)) = omega arith in
    let s : i + 4 ≡ suc (suc (suc (suc i))) = omega arith in
    rw (p, q, r, s)
