-- Lists with some places set: which places stay, what stands in those that are set, and their parts.
use mathlib.Core.Path.{◌≡◌, refl, ◌∙◌}
use mathlib.Core.List.{List, [], ◌∷◌}
use mathlib.Core.Logic.{◌≢◌}
use Prim.Native.Nat.{ℕ, zero, suc, ◌+◌, ◌<◌, ◌≤◌}
use native.Mathlib.Omega.{arith}
use native.Mathlib.Decide.{dec_lt}
use lib.ListN.{length, get_or, take, drop, set, length-take, length-drop, length-set}
use lib.Seq.{get_or-take, get_or-drop, ext_get_or, get_or-set_same, get_or-set_other, sets}
use Rattle.format.specs.Unfold.{part}

-- the places below u stay
abbrev pub Kept : ℕ → List ℕ → List ℕ → Type 0
Kept u l l' = (i : ℕ) → i < u → get_or l' i 0 ≡ get_or l i 0

pub kept_set : (u i v : ℕ) (l : List ℕ) → u ≤ i → Kept u l (set l i v)
kept_set u i v l h j k = let d : j ≢ i = omega arith in simp get_or-set_other

pub kept_sets : (u i : ℕ) (vs l : List ℕ) → u ≤ i → Kept u l (sets l i vs)
kept_sets u i [] l h j k = refl
kept_sets u i (v ∷ vs) l h j k = kept_sets u (suc i) vs (set l i v) (omega arith) j k ∙ kept_set u i v l h j k

-- the places that are set
pub sets_in : (vs l : List ℕ) (i j k : ℕ) → j ≡ i + k → k < length vs → i + length vs ≤ length l → get_or (sets l i vs) j 0 ≡ get_or vs k 0
sets_in [] l i j k e b h = absurd (omega arith)
sets_in (v ∷ vs) l i j zero e b h =
    let q : j ≡ i = omega arith in
    let f : i < length l = omega arith in
    rw q (kept_sets (suc i) (suc i) vs (set l i v) (omega arith) i (omega arith) ∙ simp get_or-set_same)
sets_in (v ∷ vs) l i j (suc k) e b h = sets_in vs (set l i v) (suc i) j k (omega arith) (omega arith) (rw length-set (omega arith))

pub sets-at : (vs l : List ℕ) (i k : ℕ) → k < length vs → i + length vs ≤ length l → get_or (sets l i vs) (i + k) 0 ≡ get_or vs k 0
sets-at vs l i k h f = sets_in vs l i (i + k) k refl h f

pub part_length : (B : List ℕ) (b z : ℕ) → b + z ≤ length B → length (part B b z) ≡ z
unfolding part
part_length B b z h = simp (length-take, length-drop) (omega arith)

-- a part of the places that stay
pub part-kept : (u : ℕ) (B C : List ℕ) (b z : ℕ) → Kept u B C → u ≤ length B → u ≤ length C → b + z ≤ u → part C b z ≡ part B b z
unfolding part
part-kept u B C b z h f g k =
    ext_get_or 0 (take z (drop b C)) (take z (drop b B)) (simp (length-take, length-drop) (omega arith)) (λ i l.
    let j : i < z = (let q = l in omega (arith, length-take z (drop b C))) in
    rw (get_or-take z (drop b C) i 0 j, get_or-take z (drop b B) i 0 j, get_or-drop b C i 0, get_or-drop b B i 0) (h (b + i) (omega arith)))

-- entry i of n + 1 is an old one, or the last
pub last_or : (n i : ℕ) (P : ℕ → Type 0) → (i < n → P i) → P n → i < n + 1 → P i
last_or n i P old new h = elim (dec_lt i n) [ yes l ↦ old l | no l ↦ (let e : i ≡ n = omega arith in rw e new) ]
