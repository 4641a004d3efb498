-- Tests: both cases of one, and what two joined say of each.
use mathlib.Core.Path.{◌≡◌, refl}
use mathlib.Core.Bool.{Bool, true, false, cond, not, ◌&&◌, ◌||◌}
use Prim.Native.Nat.{ℕ, suc, ◌-◌, ◌<◌}
use native.Mathlib.Omega.{arith}
use lib.Dec.{T, eqb}

pub on_bool : {X : Type 0} (t : Bool) → (t ≡ true → X) → (t ≡ false → X) → X
on_bool true f g = f refl
on_bool false f g = g refl

-- where what is known clashes: `clash cc`
pub clash : {X : Type 0} → ◌≡◌ {A = ℕ} 0 1 → X
clash e = absurd (omega arith)

pub is_true : (t : Bool) → T t → t ≡ true
is_true true h = refl
is_true false h = absurd h

pub both : (t u : Bool) → (t && u) ≡ true → (t ≡ true) × (u ≡ true)
both true u e = (refl, e)
both false u e = clash cc

pub neither : (t u : Bool) → (t || u) ≡ false → (t ≡ false) × (u ≡ false)
neither true u e = clash cc
neither false u e = (refl, e)

-- a flag as a number, and back
pub flag-back : (t : Bool) → not (eqb (cond t 1 0) 0) ≡ t
flag-back true = refl
flag-back false = refl

pub or_true : (t : Bool) → (t || true) ≡ true
or_true true = refl
or_true false = refl

-- one less is left
pub one_less : (n i : ℕ) → i < n → n - i ≡ suc (n - suc i)
one_less n i h = omega arith
