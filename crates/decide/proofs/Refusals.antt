-- A refusal as the definitions have it.
use mathlib.Core.Path.{◌≡◌, ap}
use Prim.Native.Nat.{ℕ}
use Rattle.format.specs.Decide.{stop}
use Rattle.format.specs.declared.Refusal.{Refusal}
use Rattle.decide.specs.Outcomes.{stopped}

pub stops : (A : Type 0) {r : Refusal} {n t p : ℕ} → r ≡ record { number = n; told = t; place = p } → stopped {A = A} r ≡ stop n t p
stops A e = ap (stopped {A = A}) e
