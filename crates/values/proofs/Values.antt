-- A value by its marker's byte, and an object's members by the names and the dynamic mark of its trait.
use mathlib.Core.Path.{◌≡◌, refl}
use Prim.Native.Nat.{ℕ, zero, suc, ◌-◌, ◌^◌, ◌<◌}
use native.Mathlib.Numerals.{sub-one}
use native.Mathlib.Omega.{arith}
use Rattle.std.specs.Prelude.{Option, Some, None, Result as Answer, Ok, Err, IfSome}
use Rattle.rows.specs.declared.Key.{Key}
use Rattle.rows.specs.Memory.{no_key, col_count2}
use Rattle.format.specs.declared.Refusal.{Refusal}
use Rattle.format.specs.Decide.{lost, on_rows, marker, kind_of}
use Rattle.format.specs.Reading.{Values, by, byte, ret, pairs, dynamics, marked}
use Rattle.format.specs.Reading as r
use Rattle.format.specs.Refusals as refusals
use Rattle.scan.specs.declared.Reading.{Reading}
use Rattle.scan.specs.Reads.{result, cleared, reads, Reads}
use Rattle.scan.proofs.Laws.{then, fails, given, same}

-- the default of a key is none
pub is-no-key : (k : Key) → (k.mark ≡ 0) × ((k.begin ≡ 0) × (k.size ≡ 0)) → k ≡ no_key
is-no-key k e = λ i. record { mark = e.0 i; begin = e.1.0 i; size = e.1.1 i }

-- an option that is no Some
pub none-of : {A : Type 0} (o : Option A) → ((a : A) → o ≡ Some a → ⊥) → o ≡ None
none-of None h = refl
none-of (Some a) h = absurd (h a refl)

pub below-size : (o : Option ℕ) {n : ℕ} → o ≡ Some n → IfSome o (λ n. n < 2 ^ 29) → n < 2 ^ 29
below-size o e h = rw e at h

-- the state doesn't hold together
lose : {A : Type 0} (g : Reading) (x : Refusal) → x ≡ record { number = refusals.lost; told = 0; place = 0 } → Reads {A = A} (Err x) g g (by (λ m c. lost))
unfolding result reads cleared
lose g x e = rw e (record { read = refl; same = same g })

-- ---- members

module _ (value : Values) (row : ℕ) {g g' : Reading} {y : Answer Unit Refusal} where
  pub dynamics-none : (n : ℕ) → n ≡ 0 → Reads y g g' (ret tt) → Reads y g g' (dynamics value row n)
  unfolding dynamics
  dynamics-none n e q = rw e q

  pub dynamics-some : (n : ℕ) → (n ≡ 0 → ⊥) → Reads y g g' (pairs value row col_count2 0) → Reads y g g' (dynamics value row n)
  unfolding dynamics
  dynamics-some zero e q = absurd (e refl)
  dynamics-some (suc n) e q = q

-- ---- values

module _ (k : Key) {g g₁ : Reading} where
  -- no byte is left
  pub value-short : (left : ℕ) {x : Refusal} → Reads {A = ℕ} (Err x) g g₁ byte → Reads (Err x) g g₁ (r.value left k)
  unfolding r.value
  value-short zero q = fails _ _ q
  value-short (suc left) q = fails _ _ q

  module _ {b : ℕ} (q : Reads (Ok b) g g₁ byte) {g₂ : Reading} where
    -- the marker is refused
    pub value-marker : (left : ℕ) {x : Refusal} → Reads {A = ℕ} (Err x) g₁ g₂ (by (on_rows (marker k left b))) → Reads (Err x) g g₂ (r.value left k)
    unfolding r.value
    value-marker zero p = then _ _ q (fails _ _ p)
    value-marker (suc left) p = then _ _ q (fails _ _ p)

    pub value-deep : (left : ℕ) {row : ℕ} {x : Refusal} → Reads (Ok row) g₁ g₂ (by (on_rows (marker k left b))) → left ≡ 0
        → x ≡ record { number = refusals.lost; told = 0; place = 0 } → Reads (Err x) g g₂ (r.value left k)
    unfolding r.value
    value-deep zero p z e = then _ _ q (then _ _ p (lose _ _ e))
    value-deep (suc left) p z e = absurd (omega arith)

    pub value-marked : (left : ℕ) {row : ℕ} {g₃ : Reading} {y : Answer Unit Refusal} → Reads (Ok row) g₁ g₂ (by (on_rows (marker k left b))) → (left ≡ 0 → ⊥)
        → Reads y g₂ g₃ (marked (r.value (left - 1)) row (kind_of b)) → Reads y g g₃ (r.value left k)
    unfolding r.value
    value-marked zero p z w = absurd (z refl)
    value-marked (suc left) p z w = then _ _ q (then _ _ p (rw sub-one at w))
