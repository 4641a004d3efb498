-- The whole writing, by what the loans, the rows, the measure and the real run say.
use mathlib.Core.Path.{◌≡◌, refl, ◌∙◌}
use mathlib.Core.Bool.{true, false}
use mathlib.Core.List.{List}
use Prim.Native.Nat.{ℕ, zero, suc}
use native.Mathlib.Omega.{arith}
use borrow.Author.Tests.{ne_eqb}
use Rattle.std.specs.Prelude.{Result, Ok, Err, Some, None}
use Rattle.rows.specs.Memory.{open_limit, rows_fault}
use Rattle.rows.specs.Lent.{named_loan}
use Rattle.rows.specs.declared.lent.Table.{Table}
use Rattle.format.specs.declared.Refusal.{Refusal}
use Rattle.format.specs.RowTest.{tested, faulty}
use Rattle.format.specs.Writing.{settle, writing}
use Rattle.format.specs.Answers.{output, written_of, refusal_of, write_call}
use Rattle.format.proofs.Tested.{tested-rows}
use Rattle.writer.specs.declared.Stop.{Stop}
use Rattle.writer.specs.Run.{ran, run, refusal_at}
use Rattle.writer.specs.Pieces.{Fit, value_at}
use Rattle.writer.proofs.Settling.{settle-stop, settle-written}
use Rattle.writer.proofs.Levels.{emit-levels}

-- what the fault of the loans tells
named : (n : ℕ) {loan : ℕ} → Some loan ≡ named_loan n → (n ≡ loan) × (n ≡ 0 → ⊥)
named zero e = absurd (cc)
named (suc n) {loan} e =
    let q : Some loan ≡ Some (suc n) = rw (ne_eqb (suc n) 0 (λ z. omega arith)) at e in
    (cc, λ z. omega arith)

pub lent-well : (n : ℕ) → None ≡ named_loan n → n ≡ 0
lent-well zero e = refl
lent-well (suc n) e =
    let q : None ≡ Some (suc n) = rw (ne_eqb (suc n) 0 (λ z. omega arith)) at e in cc

module _ (R B O : List ℕ) where
  -- refusal 1, and refusals 13 and 14
  refused : (n : ℕ) → n ≡ rows_fault R B → (n ≡ 0 → ⊥) → output (Err (refusal_of 1 n 0)) O ≡ write_call R B O
  unfolding write_call writing
  refused zero e f = absurd (f refl)
  refused (suc n) e f = rw (← e)

  pub lent-not : {loan : ℕ} → Some loan ≡ named_loan (rows_fault R B) → output (Err (refusal_of 1 loan 0)) O ≡ write_call R B O
  lent-not {loan} e =
      let (a, b) = named (rows_fault R B) e in
      rw (← a) (refused (rows_fault R B) refl b)

  pub rows-not : {n row : ℕ} → rows_fault R B ≡ 0 → tested R B ≡ faulty n row → output (Err (refusal_of n row 0)) O ≡ write_call R B O
  unfolding write_call writing
  rows-not e g = rw (e, g)

  -- the others are told by a run of row 0
  module _ (fit : Fit R B) where
    settled : written_of (settle (value_at open_limit R B 0) O) ≡ write_call R B O
    unfolding write_call writing
    settled = rw (fit.lent, fit.rows, emit-levels R B fit.rows open_limit 0 (tested-rows R B fit.rows).0)

    pub measure_not : {e : Stop} {a : ℕ} {r : Refusal} {P Q : List ℕ}
        → ran (Err e) a P ≡ run true (value_at open_limit R B 0) 0 O → r ≡ refusal_at e a → Q ≡ P
        → output (Err r) Q ≡ write_call R B O
    measure_not d g h = rw (g, h) (settle-stop (value_at open_limit R B 0) O d ∙ settled)

    -- the real run is of the same rows, and what it leaves is the output
    pub written_is : {u : Unit {0}} {n b : ℕ} {w : Result (Unit {0}) Stop} {P Q S : List ℕ} {t t' : Table}
        → ran (Ok u) n P ≡ run true (value_at open_limit R B 0) 0 O → t.rows.now ≡ R → t.store.now ≡ B → t' ≡ t
        → ran w b Q ≡ run false (value_at open_limit t'.rows.now t'.store.now 0) 0 P → S ≡ Q → output (Ok n) S ≡ write_call R B O
    written_is d e f g r h = rw h (settle-written (value_at open_limit R B 0) O d (rw (g, e, f) at r) ∙ settled)
