-- The test by the tables answers as the ladder that was before it, on every list and from every state.
use mathlib.Core.Path.{◌≡◌, refl, ap, sym, ◌∙◌}
use mathlib.Core.List.{List, [], ◌∷◌, ◌++◌}
use Prim.Native.Nat.{ℕ}
use lib.Dec.{eqb}
use Rattle.utf8.specs.Grammar.{valid_text}
use Rattle.utf8.specs.States.{step_of, fold_of, fold_by}
use Rattle.utf8.specs.Tables.{table_step, table_fold, table_valid}
use Rattle.utf8.specs.Ladder.{ladder_step, ladder_fold, ladder_valid}
use Rattle.utf8.proofs.Fold.{fold_valid}
use Rattle.utf8.proofs.Moves.{move_rule}
use Rattle.utf8.proofs.Ladder.{ladder_rule}

-- the state goes across pieces, whatever the step
pub pieces-by : (step : ℕ → ℕ → ℕ) (k : ℕ) (s t : List ℕ) → fold_by step k (s ++ t) ≡ fold_by step (fold_by step k s) t
unfolding fold_by
pieces-by step k [] t = refl
pieces-by step k (b ∷ s) t = pieces-by step (step k b) s t

-- a step that is the grammar's folds as the grammar's
fold_alike : (step : ℕ → ℕ → ℕ) → ((k b : ℕ) → step k b ≡ step_of k b) → (k : ℕ) (s : List ℕ) → fold_by step k s ≡ fold_of k s
unfolding fold_by fold_of
fold_alike step e k [] = refl
fold_alike step e k (b ∷ s) = ap (λ (x : ℕ). fold_by step x s) (e k b) ∙ fold_alike step e (step_of k b) s

pub table-fold : (k : ℕ) (s : List ℕ) → table_fold k s ≡ fold_of k s
table-fold = fold_alike table_step move_rule

pub table-valid : (s : List ℕ) → table_valid s ≡ valid_text s
table-valid s = ap (λ (k : ℕ). eqb k 0) (table-fold 0 s) ∙ fold_valid s

-- the state after a piece, from every state
pub as_before : (k : ℕ) (s : List ℕ) → table_fold k s ≡ ladder_fold k s
as_before k s = table-fold k s ∙ sym (fold_alike ladder_step ladder_rule k s)

-- and so the verdict
pub valid-as-before : (s : List ℕ) → table_valid s ≡ ladder_valid s
valid-as-before s = ap (λ (k : ℕ). eqb k 0) (as_before 0 s)

-- in pieces too: what the tables say after the second is what the ladder says of both
pub pieces-as-before : (s t : List ℕ) → eqb (table_fold (table_fold 0 s) t) 0 ≡ ladder_valid (s ++ t)
pieces-as-before s t = ap (λ (k : ℕ). eqb k 0) (sym (pieces-by table_step 0 s t) ∙ as_before 0 (s ++ t))
