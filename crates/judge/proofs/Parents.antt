-- Which row gives a row its key: where the rows before row i close, row i is the root or a child of an earlier row, and what that gives is what it is given.
use mathlib.Core.Path.{◌≡◌, refl, sym, ◌∙◌}
use mathlib.Core.List.{List}
use Prim.Native.Nat.{ℕ, suc, ◌<◌}
use native.Mathlib.Omega.{arith}
use native.Mathlib.Decide.{ℕ_discrete}
use Rattle.rows.specs.Memory.{col_end, col}
use Rattle.format.specs.Unfold.{after}
use Rattle.format.specs.RowTest.{children, Given, keyless, gives, parent_in, given}
use Rattle.format.proofs.Tested.{Shut, parent, child-given}

-- row k is given g by the first i rows: as the root, or as child number j of row p
pub data Gets (R : List ℕ) (i k : ℕ) (g : Given) : Type 0 where
  root : k ≡ 0 → g ≡ keyless → Gets R i k g
  child : (p j : ℕ) → p < i → j < children R p → after R (suc p) j ≡ k → g ≡ gives R p j → Gets R i k g

module _ (R : List ℕ) (i : ℕ) (closed : Shut R i) where
  -- ---- what a parent gives is what is given

  pub only : (g : Given) → Gets R i i g → given R i ≡ g
  unfolding given parent_in
  only g (root e f) = rw e (sym f)
  only g (child p j l h q f) = child-given R i closed p j l h q ∙ sym f

  -- ---- and there is a parent

  pub some : i < col R 0 col_end → (g : Given) × Gets R i i g
  some h =
      elim (ℕ_discrete i 0) [
        | yes e ↦ (keyless, root e refl)
        | no e ↦
            let r = parent R i 0 i (omega arith) closed (omega arith) h in
            (gives R r.row r.number, child r.row r.number r.before r.few r.is refl)
      ]
