-- Which row a test of rows tells: the first that doesn't pass, by 13 before 14.
use mathlib.Core.Path.{◌≡◌}
use mathlib.Core.Bool.{false}
use mathlib.Core.List.{List}
use Prim.Native.Nat.{ℕ, zero, suc, ◌+◌, ◌<◌}
use native.Mathlib.Omega.{arith}
use borrow.Author.Tests.{eqb-true}
use lib.Dec.{eqb}
use Rattle.rows.specs.Memory.{rows_in}
use Rattle.format.specs.RowTest.{well_formed, writable, test_from, tested}
use Rattle.format.specs.Endings.{RowPasses, AllPass, TestSays, all_pass, no_rows, first_malformed, first_unwritable}
use Rattle.format.proofs.Tests.{on_bool, clash}
use Rattle.format.proofs.Lists.{last_or}
use Rattle.format.proofs.Faults.{malformed, well-formed, unwritable, can_write}

module _ (R B : List ℕ) where
  -- n rows from row i, where those before it pass
  from-says : (i n : ℕ) → i + n ≡ rows_in R → 0 < rows_in R → AllPass R B i → TestSays R B (test_from R B i n)
  unfolding test_from
  from-says i zero e l h = all_pass l (λ j k. h j (omega arith))
  from-says i (suc n) e l h =
      on_bool (well_formed R B i)
      (λ w. rw w (on_bool (writable R B i)
      (λ v. rw v (from-says (suc i) n (omega arith) l (λ j k. last_or i j (λ (j : ℕ). RowPasses R B j) (h j) (well-formed R B i w, can_write R B i v) (omega arith))))
      (λ v. rw v (first_unwritable {i = i} (omega arith) h (well-formed R B i w) (unwritable R B i v)))))
      (λ w. rw w (first_malformed {i = i} (omega arith) h (malformed R B i w)))

  -- all rows
  pub test-says : TestSays R B (tested R B)
  unfolding tested
  test-says =
      on_bool (eqb (rows_in R) 0) (λ e. rw e (no_rows (eqb-true (rows_in R) 0 e)))
      (λ e. rw e (from-says 0 (rows_in R) (omega arith) (some (rows_in R) e) (λ j k. absurd (omega arith))))
    where
      some : (n : ℕ) → eqb n 0 ≡ false → 0 < n
      some zero e = clash cc
      some (suc n) e = omega arith
