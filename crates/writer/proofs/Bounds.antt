-- What rows that are not refused have: numbers that can be written, and counts that are small.
use mathlib.Core.Path.{◌≡◌, refl, sym, ◌∙◌}
use mathlib.Core.Bool.{Bool, true, false, cond}
use mathlib.Core.List.{List, [], ◌∷◌}
use Prim.Native.Nat.{ℕ, suc, ◌+◌, ◌*◌, ◌^◌, ◌<◌, ◌≤◌}
use native.Mathlib.Omega.{arith}
use borrow.Author.Tests.{ltb-true}
use lib.Dec.{ltb}
use lib.ListN.{get_or}
use lib.Signed.{mag}
use Rattle.rows.specs.Memory.{row_width, memory, col_kind, col_number, col_count, col_count2, col_end, rows_in, col}
use Rattle.rows.specs.Kinds.{kind_integer, kind_object_vector, kind_dictionary}
use Rattle.wire.specs.Sign.{of_column}
use Rattle.format.specs.RowTest.{has_count2, children, number_writable}
use Rattle.format.proofs.Tested.{Row, tested-rows, walk-long}
use Rattle.format.proofs.Loans.{lent}
use Rattle.format.proofs.Unfolded.{column-small}
use Rattle.writer.specs.Pieces.{Fit, Of}
use Rattle.rows.specs.Memory.{rows_most}

-- a row with a kind is there
pub there : (R : List ℕ) (j : ℕ) → 0 < col R j col_kind → j < rows_in R
unfolding col
there R j h = by (ltb j (rows_in R)) refl h
  where
    by : (t : Bool) → ltb j (rows_in R) ≡ t → 0 < cond t (get_or R (j * row_width + col_kind) 0) 0 → j < rows_in R
    by true e h = ltb-true j (rows_in R) e
    by false e h = absurd (omega arith)

-- none of these numbers
abbrev pub Others : List ℕ → ℕ → Type 0
Others [] k = Unit
Others (c ∷ cs) k = Others cs k × (k ≡ c → ⊥)

module _ {R B : List ℕ} (fit : Fit R B) (j : ℕ) where
  pub row : 0 < col R j col_kind → Row R B j
  row h = (tested-rows R B fit.rows).1 j (there R j h)

  -- by the kind that the code reads
  module _ {k : ℕ} (e : k ≡ col R j col_kind) where
    kinded : {c : ℕ} → k ≡ c → col R j col_kind ≡ c
    kinded h = sym e ∙ h

  -- the number of a row of this kind
  module _ {k n : ℕ} (e : k ≡ col R j col_kind) (g : n ≡ col R j col_number) where
    pub integer-small : k ≡ kind_integer → mag (of_column n) < 2 ^ 28
    unfolding number_writable
    integer-small h =
        let i = kinded e h in
        rw g (column-small (col R j col_number) (rw i at (row (omega arith)).number))

  -- the values in a row are other rows
  few : 0 < col R j col_kind → suc j + children R j ≤ rows_most
  few h =
      omega (
        arith,
        walk-long R (col R j col_end) (suc j) (children R j) (row h).formed.closed,
        (row h).formed.end,
        (lent (memory R B [] [] [] []) fit.lent).rows,
      )

module _ {kind : ℕ} {R B : List ℕ} {j : ℕ} (of : Of kind R B j) {n : ℕ} (e : n ≡ col R j col_count) where
  -- of an array or an object
  pub two-few : {m : ℕ} → 0 < kind → has_count2 kind ≡ true → m ≡ col R j col_count2 → suc j + (n + m) ≤ rows_most
  unfolding children
  two-few {m} h t g =
      let i : col R j col_kind ≡ kind = of.is in
      let c : children R j ≡ n + m = rw (i, t, ← e, ← g) in
      omega (arith, few of.fit j (omega arith))

  pub vector-few : kind ≡ kind_object_vector → suc j + n ≤ rows_most
  unfolding children
  vector-few h =
      let i : col R j col_kind ≡ kind = of.is in
      let c : children R j ≡ n = rw (i, h, ← e) in
      omega (arith, few of.fit j (omega arith))

  pub dictionary-few : kind ≡ kind_dictionary → suc j + 2 * n ≤ rows_most
  unfolding children
  dictionary-few h =
      let i : col R j col_kind ≡ kind = of.is in
      let c : children R j ≡ 2 * n = rw (i, h, ← e) in
      omega (arith, few of.fit j (omega arith))
