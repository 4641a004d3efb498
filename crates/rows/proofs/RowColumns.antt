-- A row stored column by column, and a column past the end.
use mathlib.Core.Path.{◌≡◌, sym}
use mathlib.Core.List.{List}
use Prim.Native.Nat.{ℕ, suc, ◌+◌, ◌*◌, ◌-◌, ◌<◌, ◌≤◌}
use native.Mathlib.Omega.{arith}
use borrow.Author.Tests.{lt-ltb}
use lib.ListN.{length, set, get_or-eq_default}
use Rattle.rows.specs.Memory.{row_width, rows_in, col, put_row}
use Rattle.rows.specs.declared.Row.{Row}

pub row-stored : (R : List ℕ) (row : ℕ) (v : Row) → row < rows_in R
    → (let i = row * row_width in set
    (set (set (set (set (set (set
    (set (set (set (set (set (R) (i) v.kind) (i + 1) v.key.mark) (i + 2) v.key.begin) (i + 3) v.key.size) (i + 4) v.body.begin) (i + 5)
    v.body.size) (i + 6) v.class) (i + 7) v.flag) (i + 8) v.number) (i + 9) v.count) (i + 10) v.count2) (i + 11) v.end) ≡ put_row R row v
unfolding put_row
row-stored R row v h =
    let i : ℕ = row * row_width in
    let e1 : i + 1 ≡ suc (i) = omega arith in
    let e2 : i + 2 ≡ suc (suc (i)) = omega arith in
    let e3 : i + 3 ≡ suc (suc (suc (i))) = omega arith in
    let e4 : i + 4 ≡ suc (suc (suc (suc (i)))) = omega arith in
    let e5 : i + 5 ≡ suc (suc (suc (suc (suc (i))))) = omega arith in
    let e6 : i + 6 ≡ suc (suc (suc (suc (suc (suc (i)))))) = omega arith in
    let e7 : i + 7 ≡ suc (suc (suc (suc (suc (suc (suc (i))))))) = omega arith in
    let e8 : i + 8 ≡ suc (suc (suc (suc (suc (suc (suc (suc (i)))))))) = omega arith in
    let e9 : i + 9 ≡ suc (suc (suc (suc (suc (suc (suc (suc (suc (i))))))))) = omega arith in
    let e10 : i + 10 ≡ suc (suc (suc (suc (suc (suc (suc (suc (suc (suc (i)))))))))) = omega arith in
    let e11 : i + 11 ≡ suc (suc (suc (suc (suc (suc (suc (suc (suc (suc (suc (i))))))))))) = omega arith in
    rw (lt-ltb _ _ h, e1, e2, e3, e4, e5, e6, e7, e8, e9, e10, e11)

pub col-past : (R : List ℕ) (row c : ℕ) → row < rows_in R → length R - row * row_width ≤ c → 0 ≡ col R row c
unfolding col
col-past R row c h l = sym (rw (lt-ltb row (rows_in R) h) (get_or-eq_default R 0 {n = row * row_width + c} (omega arith)))
