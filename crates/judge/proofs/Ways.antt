-- A law for each way through the two loops: what was tested and called on it, and the answer of the walk and of the pass there.
use mathlib.Core.Path.{◌≡◌, refl}
use mathlib.Core.Bool.{Bool, true, false, cond, ◌&&◌}
use mathlib.Core.List.{List}
use mathlib.Core.Logic.{◌≢◌}
use Prim.Native.Nat.{ℕ, suc, ◌+◌, ◌-◌, ◌<◌, ◌≤◌}
use native.Mathlib.Numerals.{add-one}
use native.Mathlib.Omega.{arith}
use borrow.Author.Tests.{eq-eqb, ne_eqb}
use lib.Dec.{eqb, ltb, leb}
use Rattle.std.specs.Prelude.{Some, None}
use Rattle.std.specs.Bool.{then_some}
use Rattle.rows.specs.Memory.{col_kind, col_count, col_end, rows_in, col}
use Rattle.format.specs.RowTest.{children, keyless, fine, faulty, tested}
use Rattle.judge.specs.declared.Least.{Least}
use Rattle.judge.specs.Pass.{row_fits, row_writable, capped, gives_by, least, with_row, walk, walk_of, pass, passed}
use Rattle.judge.proofs.Leasts.{walk-capped}
use Rattle.judge.proofs.Passing.{fits-ends, passed_is}
use Rattle.judge.proofs.Texts.{fresh_valid, last-key-valid, last-body-valid}
use Rattle.format.proofs.Tests.{one_less}

-- ---- a loop of which i of n turns are done

none_left : (n i : ℕ) → n ≤ i → n - i ≡ 0
none_left n i h = omega arith

-- ---- the children

pub walk_start : (R : List ℕ) (i : ℕ) (l : Least) {kind count stop n : ℕ} → kind ≡ col R i col_kind → count ≡ col R i col_count → stop ≡ col R i col_end
    → n ≡ capped (rows_in R) (children R i) → col R i col_end ≤ rows_in R → walk R kind count stop (i + 1) 0 (n - 0) l ≡ walk_of R i l
unfolding walk_of
walk_start R i l {n = n} a b c d h =
    let p : n - 0 ≡ n = omega arith in
    rw (p, a, b, c, d, add-one i)
    (walk-capped R (col R i col_kind) (col R i col_count) (col R i col_end) (suc i) 0 (children R i) l (rows_in R) (omega arith) h)

module _ (R : List ℕ) (kind count stop k j n : ℕ) (l : Least) where
  pub walk_end : n ≤ j → walk R kind count stop k j (n - j) l ≡ then_some (eqb k stop) l
  unfolding walk
  walk_end h = rw (none_left n j h) (by (eqb k stop))
    where
      by : (b : Bool) → cond b (Some l) None ≡ then_some b l
      by true = refl
      by false = refl

  pub walk_more : j < n → walk R kind count stop k j (n - j) l
      ≡ cond (ltb k (col R k col_end) && leb (col R k col_end) stop)
      (walk R kind count stop (col R k col_end) (j + 1) (n - (j + 1)) (with_row R k (gives_by kind count j) l)) None
  unfolding walk
  walk_more h = rw (one_less n j h, add-one j)

pub ruleset walking = (walk_start, walk_end, walk_more)

-- ---- all rows

module _ (R B : List ℕ) where
  pub none_passes : rows_in R ≡ 0 → tested R B ≡ faulty 13 0
  unfolding tested
  none_passes h = rw (eq-eqb (rows_in R) 0 h)

  pub pass-start : rows_in R ≢ 0 → pass R B 0 (rows_in R - 0) (with_row R 0 keyless (least (rows_in R) (rows_in R))) ≡ tested R B
  unfolding passed
  pass-start h =
      let p : rows_in R - 0 ≡ rows_in R = omega arith in
      rw p (rw (ne_eqb (rows_in R) 0 h) at (passed_is R B))

  module _ (i n : ℕ) (l : Least) where
    pub pass-end : n ≤ i → pass R B i (n - i) l ≡ fine
    unfolding pass
    pass-end h = rw (none_left n i h)

    module _ (h : i < n) where
      pub pass_wrong : l.wrong ≡ i → pass R B i (n - i) l ≡ faulty 13 i
      unfolding pass
      pass_wrong q = rw (one_less n i h, eq-eqb l.wrong i q)

      module _ (q : l.wrong ≢ i) where
        pub pass-unfit : row_fits R B i ≡ false → pass R B i (n - i) l ≡ faulty 13 i
        unfolding pass
        pass-unfit f = rw (one_less n i h, ne_eqb l.wrong i q, f)

        module _ (f : row_fits R B i ≡ true) where
          pub pass-astray : walk_of R i l ≡ None → pass R B i (n - i) l ≡ faulty 13 i
          unfolding pass
          pass-astray a = rw (one_less n i h, ne_eqb l.wrong i q, f, a)

          module _ (m : Least) (a : walk_of R i l ≡ Some m) where
            pub pass-empty : l.empty ≡ i → pass R B i (n - i) l ≡ faulty 14 i
            unfolding pass
            pass-empty z = rw (one_less n i h, ne_eqb l.wrong i q, f, a, eq-eqb l.empty i z)

            module _ (z : l.empty ≢ i) where
              pub pass-unwritable : row_writable R B i ≡ false → pass R B i (n - i) l ≡ faulty 14 i
              unfolding pass
              pass-unwritable g = rw (one_less n i h, ne_eqb l.wrong i q, f, a, ne_eqb l.empty i z, g)

              pub pass-more : row_writable R B i ≡ true → pass R B i (n - i) l ≡ pass R B (i + 1) (n - (i + 1)) m
              unfolding pass
              pass-more g = rw (one_less n i h, ne_eqb l.wrong i q, f, a, ne_eqb l.empty i z, g, add-one i)

pub ruleset passing = (
  none_passes,
  pass-start,
  pass-end,
  pass_wrong,
  pass-unfit,
  pass-astray,
  pass-empty,
  pass-unwritable,
  pass-more,
  fits-ends,
  fresh_valid,
  last-key-valid,
  last-body-valid,
)
