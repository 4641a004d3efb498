-- A used row has its number.
use native.Mathlib.Omega.{arith}
use mathlib.Core.Path.{sym, ◌∙◌}
use lib.ListN.{length, length-set}
use Rattle.format.specs.Decide.{numbered}
use Rattle.decide.proofs.Rows.{used-row}
use Rattle.decide.proofs.Refusals.{stops}
use Rattle.decide.proofs.numbered.Goals as goal

pub overflow_mul-rows : goal.overflow_mul-rows
overflow_mul-rows c = omega (
  arith,
  used-row (length c.args.rows.now) c.args.c.rows
      c.args.row c.row_used.ensures c.if-row_used.true,
)

pub overflow_add-rows : goal.overflow_add-rows
overflow_add-rows c = omega (
  arith,
  used-row (length c.args.rows.now) c.args.c.rows
      c.args.row c.row_used.ensures c.if-row_used.true,
)

pub offset_bounds-rows-row : goal.offset_bounds-rows-row
offset_bounds-rows-row c = omega (
  arith,
  used-row (length c.args.rows.now) c.args.c.rows
      c.args.row c.row_used.ensures c.if-row_used.true,
)

pub bounds-rows-row : goal.bounds-rows-row
bounds-rows-row c = omega (
  arith,
  used-row (length c.args.rows.now) c.args.c.rows
      c.args.row c.row_used.ensures c.if-row_used.true,
)

pub overflow_mul-rows-then-row_used : goal.overflow_mul-rows-then-row_used
overflow_mul-rows-then-row_used c = omega (
  arith,
  used-row (length c.args.rows.now) c.args.c.rows
      c.args.row c.row_used.ensures c.if-row_used.true,
)

pub overflow_add-rows-then-row_used : goal.overflow_add-rows-then-row_used
overflow_add-rows-then-row_used c = omega (
  arith,
  used-row (length c.args.rows.now) c.args.c.rows
      c.args.row c.row_used.ensures c.if-row_used.true,
)

pub offset_bounds-rows-row-then-row_used : goal.offset_bounds-rows-row-then-row_used
offset_bounds-rows-row-then-row_used c = omega (
  arith,
  used-row (length c.args.rows.now) c.args.c.rows
      c.args.row c.row_used.ensures c.if-row_used.true,
)

pub bounds-rows-row-then-row_used : goal.bounds-rows-row-then-row_used
bounds-rows-row-then-row_used c = simp length-set (omega (
  arith,
  used-row (length c.args.rows.now)
      c.args.c.rows c.args.row c.row_used.ensures c.if-row_used.true,
))

pub returns-then-row_used : goal.returns-then-row_used
unfolding numbered
returns-then-row_used c = sym (rw (sym c.row_used.ensures ∙ c.if-row_used.true))

pub returns : goal.returns
unfolding numbered
returns c = sym (rw (sym c.row_used.ensures ∙ c.if-row_used.false, stops Unit c.lost.ensures))
