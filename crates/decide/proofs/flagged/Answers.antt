-- A used row has its flag.
use native.Mathlib.Omega.{arith}
use mathlib.Core.Path.{sym, ◌∙◌}
use lib.ListN.{length}
use Rattle.format.specs.Decide.{flagged}
use Rattle.decide.proofs.Rows.{used-row}
use Rattle.decide.proofs.Refusals.{stops}
use Rattle.decide.proofs.flagged.Goals as goal

pub overflow_mul-rows : goal.overflow_mul-rows
overflow_mul-rows c = omega (
  arith,
  used-row (length c.args.rows.now) c.args.c.rows
      c.args.row c.row_used.ensures c.if-row_used.true,
)

pub overflow_add-rows : goal.overflow_add-rows
overflow_add-rows c = omega (
  arith,
  used-row (length c.args.rows.now) c.args.c.rows
      c.args.row c.row_used.ensures c.if-row_used.true,
)

pub offset_bounds-rows-row : goal.offset_bounds-rows-row
offset_bounds-rows-row c = omega (
  arith,
  used-row (length c.args.rows.now) c.args.c.rows
      c.args.row c.row_used.ensures c.if-row_used.true,
)

pub bounds-rows-row : goal.bounds-rows-row
bounds-rows-row c = omega (
  arith,
  used-row (length c.args.rows.now) c.args.c.rows
      c.args.row c.row_used.ensures c.if-row_used.true,
)

pub returns-then-row_used : goal.returns-then-row_used
unfolding flagged
returns-then-row_used c = sym (rw (sym c.row_used.ensures ∙ c.if-row_used.true))

pub returns : goal.returns
unfolding flagged
returns c = sym (rw (sym c.row_used.ensures ∙ c.if-row_used.false, stops Unit c.lost.ensures))
