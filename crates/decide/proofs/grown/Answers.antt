-- A used row counts its entries.
use native.Mathlib.Omega.{arith}
use mathlib.Core.Path.{sym, ◌∙◌}
use lib.ListN.{length}
use Rattle.format.specs.Decide.{grown}
use Rattle.decide.proofs.Rows.{used-row}
use Rattle.decide.proofs.Refusals.{stops}
use Rattle.decide.proofs.Widths.{width_some}
use Rattle.decide.proofs.grown.Goals as goal

pub nonzero_div-rows : goal.nonzero_div-rows
nonzero_div-rows c = omega (arith, width_some c.args.w c.width_of.ensures)

pub overflow_mul-rows : goal.overflow_mul-rows
overflow_mul-rows c = omega (
  arith,
  used-row (length c.args.rows.now)
      c.args.c.rows c.args.row
      c.row_used.ensures c.if-row_used.true,
)

pub overflow_add-rows : goal.overflow_add-rows
overflow_add-rows c = omega (
  arith,
  used-row (length c.args.rows.now)
      c.args.c.rows c.args.row
      c.row_used.ensures c.if-row_used.true,
)

pub offset_bounds-rows-row : goal.offset_bounds-rows-row
offset_bounds-rows-row c = omega (
  arith,
  used-row (length c.args.rows.now)
      c.args.c.rows c.args.row
      c.row_used.ensures c.if-row_used.true,
)

pub bounds-rows-row : goal.bounds-rows-row
bounds-rows-row c = omega (
  arith,
  used-row (length c.args.rows.now)
      c.args.c.rows c.args.row
      c.row_used.ensures c.if-row_used.true,
)

pub returns-then-row_used : goal.returns-then-row_used
unfolding grown
returns-then-row_used c = sym (rw (
  sym c.row_used.ensures ∙ c.if-row_used.true,
  c.without.ensures,
  c.width_of.ensures,
))

pub returns : goal.returns
unfolding grown
returns c = sym (rw (sym c.row_used.ensures ∙ c.if-row_used.false, stops Unit c.lost.ensures))
