-- An entry more, with a row of its own.
use native.Mathlib.Omega.{arith}
use mathlib.Core.Path.{sym, ◌∙◌}
use Prim.Native.Nat.{◌+◌, ◌*◌}
use lib.ListN.{length}
use borrow.Author.Tests.{le-leb, lt-leb}
use lib.Seq.{set_out}
use Rattle.format.specs.Decide.{counted}
use Rattle.decide.proofs.Rows.{used-row}
use Rattle.decide.proofs.Refusals.{stops}
use Rattle.decide.proofs.counted.Goals as goal

pub returns-then-c-done : goal.returns-then-c-done
unfolding counted
returns-then-c-done c = sym (rw (le-leb _ _ c.if-c-done.true, stops Unit c.lost.ensures))

pub returns-then-not-row_used : goal.returns-then-not-row_used
unfolding counted
returns-then-not-row_used c = sym (rw (
  lt-leb _ _ c.if-c-done.false,
  sym c.row_used.ensures ∙ c.if-not-row_used.true,
  stops
      Unit c.lost-then-not-row_used.ensures,
))

pub overflow_mul-row : goal.overflow_mul-row
overflow_mul-row c = omega (
  arith,
  used-row (length c.args.rows.now)
      c.args.c.rows c.args.row c.row_used.ensures
      c.if-not-row_used.false,
)

pub overflow_sub-rows : goal.overflow_sub-rows
overflow_sub-rows c = omega (
  arith,
  used-row (length c.args.rows.now)
      c.args.c.rows c.args.row c.row_used.ensures
      c.if-not-row_used.false,
)

pub returns-then-rows-row : goal.returns-then-rows-row
unfolding counted
returns-then-rows-row c = sym (rw (
  lt-leb _ _ c.if-c-done.false,
  sym c.row_used.ensures ∙ c.if-not-row_used.false,
  set_out c.args.rows.now (c.args.row * 12
      + c.args.col) (c.args.done + 1) (omega
      (arith, c.if-rows-row.true)),
))

pub overflow_add-rows : goal.overflow_add-rows
overflow_add-rows c = omega (
  arith,
  used-row (length c.args.rows.now)
      c.args.c.rows c.args.row
      c.row_used.ensures c.if-not-row_used.false,
)

pub overflow_mul-rows : goal.overflow_mul-rows
overflow_mul-rows c = omega (
  arith,
  used-row (length c.args.rows.now)
      c.args.c.rows c.args.row
      c.row_used.ensures c.if-not-row_used.false,
)

pub overflow_add-rows-2 : goal.overflow_add-rows-2
overflow_add-rows-2 c = omega (
  arith,
  used-row (length c.args.rows.now)
      c.args.c.rows c.args.row
      c.row_used.ensures c.if-not-row_used.false,
)

pub offset_bounds-rows-row : goal.offset_bounds-rows-row
offset_bounds-rows-row c = omega (
  arith,
  used-row (length c.args.rows.now)
      c.args.c.rows c.args.row
      c.row_used.ensures c.if-not-row_used.false,
)

pub returns : goal.returns
unfolding counted
returns c = sym (rw (
  lt-leb _ _ c.if-c-done.false,
  sym c.row_used.ensures ∙ c.if-not-row_used.false,
))
