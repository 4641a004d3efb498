-- A row becomes a reference to an object that has ended.
use native.Mathlib.Omega.{arith}
use mathlib.Core.Path.{sym, ◌∙◌}
use lib.ListN.{length, length-set}
use borrow.Author.Tests.{eq-eqb, ne_eqb, lt-ltb, le-ltb}
use Rattle.decide.specs.Outcomes.{referred_to}
use Rattle.decide.proofs.Rows.{used-row}
use Rattle.decide.proofs.Refusals.{stops}
use Rattle.decide.proofs.referred.Goals as goal

pub returns-then-not-row_used : goal.returns-then-not-row_used
unfolding referred_to
returns-then-not-row_used c = rw (
  sym c.row_used.ensures ∙ c.if-not-row_used.true,
  stops Unit
      c.lost.ensures,
)

pub returns-then-c-end : goal.returns-then-c-end
unfolding referred_to
returns-then-c-end c = rw (
  sym c.row_used.ensures ∙ c.if-not-row_used.false,
  sym
      c.column-end.ensures,
  lt-ltb _ _ c.if-c-end.true,
  stops Unit c.lost-then-c-end.ensures,
)

pub returns-then-end-eq0 : goal.returns-then-end-eq0
unfolding referred_to
returns-then-end-eq0 c = rw (
  sym c.row_used.ensures ∙ c.if-not-row_used.false,
  sym
      c.column-end.ensures,
  le-ltb _ _ c.if-c-end.false,
  eq-eqb _ _ c.if-end-eq0.true,
  stops Unit
      c.refuse.ensures,
)

pub overflow_mul-rows : goal.overflow_mul-rows
overflow_mul-rows c = omega (
  arith,
  used-row (length c.args.rows.now)
      c.args.c.rows
      c.args.row
      c.row_used-2.ensures c.if-row_used.true,
)

pub overflow_add-rows : goal.overflow_add-rows
overflow_add-rows c = omega (
  arith,
  used-row (length c.args.rows.now)
      c.args.c.rows
      c.args.row
      c.row_used-2.ensures c.if-row_used.true,
)

pub offset_bounds-rows-row : goal.offset_bounds-rows-row
offset_bounds-rows-row c = omega (
  arith,
  used-row (length c.args.rows.now)
      c.args.c.rows
      c.args.row
      c.row_used-2.ensures c.if-row_used.true,
)

pub bounds-rows-row : goal.bounds-rows-row
bounds-rows-row c = omega (
  arith,
  used-row (length c.args.rows.now)
      c.args.c.rows
      c.args.row
      c.row_used-2.ensures c.if-row_used.true,
)

pub overflow_mul-rows-then-row_used : goal.overflow_mul-rows-then-row_used
overflow_mul-rows-then-row_used c = omega (
  arith,
  used-row (length c.args.rows.now)
      c.args.c.rows
      c.args.row
      c.row_used-2.ensures c.if-row_used.true,
)

pub overflow_add-rows-then-row_used : goal.overflow_add-rows-then-row_used
overflow_add-rows-then-row_used c = omega (
  arith,
  used-row (length c.args.rows.now)
      c.args.c.rows
      c.args.row
      c.row_used-2.ensures c.if-row_used.true,
)

pub offset_bounds-rows-row-then-row_used : goal.offset_bounds-rows-row-then-row_used
offset_bounds-rows-row-then-row_used c = omega (
  arith,
  used-row (length c.args.rows.now)
      c.args.c.rows
      c.args.row
      c.row_used-2.ensures c.if-row_used.true,
)

pub bounds-rows-row-then-row_used : goal.bounds-rows-row-then-row_used
bounds-rows-row-then-row_used c = simp length-set (omega (
  arith,
  used-row (length c.args.rows.now)
      c.args.c.rows
      c.args.row
      c.row_used-2.ensures c.if-row_used.true,
))

pub overflow_mul-rows-then-row_used-2 : goal.overflow_mul-rows-then-row_used-2
overflow_mul-rows-then-row_used-2 c = omega (
  arith,
  used-row (length c.args.rows.now)
      c.args.c.rows
      c.args.row
      c.row_used-2.ensures c.if-row_used.true,
)

pub overflow_add-rows-then-row_used-2 : goal.overflow_add-rows-then-row_used-2
overflow_add-rows-then-row_used-2 c = omega (
  arith,
  used-row (length c.args.rows.now)
      c.args.c.rows
      c.args.row
      c.row_used-2.ensures c.if-row_used.true,
)

pub offset_bounds-rows-row-then-row_used-2 : goal.offset_bounds-rows-row-then-row_used-2
offset_bounds-rows-row-then-row_used-2 c = omega (
  arith,
  used-row (length c.args.rows.now)
      c.args.c.rows
      c.args.row
      c.row_used-2.ensures c.if-row_used.true,
)

pub bounds-rows-row-then-row_used-2 : goal.bounds-rows-row-then-row_used-2
bounds-rows-row-then-row_used-2 c = simp length-set (omega (
  arith,
  used-row (length c.args.rows.now)
      c.args.c.rows
      c.args.row
      c.row_used-2.ensures c.if-row_used.true,
))

pub returns-then-row_used : goal.returns-then-row_used
unfolding referred_to
returns-then-row_used c = rw (
  sym c.row_used.ensures ∙ c.if-not-row_used.false,
  sym
      c.column-end.ensures,
  le-ltb _ _ c.if-c-end.false,
  ne_eqb _ _ c.if-end-eq0.false,
  sym
      c.row_used-2.ensures ∙ c.if-row_used.true,
)

pub returns : goal.returns
unfolding referred_to
returns c = rw (
  sym c.row_used.ensures ∙ c.if-not-row_used.false,
  sym
      c.column-end.ensures,
  le-ltb _ _ c.if-c-end.false,
  ne_eqb _ _ c.if-end-eq0.false,
  sym
      c.row_used-2.ensures ∙ c.if-row_used.false,
  stops Unit c.lost-2.ensures,
)
