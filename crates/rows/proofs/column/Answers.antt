-- The row is lent, and the list goes so far or it doesn't.
use mathlib.Core.Path.{sym}
use borrow.Author.Tests.{lt-ltb, le-ltb}
use Rattle.rows.specs.Memory.{col}
use Rattle.rows.proofs.RowColumns.{col-past}
use Rattle.rows.proofs.column.Goals as goal

pub returns-then-c-rows : goal.returns-then-c-rows
unfolding col
returns-then-c-rows c = sym (simp (lt-ltb _ _ c.if-row-rows.true))

pub returns-else-c-rows : goal.returns-else-c-rows
returns-else-c-rows c = col-past c.args.rows.now c.args.row c.args.c c.if-row-rows.true
    c.if-c-rows.false

pub returns-else-row-rows : goal.returns-else-row-rows
unfolding col
returns-else-row-rows c = sym (simp (le-ltb _ _ c.if-row-rows.false))
