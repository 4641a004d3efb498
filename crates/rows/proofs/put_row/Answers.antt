-- Each column in its place.
use native.Mathlib.Omega.{arith}
use mathlib.Core.Path.{sym}
use lib.ListN.{length-set}
use borrow.Author.Tests.{le-ltb}
use Rattle.rows.specs.Memory.{put_row}
use Rattle.rows.proofs.RowColumns.{row-stored}
use Rattle.rows.proofs.put_row.Goals as goal

pub bounds-rows-i-then-row-rows : goal.bounds-rows-i-then-row-rows
bounds-rows-i-then-row-rows c = simp length-set (omega arith)

pub bounds-rows-i-then-row-rows-2 : goal.bounds-rows-i-then-row-rows-2
bounds-rows-i-then-row-rows-2 c = simp length-set (omega arith)

pub bounds-rows-i-then-row-rows-3 : goal.bounds-rows-i-then-row-rows-3
bounds-rows-i-then-row-rows-3 c = simp length-set (omega arith)

pub bounds-rows-i-then-row-rows-4 : goal.bounds-rows-i-then-row-rows-4
bounds-rows-i-then-row-rows-4 c = simp length-set (omega arith)

pub bounds-rows-i-then-row-rows-5 : goal.bounds-rows-i-then-row-rows-5
bounds-rows-i-then-row-rows-5 c = simp length-set (omega arith)

pub bounds-rows-i-then-row-rows-6 : goal.bounds-rows-i-then-row-rows-6
bounds-rows-i-then-row-rows-6 c = simp length-set (omega arith)

pub bounds-rows-i-then-row-rows-7 : goal.bounds-rows-i-then-row-rows-7
bounds-rows-i-then-row-rows-7 c = simp length-set (omega arith)

pub bounds-rows-i-then-row-rows-8 : goal.bounds-rows-i-then-row-rows-8
bounds-rows-i-then-row-rows-8 c = simp length-set (omega arith)

pub bounds-rows-i-then-row-rows-9 : goal.bounds-rows-i-then-row-rows-9
bounds-rows-i-then-row-rows-9 c = simp length-set (omega arith)

pub bounds-rows-i-then-row-rows-10 : goal.bounds-rows-i-then-row-rows-10
bounds-rows-i-then-row-rows-10 c = simp length-set (omega arith)

pub bounds-rows-i-then-row-rows-11 : goal.bounds-rows-i-then-row-rows-11
bounds-rows-i-then-row-rows-11 c = simp length-set (omega arith)

pub returns-then-row-rows : goal.returns-then-row-rows
returns-then-row-rows c = row-stored c.args.rows.now c.args.row c.args.v c.if-row-rows.true

pub returns-else-row-rows : goal.returns-else-row-rows
unfolding put_row
returns-else-row-rows c = sym (simp (le-ltb _ _ c.if-row-rows.false))
