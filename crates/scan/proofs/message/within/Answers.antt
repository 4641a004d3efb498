-- What was read, within the limit or not.
use mathlib.Core.Path.{sym}
use borrow.Author.Tests.{le-leb, lt-leb}
use Rattle.rows.specs.Memory.{message_limit}
use Rattle.scan.proofs.message.within.Goals as goal

pub returns-in_default : goal.returns-in_default
unfolding message_limit
returns-in_default c = sym (simp (c.in_default.is, c.short.ensures))

pub returns-then-next-le-MESSAGE_LIMIT : goal.returns-then-next-le-MESSAGE_LIMIT
unfolding message_limit
returns-then-next-le-MESSAGE_LIMIT c = sym (simp (c.in-Some.is, le-leb _ _ c.if-next-le-MESSAGE_LIMIT.true, c.moved.ensures))

pub returns : goal.returns
unfolding message_limit
returns c = sym (simp (c.in-Some.is, lt-leb _ _ c.if-next-le-MESSAGE_LIMIT.false, c.short-2.ensures))
