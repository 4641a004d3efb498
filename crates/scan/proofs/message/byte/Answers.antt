-- One byte, or none.
use native.Mathlib.Omega.{arith}
use lib.ListN.{length}
use Rattle.rows.specs.Memory.{message_limit}
use Rattle.scan.proofs.Ends.{is-here, reads_byte, reads_none}
use Rattle.scan.proofs.message.byte.Goals as goal

pub bounds-message-at : goal.bounds-message-at
bounds-message-at c = omega (
  arith,
  (is-here (length c.args.message.now)
      c.args.c.at 1 c.here.ensures c.if-here.true).0,
)

pub overflow_cast-result : goal.overflow_cast-result
overflow_cast-result c = omega (arith, c.type_inv.message c.args.c.at)

pub overflow_add-at : goal.overflow_add-at
unfolding message_limit
overflow_add-at c = omega (
  arith,
  (is-here (length c.args.message.now) c.args.c.at
      1 c.here.ensures c.if-here.true).1,
)

pub returns-then-here : goal.returns-then-here
returns-then-here c = λ m. reads_byte m c.args.c c.args.message.now c.here.ensures c.moved.ensures
    c.if-here.true

pub returns : goal.returns
returns c = λ m. reads_none m c.args.c c.args.message.now
    c.here.ensures c.short.ensures c.if-here.false
