-- By the purpose.
use Rattle.std.proofs.Common.{◌≡◌, arith, rules}
use Rattle.format.specs.Numbers.{use_work}
use Rattle.words.proofs.use_work.Goals as goal

pub returns-in-12 : goal.returns-in-12
unfolding use_work
returns-in-12 c = rw c.in-12.is (search rules)

pub returns-in-13 : goal.returns-in-13
unfolding use_work
returns-in-13 c = rw c.in-13.is (search rules)

pub returns-in-14 : goal.returns-in-14
unfolding use_work
returns-in-14 c = rw c.in-14.is (search rules)

pub returns-in-15 : goal.returns-in-15
unfolding use_work
returns-in-15 c = rw c.in-15.is (search rules)

pub returns-in-16 : goal.returns-in-16
unfolding use_work
returns-in-16 c = rw c.in-16.is (search rules)

pub returns-in-17 : goal.returns-in-17
unfolding use_work
returns-in-17 c = rw c.in-17.is (search rules)

pub returns-in_default : goal.returns-in_default
unfolding use_work
returns-in_default c = let e : c.args.w.purpose ≡ 11 = omega arith in rw e (search rules)
