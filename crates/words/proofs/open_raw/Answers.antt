-- Room, and then the flag.
use Rattle.std.proofs.Common.{◌≡◌, arith, rules}
use Rattle.decide.specs.Outcomes.{width_in}
use Rattle.format.specs.Step.{opened, wait, at_flag, raw_flag}
use Rattle.format.specs.Numbers.{work_of, no_work}
use Rattle.resume.proofs.Moves.{waits, after_given, not_given}
use Rattle.words.proofs.Rooms.{width_small}
use Rattle.words.proofs.open_raw.Goals as goal

pub overflow_mul-n : goal.overflow_mul-n
overflow_mul-n c = omega (arith, width_small c.args.width c.args.n _ c.width_of.ensures c.requires)

pub returns-in_err-p-clause-steps : goal.returns-in_err-p-clause-steps
unfolding opened
returns-in_err-p-clause-steps c =
    not_given (λ ts s. wait (at_flag (raw_flag c.args.row (width_in c.args.width) s)) ts) (rw c.width_of.ensures at c.in_err-p.ensures.rooms) c.from_residual.ensures

pub returns-clause-steps : goal.returns-clause-steps
unfolding opened work_of
returns-clause-steps c =
    after_given (λ ts s. wait (at_flag (raw_flag c.args.row (width_in c.args.width) s)) ts) (rw c.width_of.ensures at c.in_ok-p.ensures.rooms)
    (waits (let e : c.default.result ≡ no_work = search rules in rw (c.raw_purpose.ensures, e)))
