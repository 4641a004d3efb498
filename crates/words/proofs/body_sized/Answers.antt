-- A reference, or a new value, which enters the objects.
use Rattle.std.proofs.Common.{sym, ◌∙◌}
use Rattle.decide.specs.Outcomes.{body_in}
use Rattle.format.specs.Step.{body_sized, opened}
use Rattle.resume.proofs.Moves.{stopped_by, after_it}
use Rattle.words.proofs.Sizes.{size_small}
use Rattle.words.proofs.body_sized.Goals as goal

pub returns-in_err-entered-in-New-clause-steps : goal.returns-in_err-entered-in-New-clause-steps
unfolding body_sized
returns-in_err-entered-in-New-clause-steps c = rw (sym c.size_of.ensures ∙ c.in-New.is) (stopped_by (λ ts y. opened ts c.args.row (body_in c.args.body) c.in-New.n) c.in_err-entered-in-New.ensures.decided c.from_residual.ensures)

pub open_body-requires-clause-small : goal.open_body-requires-clause-small
open_body-requires-clause-small c = size_small _ _ (sym c.size_of.ensures ∙ c.in-New.is) c.requires.small

pub returns-in-Old-clause-steps : goal.returns-in-Old-clause-steps
unfolding body_sized
returns-in-Old-clause-steps c = rw (sym c.size_of.ensures ∙ c.in-Old.is) c.refer.ensures.steps

pub returns-in_ok-entered-in-New-clause-steps : goal.returns-in_ok-entered-in-New-clause-steps
unfolding body_sized
returns-in_ok-entered-in-New-clause-steps c = rw (sym c.size_of.ensures ∙ c.in-New.is) (after_it (λ ts y. opened ts c.args.row (body_in c.args.body) c.in-New.n) c.in_ok-entered-in-New.ensures.decided c.open_body.ensures.steps)
