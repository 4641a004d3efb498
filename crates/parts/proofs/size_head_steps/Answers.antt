-- A size word, and what it is of.
use mathlib.Core.Path.{sym, ◌∙◌}
use Rattle.parts.specs.Heads.{size_head, size_rest}
use Rattle.scan.proofs.Laws.{then, fails, given, chosen, out-err}
use Rattle.scan.proofs.Sizes.{size_bound}
use Rattle.std.proofs.lemmas.Result.{IfOk-from_err}
use Rattle.parts.proofs.size_head_steps.Goals as goal

pub returns-in_err-w-clause-reads : goal.returns-in_err-w-clause-reads
unfolding size_head
returns-in_err-w-clause-reads c = (out-err c.from_residual.ensures (fails _ _ c.in_err-w.ensures.reads.0), IfOk-from_err _ _ c.from_residual.ensures.0)

pub returns-in_err-referred-in-Old-clause-reads : goal.returns-in_err-referred-in-Old-clause-reads
unfolding size_head size_rest
returns-in_err-referred-in-Old-clause-reads c = (out-err c.from_residual-in_err-referred-in-Old.ensures (then _ _ c.in_ok-w.ensures.reads.0 (chosen (size_rest _) (sym c.in-Old.is ∙ c.size_of.ensures) (fails _ _ c.in_err-referred-in-Old.ensures.reads))), IfOk-from_err _ _ c.from_residual-in_err-referred-in-Old.ensures.0)

pub returns-in_ok-referred-in-Old-clause-reads : goal.returns-in_ok-referred-in-Old-clause-reads
unfolding size_head size_rest
returns-in_ok-referred-in-Old-clause-reads c = (then _ _ c.in_ok-w.ensures.reads.0 (chosen (size_rest _) (sym c.in-Old.is ∙ c.size_of.ensures) (then _ _ c.in_ok-referred-in-Old.ensures.reads given)), tt)

pub returns-in_err-entered-in-New-clause-reads : goal.returns-in_err-entered-in-New-clause-reads
unfolding size_head size_rest
returns-in_err-entered-in-New-clause-reads c = (out-err c.from_residual-in_err-entered-in-New.ensures (then _ _ c.in_ok-w.ensures.reads.0 (chosen (size_rest _) (sym c.in-New.is ∙ c.size_of.ensures) (fails _ _ c.in_err-entered-in-New.ensures.reads))), IfOk-from_err _ _ c.from_residual-in_err-entered-in-New.ensures.0)

pub returns-in_ok-entered-in-New-clause-reads : goal.returns-in_ok-entered-in-New-clause-reads
unfolding size_head size_rest
returns-in_ok-entered-in-New-clause-reads c = (then _ _ c.in_ok-w.ensures.reads.0 (chosen (size_rest _) (sym c.in-New.is ∙ c.size_of.ensures) (then _ _ c.in_ok-entered-in-New.ensures.reads given)), size_bound _ _ c.in_ok-w.ensures.reads.1 (sym c.in-New.is ∙ c.size_of.ensures))
