-- A size word, and the text that it is of.
use mathlib.Core.Path.{sym, ◌∙◌}
use Rattle.format.specs.Reading as r
use Rattle.scan.proofs.Laws.{then, fails, chosen, out-err}
use Rattle.scan.proofs.Reading.text_steps.Goals as goal

pub returns-in_err-w-clause-reads : goal.returns-in_err-w-clause-reads
unfolding r.text
returns-in_err-w-clause-reads c = out-err c.from_residual.ensures (fails _ _ c.in_err-w.ensures.reads.0)

pub returns-in-Old-clause-reads : goal.returns-in-Old-clause-reads
unfolding r.text r.text_of
returns-in-Old-clause-reads c = then _ _ c.in_ok-w.ensures.reads.0 (chosen (r.text_of r.plain) (sym c.in-Old.is ∙ c.size_of.ensures) c.old_text.ensures)

pub returns-in-New-clause-reads : goal.returns-in-New-clause-reads
unfolding r.text
returns-in-New-clause-reads c = then _ _ c.in_ok-w.ensures.reads.0 (chosen (r.text_of r.plain) (sym c.in-New.is ∙ c.size_of.ensures) c.new_text.ensures.reads)
