-- An XML's, or a use's.
use mathlib.Core.Path.{sym, ◌∙◌}
use borrow.Author.Tests.{ne_eqb}
use Rattle.format.specs.Numbers.{work_of}
use Rattle.step.proofs.text_work.Goals as goal

pub returns-then-w-eq-XML : goal.returns-then-w-eq-XML
unfolding work_of
returns-then-w-eq-XML c = rw (c.if-w-eq-XML.true, c.row_work.ensures)

pub use_work-requires : goal.use_work-requires
use_work-requires c = c.requires c.if-w-eq-XML.false

pub returns : goal.returns
unfolding work_of
returns c = c.use_work.ensures ∙ sym (simp (ne_eqb _ _ c.if-w-eq-XML.false))
