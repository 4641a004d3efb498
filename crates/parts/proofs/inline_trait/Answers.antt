-- The class, the names, and the place in the traits.
use Rattle.parts.specs.Heads.{inline_trait}
use Rattle.scan.proofs.Laws.{then, fails, given, out-err}
use Rattle.parts.proofs.inline_trait.Goals as goal

pub returns-in_err-object_class-clause-reads : goal.returns-in_err-object_class-clause-reads
unfolding inline_trait
returns-in_err-object_class-clause-reads c = out-err c.from_residual.ensures (fails _ _ (fails _ _ (fails _ _ c.in_err-object_class.ensures.reads)))

pub returns-in_err-name_list-clause-reads : goal.returns-in_err-name_list-clause-reads
unfolding inline_trait
returns-in_err-name_list-clause-reads c = out-err c.from_residual-in_err-name_list.ensures (fails _ _ (fails _ _ (then _ _ c.in_ok-object_class.ensures.reads c.in_err-name_list.ensures.reads)))

pub returns-in_err-trait_end-clause-reads : goal.returns-in_err-trait_end-clause-reads
unfolding inline_trait
returns-in_err-trait_end-clause-reads c = out-err c.from_residual-in_err-trait_end.ensures (fails _ _ (then _ _ (then _ _ c.in_ok-object_class.ensures.reads c.in_ok-name_list.ensures.reads) c.in_err-trait_end.ensures.reads))

pub returns-clause-reads : goal.returns-clause-reads
unfolding inline_trait
returns-clause-reads c = then _ _ (then _ _ (then _ _ c.in_ok-object_class.ensures.reads c.in_ok-name_list.ensures.reads) c.in_ok-trait_end.ensures.reads) given
