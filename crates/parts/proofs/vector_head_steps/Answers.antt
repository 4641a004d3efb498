-- The flag, the class, and what it says.
use Prim.Native.Nat.{ℕ}
use Rattle.format.specs.Decide as d
use Rattle.format.specs.Reading as r
use Rattle.parts.specs.Heads.{vector_head}
use Rattle.scan.proofs.Laws.{then, fails, chosen, out-err}
use Rattle.parts.proofs.vector_head_steps.Goals as goal

pub returns-in_err-b-clause-reads : goal.returns-in_err-b-clause-reads
unfolding vector_head
returns-in_err-b-clause-reads c = out-err c.from_residual.ensures (fails _ _ c.in_err-b.ensures.reads)

pub returns-in_err-flagged-clause-reads : goal.returns-in_err-flagged-clause-reads
unfolding vector_head
returns-in_err-flagged-clause-reads c = out-err c.from_residual-in_err-flagged.ensures (then _ _ c.in_ok-b.ensures.reads (fails _ _ (fails _ _ (chosen (λ (f : ℕ). r.by (d.on_rows (d.flagged c.args.row f))) c.fixed.ensures c.in_err-flagged.ensures.reads))))

pub returns-in_err-s-clause-reads : goal.returns-in_err-s-clause-reads
unfolding vector_head
returns-in_err-s-clause-reads c = out-err c.from_residual-in_err-s.ensures (then _ _ c.in_ok-b.ensures.reads (fails _ _ (then _ _ (chosen (λ (f : ℕ). r.by (d.on_rows (d.flagged c.args.row f))) c.fixed.ensures c.in_ok-flagged.ensures.reads) c.in_err-s.ensures.reads)))

pub returns-in_err-star-clause-reads : goal.returns-in_err-star-clause-reads
unfolding vector_head
returns-in_err-star-clause-reads c = out-err c.from_residual-in_err-star.ensures (then _ _ c.in_ok-b.ensures.reads (then _ _ (then _ _ (chosen (λ (f : ℕ). r.by (d.on_rows (d.flagged c.args.row f))) c.fixed.ensures c.in_ok-flagged.ensures.reads) c.in_ok-s.ensures.reads) (fails _ _ c.in_err-star.ensures)))

pub returns-clause-reads : goal.returns-clause-reads
unfolding vector_head
returns-clause-reads c = then _ _ c.in_ok-b.ensures.reads (then _ _ (then _ _ (chosen (λ (f : ℕ). r.by (d.on_rows (d.flagged c.args.row f))) c.fixed.ensures c.in_ok-flagged.ensures.reads) c.in_ok-s.ensures.reads) (then _ _ c.in_ok-star.ensures c.vector_class.ensures.reads))
