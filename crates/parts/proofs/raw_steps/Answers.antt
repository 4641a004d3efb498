-- Room for a body, a flag, the bytes, and the row's end.
use native.Mathlib.Omega.{arith}
use mathlib.Core.Path.{refl, sym, ap, ◌∙◌}
use Prim.Native.Nat.{ℕ, ◌*◌}
use Rattle.format.specs.Decide as d
use Rattle.format.specs.Decide.{fixed}
use Rattle.format.specs.Reading as r
use Rattle.decide.specs.Outcomes.{width_in}
use Rattle.scan.proofs.Laws.{then, fails, chosen, out-err}
use Rattle.scan.proofs.Reserves.{room-placed, flag-flagged, flagged-placed}
use Rattle.scan.proofs.Sizes.{raw-size}
use Rattle.parts.proofs.Flags.{flag-read}
use Rattle.parts.proofs.raw_steps.Goals as goal

pub returns-in_err-s-clause-reads : goal.returns-in_err-s-clause-reads
unfolding r.new_of
returns-in_err-s-clause-reads c = λ value. out-err c.from_residual.ensures (fails _ _ (chosen (r.room _) (ap (λ (k : ℕ). c.args.n * k) c.width_of.ensures) c.in_err-s.ensures.reads))

pub returns-in_err-b-clause-reads : goal.returns-in_err-b-clause-reads
unfolding r.new_of
returns-in_err-b-clause-reads c = λ value. out-err c.from_residual-in_err-b.ensures (then _ _ (chosen (r.room _) (ap (λ (k : ℕ). c.args.n * k) c.width_of.ensures) c.in_ok-s.ensures.reads) (fails _ _ c.in_err-b.ensures.reads))

pub returns-in_err-flagged-clause-reads : goal.returns-in_err-flagged-clause-reads
unfolding r.new_of
returns-in_err-flagged-clause-reads c = λ value. out-err c.from_residual-in_err-flagged.ensures (then _ _ (chosen (r.room _) (ap (λ (k : ℕ). c.args.n * k) c.width_of.ensures) c.in_ok-s.ensures.reads) (then _ _ c.in_ok-b.ensures.reads (fails _ _ (fails _ _ (chosen (λ (f : ℕ). r.by (d.on_rows (d.flagged c.args.row f))) c.fixed.ensures c.in_err-flagged.ensures.reads)))))

pub raw_copied-requires : goal.raw_copied-requires
raw_copied-requires c = ((flagged-placed _ _ _ _ _ _ _ (flag-flagged fixed _ _ _ _ _ _ _ _ _ _ _ (flag-read fixed c.args.row c.in_ok-b.ensures.reads (chosen (λ (f : ℕ). r.by (d.on_rows (d.flagged c.args.row f))) c.fixed.ensures c.in_ok-flagged.ensures.reads)).read) (room-placed _ _ _ _ _ _ _ _ _ _ _ _ _ c.in_ok-s.ensures.reads.read)).inside, (flag-flagged fixed _ _ _ _ _ _ _ _ _ _ _ (flag-read fixed c.args.row c.in_ok-b.ensures.reads (chosen (λ (f : ℕ). r.by (d.on_rows (d.flagged c.args.row f))) c.fixed.ensures c.in_ok-flagged.ensures.reads)).read).used)

pub returns-in_err-raw_copied-clause-reads : goal.returns-in_err-raw_copied-clause-reads
unfolding r.new_of
returns-in_err-raw_copied-clause-reads c = λ value. out-err c.from_residual-in_err-raw_copied.ensures (then _ _ (chosen (r.room _) (ap (λ (k : ℕ). c.args.n * k) c.width_of.ensures) c.in_ok-s.ensures.reads) (then _ _ c.in_ok-b.ensures.reads (fails _ _ (then _ _ (chosen (λ (f : ℕ). r.by (d.on_rows (d.flagged c.args.row f))) c.fixed.ensures c.in_ok-flagged.ensures.reads) c.in_err-raw_copied.ensures.reads))))

pub returns-clause-reads : goal.returns-clause-reads
unfolding r.new_of
returns-clause-reads c = λ value. then _ _ (chosen (r.room _) (ap (λ (k : ℕ). c.args.n * k) c.width_of.ensures) c.in_ok-s.ensures.reads) (then _ _ c.in_ok-b.ensures.reads (then _ _ (then _ _ (chosen (λ (f : ℕ). r.by (d.on_rows (d.flagged c.args.row f))) c.fixed.ensures c.in_ok-flagged.ensures.reads) c.in_ok-raw_copied.ensures.reads) c.closed.ensures.reads))
