-- What is left of the piece is run from where the loop stands.
use mathlib.Core.Path.{refl, sym, ap, ◌∙◌}
use Rattle.std.specs.Prelude.{Ok}
use Rattle.pieces.proofs.Drives.{drove_all, drove_lost, drove_deep, drove_within, drove_on, drove_over, drove_not, drove_fillable, drove_filled}
use Rattle.pieces.proofs.drive.Goals as goal

pub returns-then-not-pairs_fit : goal.returns-then-not-pairs_fit
returns-then-not-pairs_fit c =
    drove_lost c.loop-i.invariant (λ i. (c.type_inv.piece i).fits) c.loop-i-test.true _ c.lost.ensures (sym c.pairs_fit.ensures ∙ c.if-not-pairs_fit.true)

pub bulk-k-requires : goal.bulk-k-requires
bulk-k-requires c = drove_within c.loop-i.invariant (sym c.pairs_fit.ensures ∙ c.if-not-pairs_fit.false)

pub fill-w-requires : goal.fill-w-requires
fill-w-requires c =
    drove_fillable c.loop-i.invariant (sym c.pairs_fit.ensures ∙ c.if-not-pairs_fit.false) (λ i. (c.type_inv.piece i).fits) c.if-k-gt0.true
    (c.bulk-k.ensures c.if-k-gt0.true) refl

pub loop-i-preserved-then-k-gt0 : goal.loop-i-preserved-then-k-gt0
loop-i-preserved-then-k-gt0 c =
    drove_filled c.loop-i.invariant (sym c.pairs_fit.ensures ∙ c.if-not-pairs_fit.false) (λ i. (c.type_inv.piece i).fits) c.if-k-gt0.true
    (c.bulk-k.ensures c.if-k-gt0.true) refl c.fill-w.ensures.work c.fill-w.ensures.filled

pub go_on-requires : goal.go_on-requires
go_on-requires c = drove_deep c.loop-i.invariant (sym c.pairs_fit.ensures ∙ c.if-not-pairs_fit.false)

pub loop-i-preserved : goal.loop-i-preserved
loop-i-preserved c =
    drove_on c.loop-i.invariant (sym c.pairs_fit.ensures ∙ c.if-not-pairs_fit.false) (λ i. (c.type_inv.piece i).fits) c.loop-i-test.true c.go_on.ensures _
    (c.in-Ok-Wait.is ∙ ap Ok c.in-Ok-Wait.field-0-is)

pub returns-in-Ok-Finished : goal.returns-in-Ok-Finished
returns-in-Ok-Finished c =
    drove_over c.loop-i.invariant (sym c.pairs_fit.ensures ∙ c.if-not-pairs_fit.false) (λ i. (c.type_inv.piece i).fits) c.loop-i-test.true c.go_on.ensures
    (c.in-Ok-Finished.is ∙ ap Ok c.in-Ok-Finished.field-0-is)

pub returns-in-Err : goal.returns-in-Err
returns-in-Err c =
    drove_not c.loop-i.invariant (sym c.pairs_fit.ensures ∙ c.if-not-pairs_fit.false) (λ i. (c.type_inv.piece i).fits) c.loop-i-test.true c.go_on.ensures _ _
    c.in-Err.is c.cost.ensures

pub returns : goal.returns
returns c = drove_all c.loop-i.invariant c.loop-i-test.false
