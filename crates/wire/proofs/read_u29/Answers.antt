-- What is read from p on, by what the bytes before gave, is what was to be read.
use mathlib.Core.Path.{refl, sym, ap, ◌∙◌}
use Rattle.std.proofs.Common.{Some}
use Rattle.wire.proofs.U29.{rest_end, rest_part, part-within}
use Rattle.wire.proofs.read_u29.Goals as goal

pub loop-p-init : goal.loop-p-init
loop-p-init c = refl

pub returns-in_err-v : goal.returns-in_err-v
returns-in_err-v c =
    c.from_residual.ensures ∙ sym (c.loop-p.invariant ∙ rest_part c.args.src.now c.loop-p.p c.loop-p.left c.loop-p.n _ _ c.loop-p-test.true
    c.u29_byte.ensures c.in_err-v.was)

pub returns-in-Whole : goal.returns-in-Whole
returns-in-Whole c =
    sym (c.loop-p.invariant ∙ rest_part c.args.src.now c.loop-p.p c.loop-p.left c.loop-p.n _ _ c.loop-p-test.true
    c.u29_byte.ensures (c.in_ok-v.was ∙ ap Some c.in-Whole.is))

pub overflow_sub-left : goal.overflow_sub-left
overflow_sub-left c =
    (part-within c.loop-p.left c.loop-p.n _ _ (c.type_inv.src c.loop-p.p).fits (sym c.u29_byte.ensures ∙ c.in_ok-v.was ∙ ap Some c.in-More.is)).0

pub loop-p-preserved : goal.loop-p-preserved
loop-p-preserved c =
    c.loop-p.invariant ∙ rest_part c.args.src.now c.loop-p.p c.loop-p.left c.loop-p.n _ _ c.loop-p-test.true
    c.u29_byte.ensures (c.in_ok-v.was ∙ ap Some c.in-More.is)

pub returns : goal.returns
returns c = sym (c.loop-p.invariant ∙ rest_end c.args.src.now c.loop-p.p c.loop-p.left c.loop-p.n c.loop-p-test.false)
