-- The flag in the row, then what comes after it, by the purpose.
use mathlib.Core.Path.{sym, ap}
use Rattle.std.proofs.Common.{◌≡◌, rules}
use Rattle.format.specs.Step.{onward, keys_of, task_of}
use Rattle.format.specs.Numbers.{work_of, use_work, no_trait}
use Rattle.resume.proofs.Moves.{as_is, stopped_by, after_it, waits}
use Rattle.step.proofs.Flags.{dictionary-flag, fixed-flag, after_fixed, objects_after, raw_after}
use Rattle.step.proofs.flag_done.Goals as goal

pub returns-in_err-flagged-clause-steps : goal.returns-in_err-flagged-clause-steps
returns-in_err-flagged-clause-steps c =
    as_is (dictionary-flag c.args.w c.args.b c.if-w-eq-DICTIONARY.true)
    (stopped_by (λ ts x. onward ts (keys_of c.args.w.row c.args.w.count 0)) (rw c.weak.ensures at c.in_err-flagged.ensures.decided) c.from_residual.ensures)

pub returns-then-w-eq-DICTIONARY-clause-steps : goal.returns-then-w-eq-DICTIONARY-clause-steps
unfolding task_of
returns-then-w-eq-DICTIONARY-clause-steps c =
    as_is (dictionary-flag c.args.w c.args.b c.if-w-eq-DICTIONARY.true)
    (after_it (λ ts x. onward ts (keys_of c.args.w.row c.args.w.count 0)) (rw c.weak.ensures at c.in_ok-flagged.ensures.decided)
    (as_is (λ ts k m. ap (λ n. onward ts (keys_of c.args.w.row c.args.w.count n) k m) (sym c.default.ensures.1.1.1.0)) c.onward.ensures.steps))

pub returns-in_err-flagged-2-clause-steps : goal.returns-in_err-flagged-2-clause-steps
returns-in_err-flagged-2-clause-steps c =
    as_is (fixed-flag c.args.w c.args.b c.requires.flag c.if-w-eq-DICTIONARY.false)
    (stopped_by (after_fixed c.args.w) (rw c.fixed.ensures at c.in_err-flagged-2.ensures.decided) c.from_residual-in_err-flagged-2.ensures)

pub returns-then-w-eq-OBJECT_VECTOR-clause-steps : goal.returns-then-w-eq-OBJECT_VECTOR-clause-steps
unfolding work_of use_work
returns-then-w-eq-OBJECT_VECTOR-clause-steps c =
    let e : c.default-then-w-eq-OBJECT_VECTOR.result ≡ no_trait = search rules in
    as_is (fixed-flag c.args.w c.args.b c.requires.flag c.if-w-eq-DICTIONARY.false)
    (after_it (after_fixed c.args.w) (rw c.fixed.ensures at c.in_ok-flagged-2.ensures.decided)
    (as_is (objects_after c.args.w c.if-w-eq-OBJECT_VECTOR.true) (waits (rw (c.string_work.ensures, e)))))

pub returns-clause-steps : goal.returns-clause-steps
returns-clause-steps c =
    as_is (fixed-flag c.args.w c.args.b c.requires.flag c.if-w-eq-DICTIONARY.false)
    (after_it (after_fixed c.args.w) (rw c.fixed.ensures at c.in_ok-flagged-2.ensures.decided)
    (as_is (raw_after c.args.w c.if-w-eq-OBJECT_VECTOR.false) c.filling.ensures.steps))
