-- What stands before `from` is passed over; nothing is left, the rest is folded, or nothing can follow.
use native.Mathlib.Omega.{arith}
use mathlib.Core.Path.{sym, ap, ◌∙◌}
use lib.ListN.{length}
use Rattle.std.proofs.lemmas.Slice.{between_to_end}
use Rattle.utf8.specs.States.{fold_of}
use Rattle.utf8.proofs.Fold.{fold_end, fold_lost}
use Rattle.utf8.proofs.run.Goals as goal

pub returns-then-s-from : goal.returns-then-s-from
returns-then-s-from c = sym (sym c.plain-from.ensures.1 ∙ fold_end _ _ _ c.if-s-from.true)

pub returns-then-k-le-BROKEN : goal.returns-then-k-le-BROKEN
returns-then-k-le-BROKEN c =
    c.run_on.ensures ∙ ap (fold_of c.args.k) (between_to_end c.args.s.now c.plain-from.result (length c.args.s.now) (omega arith)) ∙ c.plain-from.ensures.1

pub returns : goal.returns
returns c = sym (sym c.plain-from.ensures.1 ∙ fold_lost _ _ _ (omega arith) c.if-s-from.false)
