-- A plain octet between characters, a number above the states, or a piece of one octet.
use native.Mathlib.Omega.{arith}
use mathlib.Core.Path.{sym, ◌∙◌}
use Rattle.utf8.proofs.States.{broken-step}
use Rattle.utf8.proofs.Moves.{plain_step}
use Rattle.utf8.proofs.Fold.{fold_one}
use Rattle.utf8.proofs.step.Goals as goal

pub returns-then-b-lt-PAST_PLAIN : goal.returns-then-b-lt-PAST_PLAIN
returns-then-b-lt-PAST_PLAIN c = rw c.if-k-eq-BETWEEN.true (sym (plain_step _ c.if-b-lt-PAST_PLAIN.true))

pub returns-then-k-gt-BROKEN : goal.returns-then-k-gt-BROKEN
returns-then-k-gt-BROKEN c = sym (broken-step _ _ (omega arith))

pub returns : goal.returns
returns c = c.run_on.ensures ∙ fold_one _ _
