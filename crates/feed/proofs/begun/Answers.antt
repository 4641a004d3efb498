-- A wrong loan, or a marker is next.
use mathlib.Core.Path.{sym, ◌∙◌}
use Rattle.std.proofs.Common.{rules}
use Rattle.feed.proofs.Calls.{begin-refuses, begin-waits}
use Rattle.feed.proofs.begun.Goals as goal

pub returns-in-Some-clause-call : goal.returns-in-Some-clause-call
returns-in-Some-clause-call c = c.answered.ensures _ ∙ begin-refuses _ _ c.lent-lent.ensures _ _ (sym c.fault.ensures ∙ c.in-Some.is) c.head_after-refused.ensures

pub returns-clause-call : goal.returns-clause-call
returns-clause-call c =
    c.answered-2.ensures _
    ∙ begin-waits _ _ c.lent-lent.ensures _ _ _ _ (sym c.fault.ensures ∙ c.in_default.is) (search rules) (search rules) c.head_after-waiting.ensures c.clear.ensures.0
