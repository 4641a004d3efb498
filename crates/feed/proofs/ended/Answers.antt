-- What has ended stays, or it is refused.
use mathlib.Core.Path.{sym, ◌∙◌}
use Rattle.feed.proofs.Calls.{end_stays, end-refuses}
use Rattle.feed.proofs.ended.Goals as goal

pub returns-then-has_ended-clause-call : goal.returns-then-has_ended-clause-call
returns-then-has_ended-clause-call c = c.answered.ensures _ ∙ end_stays _ _ _ (sym c.has_ended.ensures ∙ c.if-has_ended.true)

pub returns-clause-call : goal.returns-clause-call
returns-clause-call c =
    c.answered-2.ensures _
    ∙ end-refuses _ _ _ _ _ _ (sym c.has_ended.ensures ∙ c.if-has_ended.false) c.end_refusal.ensures c.head_after-refused.ensures c.clear.ensures.0
