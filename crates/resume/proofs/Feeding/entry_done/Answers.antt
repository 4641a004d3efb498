-- By the number of the task.
use types.Run.{OneOf}
use Rattle.std.proofs.Common.{[], ◌∷◌, ◌<◌, ◌⊎◌, rules}
use Rattle.resume.proofs.Moves.{gives_as, gives_broken}
use Rattle.resume.proofs.Tasks.{counts-one, counts-two, counts-value, entry_keys, strange-task, entry-strange}
use Rattle.resume.proofs.Feeding.entry_done.Goals as goal

pub returns-in-1-clause-enters : goal.returns-in-1-clause-enters
returns-in-1-clause-enters c =
    let t : OneOf (1 ∷ 4 ∷ 5 ∷ []) c.args.f.task = search rules in
    gives_as (λ c' m k. counts-one _ _ _ _ _ _ _ _ _ t) c.count_entry-in-1.ensures.enters

pub returns-in-2-clause-enters : goal.returns-in-2-clause-enters
returns-in-2-clause-enters c =
    let t : OneOf (2 ∷ 3 ∷ []) c.args.f.task = search rules in
    gives_as (λ c' m k. counts-two _ _ _ _ _ _ _ _ _ t) c.count_entry-in-2.ensures.enters

pub returns-in-6-clause-enters : goal.returns-in-6-clause-enters
returns-in-6-clause-enters c = gives_as (λ c' m k. entry_keys _ _ _ _ c.in-6.is) c.key_done.ensures.enters

pub returns-in-7-clause-enters : goal.returns-in-7-clause-enters
returns-in-7-clause-enters c = gives_as (λ c' m k. counts-value _ _ _ _ _ _ _ _ _ c.in-7.is) c.count_entry.ensures.enters

pub returns-in_default-clause-enters : goal.returns-in_default-clause-enters
returns-in_default-clause-enters c =
    let t : (c.args.f.task < 1) ⊎ (7 < c.args.f.task) = search rules in
    rw c.lost.ensures (gives_broken (λ c' m k. entry-strange _ _ _ _ (strange-task _ t)))
