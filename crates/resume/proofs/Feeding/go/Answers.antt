-- By the number of the task.
use Rattle.std.proofs.Common.{◌≡◌, ◌<◌, ◌⊎◌, refl, rules}
use Rattle.rows.specs.Memory.{no_key}
use Rattle.format.specs.Numbers.{work_of, use_work, no_trait}
use Rattle.resume.proofs.Moves.{goes_as, as_is, waits, waiting, refuses, refusing}
use Rattle.resume.proofs.Tasks.{go-pairs, go-dynamics, go-values, go-strange, strange-task}
use Rattle.resume.proofs.Feeding.go.Goals as goal

pub returns-in-1-clause-goes : goal.returns-in-1-clause-goes
unfolding work_of use_work
returns-in-1-clause-goes c =
    let e : c.default.result ≡ no_trait = search rules in
    waiting (as_is (λ ts c' m. go-pairs _ _ _ _ _ _ _ _ _ _ c.in-1.is) (waits (rw (c.string_work.ensures, e))))

pub returns-in-2-clause-goes : goal.returns-in-2-clause-goes
unfolding work_of use_work
returns-in-2-clause-goes c =
    let e : c.default-in-2.result ≡ no_trait = search rules in
    waiting (as_is (λ ts c' m. go-dynamics _ _ _ _ _ _ _ _ _ _ c.in-2.is) (waits (rw (c.string_work-in-2.ensures, e))))

pub returns-in-7-clause-goes : goal.returns-in-7-clause-goes
returns-in-7-clause-goes c =
    let e : c.default-in-7.result ≡ no_key = search rules in
    goes_as (λ ts c' m. go-values _ _ _ _ _ _ _ _ _ _ c.in-7.is) (rw e at c.open_next.ensures.goes)

pub returns-in_default-clause-goes : goal.returns-in_default-clause-goes
returns-in_default-clause-goes c =
    let t : (c.args.f.task < 1) ⊎ (7 < c.args.f.task) = search rules in
    rw c.lost.ensures (refusing refl (refuses (go-strange _ _ _ _ _ (strange-task _ t))))
