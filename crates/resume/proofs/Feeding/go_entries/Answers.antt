-- No entry left, or the next one.
use Rattle.std.proofs.Common.{◌≡◌, rules}
use Rattle.rows.specs.Memory.{no_key}
use Rattle.resume.proofs.Moves.{goes_as}
use Rattle.resume.proofs.Tasks.{no-entries, more-entries}
use Rattle.resume.proofs.Feeding.go_entries.Goals as goal

pub returns-then-f-eq0-clause-goes : goal.returns-then-f-eq0-clause-goes
returns-then-f-eq0-clause-goes c = goes_as (λ ts c' m. no-entries _ _ _ _ _ _ _ _ _ _ c.requires.listed c.if-f-eq0.true) c.finish.ensures.goes

pub returns-clause-goes : goal.returns-clause-goes
returns-clause-goes c = goes_as (λ ts c' m. more-entries _ _ _ _ _ _ _ _ _ _ c.requires.listed c.if-f-eq0.false) (let e : c.default.result ≡ no_key = search rules in rw e at c.open_next.ensures.goes)
