use Rattle.std.specs.Prelude.{◌≡◌}
use Rattle.decide.specs.Spared.{OnlyRows}
use Rattle.resume.specs.Steps.{loans_of}
use Rattle.resume.proofs.Popped.{Popped}
use Rattle.resume.proofs.Feeding.popping.Given as goal

abbrev pub invariant-loop-self : goal.invariant-loop-self
invariant-loop-self l = Popped l.initial.self l.self × OnlyRows (loans_of l.initial.self) (loans_of l.self) × (l.self.cursor ≡ l.initial.self.cursor)

abbrev pub decreases-loop-self : goal.decreases-loop-self
decreases-loop-self l = l.self.depth
