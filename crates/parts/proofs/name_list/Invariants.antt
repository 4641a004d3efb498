-- What is left of the names, and the loans that they don't touch.
use Rattle.std.specs.Prelude.{◌≡◌}
use Prim.Native.Nat.{◌-◌}
use Rattle.decide.specs.Spared.{OnlyNameTexts}
use Rattle.format.specs.Reading.{names}
use Rattle.scan.specs.Reads.{memory_in}
use Rattle.scan.proofs.Laws.{Left}
use Rattle.parts.proofs.name_list.Given as goal

abbrev pub invariant-loop : goal.invariant-loop
invariant-loop l = Left (names (l.n - l.counter)) (names l.n) l.initial.reading l.reading × OnlyNameTexts (memory_in l.initial.reading) (memory_in l.reading)
