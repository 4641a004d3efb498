use Prim.Native.Nat.{ℕ, ◌-◌}
use Rattle.format.specs.Standard.{Tree}
use Rattle.format.specs.Writing.{these}
use Rattle.writer.specs.Pieces.{names_at}
use Rattle.writer.proofs.Streams.{Rest}
use Rattle.writer.proofs.Writer.names.Given as goal

abbrev pub invariant-loop : goal.invariant-loop
invariant-loop l = (f : ℕ → Tree) → Rest l.initial.self l.self (λ R B. these (names_at f R B l.row (l.n - l.counter))) (λ R B. these (names_at f R B l.first l.n))
