-- The number of an integer.
use mathlib.Core.Path.{ap, ◌∙◌}
use Prim.Native.Nat.{ℕ}
use mir.Syntax.{w64}
use mir.ValLaws.{to_z-of_z}
use Rattle.wire.specs.Sign.{column_of}
use Rattle.format.specs.Decide.{numbered, integer_end}
use Rattle.decide.specs.Outcomes.{leaving}
use Rattle.decide.proofs.integer_end.Goals as goal

pub returns : goal.returns
unfolding integer_end
returns c = c.numbered.ensures ∙ ap (λ (n : ℕ). leaving c.args.rows.now (numbered c.args.row n c.args.rows.now
    c.args.c)) (c.column.ensures ∙ ap column_of (to_z-of_z w64 c.integer.result
    (record { sfits = c.integer.type_inv }) ∙ c.integer.ensures))
