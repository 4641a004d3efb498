use mathlib.Core.Path.{◌≡◌}
use mathlib.Core.List.{[], ◌∷◌, ◌++◌}
use Prim.Native.Nat.{◌+◌, ◌-◌, ◌%◌, ◌^◌}
use lib.Seq.{sets}
use Rattle.wire.specs.U29.{groups, last_bits}
use Rattle.wire.proofs.put_form.Given as goal

-- what is left to be stored: k - i groups and the last byte
abbrev pub invariant-loop-i : goal.invariant-loop-i
invariant-loop-i l = (l.last ≡ last_bits l.k)
    × (sets l.initial.out l.at (groups l.k l.m ++ (l.n % 2 ^ l.last ∷ [])) ≡ sets l.out (l.at + l.i) (groups (l.k - l.i) l.m ++ (l.n % 2 ^ l.last ∷ [])))
