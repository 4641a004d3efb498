use native.Mathlib.Omega.{arith}
use Prim.Native.Nat.{◌^◌}
use Rattle.wire.specs.U29.{more_of}
use borrow.Author.Tests.{lt-ltb, le-ltb}
use Rattle.wire.proofs.u29_more.Goals as goal

pub returns-then-n-lt128 : goal.returns-then-n-lt128
unfolding more_of
returns-then-n-lt128 c = simp (lt-ltb c.args.n (2 ^ 7) (omega arith))

pub returns-then-n-lt16384 : goal.returns-then-n-lt16384
unfolding more_of
returns-then-n-lt16384 c = simp (le-ltb c.args.n (2 ^ 7) (omega arith), lt-ltb c.args.n (2 ^ 14) (omega arith))

pub returns-then-n-lt2097152 : goal.returns-then-n-lt2097152
unfolding more_of
returns-then-n-lt2097152 c = simp (
  le-ltb c.args.n (2 ^ 7) (omega arith),
  le-ltb c.args.n (2 ^ 14)
      (omega arith),
  lt-ltb c.args.n (2 ^ 21) (omega arith),
)

pub returns : goal.returns
unfolding more_of
returns c = simp (
  le-ltb c.args.n (2 ^ 7) (omega arith),
  le-ltb c.args.n (2 ^ 14)
      (omega arith),
  le-ltb c.args.n (2 ^ 21) (omega arith),
)
