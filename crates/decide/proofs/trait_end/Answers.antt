-- A trait that holds enters the traits.
use native.Mathlib.Omega.{arith}
use mathlib.Core.Path.{sym, ◌∙◌}
use Prim.Native.Nat.{◌*◌}
use lib.ListN.{length-set}
use borrow.Author.Tests.{le-leb, lt-leb, lt-ltb, le-ltb}
use Rattle.format.specs.Decide.{trait_end}
use Rattle.decide.proofs.Stores.{five_stored}
use Rattle.decide.proofs.Refusals.{stops}
use Rattle.decide.proofs.trait_end.Goals as goal

pub returns-then-traits-used : goal.returns-then-traits-used
unfolding trait_end
returns-then-traits-used c = sym (rw (lt-ltb _ _ c.if-traits-used.true, stops Unit c.lost.ensures))

pub returns-then-not-trait_holds : goal.returns-then-not-trait_holds
unfolding trait_end
returns-then-not-trait_holds c = sym (rw (
  le-ltb _ _ c.if-traits-used.false,
  sym c.trait_holds.ensures ∙ c.if-not-trait_holds.true,
  stops Unit c.lost-then-not-trait_holds.ensures,
))

pub returns-then-traits-used-2 : goal.returns-then-traits-used-2
unfolding trait_end
returns-then-traits-used-2 c = sym (rw (
  le-ltb _ _ c.if-traits-used.false,
  sym c.trait_holds.ensures ∙ c.if-not-trait_holds.false,
  le-leb _ _ c.if-traits-used-2.true,
  stops Unit c.refuse.ensures,
))

pub bounds-traits-used : goal.bounds-traits-used
bounds-traits-used c = omega arith

pub bounds-traits-used-2 : goal.bounds-traits-used-2
bounds-traits-used-2 c = simp length-set (omega arith)

pub bounds-traits-used-3 : goal.bounds-traits-used-3
bounds-traits-used-3 c = simp length-set (omega arith)

pub bounds-traits-used-4 : goal.bounds-traits-used-4
bounds-traits-used-4 c = simp length-set (omega arith)

pub bounds-traits-used-5 : goal.bounds-traits-used-5
bounds-traits-used-5 c = simp length-set (omega arith)

pub returns : goal.returns
unfolding trait_end
returns c = sym (rw (
  le-ltb _ _ c.if-traits-used.false,
  sym c.trait_holds.ensures ∙ c.if-not-trait_holds.false,
  lt-leb _ _ c.if-traits-used-2.false,
  five_stored c.args.traits.now (c.args.c.traits * 5) c.args.t.begin c.args.t.size c.args.t.dynamic
      c.args.t.first c.args.t.count,
))
