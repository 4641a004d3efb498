-- An object that is there and used.
use mathlib.Core.Path.{sym}
use Prim.Native.Nat.{ℕ}
use borrow.Author.Tests.{le-leb, lt-leb, lt-ltb, le-ltb}
use Rattle.decide.specs.Outcomes.{old_object}
use Rattle.decide.proofs.Refusals.{stops}
use Rattle.decide.proofs.old_object.Goals as goal

pub returns-then-objects-c : goal.returns-then-objects-c
unfolding old_object
returns-then-objects-c c = sym (rw (lt-ltb _ _ c.if-objects-c.true, stops ℕ c.lost.ensures))

pub returns-then-c-i : goal.returns-then-c-i
unfolding old_object
returns-then-c-i c = sym (rw (le-ltb _ _ c.if-objects-c.false, le-leb _ _ c.if-c-i.true, stops ℕ c.refuse.ensures))

pub returns : goal.returns
unfolding old_object
returns c = sym (rw (le-ltb _ _ c.if-objects-c.false, lt-leb _ _ c.if-c-i.false))
