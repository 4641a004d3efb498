-- A trait that is there and holds.
use mathlib.Core.Path.{sym, ◌∙◌}
use borrow.Author.Tests.{le-leb, lt-leb, lt-ltb, le-ltb}
use Rattle.rows.specs.declared.Trait.{Trait}
use Rattle.format.specs.Decide.{old_trait}
use Rattle.decide.proofs.Refusals.{stops}
use Rattle.decide.proofs.old_trait.Goals as goal

pub returns-then-traits-c : goal.returns-then-traits-c
unfolding old_trait
returns-then-traits-c c = sym (rw (lt-ltb _ _ c.if-traits-c.true, stops Trait c.lost.ensures))

pub returns-then-c-i : goal.returns-then-c-i
unfolding old_trait
returns-then-c-i c = sym (rw (le-ltb _ _ c.if-traits-c.false, le-leb _ _ c.if-c-i.true, stops Trait c.refuse.ensures))

pub returns-then-trait_holds : goal.returns-then-trait_holds
unfolding old_trait
returns-then-trait_holds c = sym (rw (le-ltb _ _ c.if-traits-c.false, lt-leb _ _ c.if-c-i.false, sym c.trait_holds.ensures ∙ c.if-trait_holds.true))

pub returns : goal.returns
unfolding old_trait
returns c = sym (rw (
  le-ltb _ _ c.if-traits-c.false,
  lt-leb _ _ c.if-c-i.false,
  sym c.trait_holds.ensures ∙ c.if-trait_holds.false,
  stops
      Trait c.lost-2.ensures,
))
