-- A row for the value, unless it is refused.
use mathlib.Core.Path.{sym}
use Prim.Native.Nat.{ℕ}
use borrow.Author.Tests.{eq-eqb, ne_eqb, le-leb, lt-leb, lt-ltb, le-ltb}
use Rattle.rows.specs.Memory.{put_row}
use Rattle.format.specs.Decide.{marker, new_row}
use Rattle.decide.proofs.Refusals.{stops}
use Rattle.decide.proofs.marker.Goals as goal

pub returns-then-rows-used : goal.returns-then-rows-used
unfolding marker
returns-then-rows-used c = sym (rw (lt-ltb _ _ c.if-rows-used.true, stops ℕ c.lost.ensures))

pub returns-then-b-gt-MARKER_LAST : goal.returns-then-b-gt-MARKER_LAST
unfolding marker
returns-then-b-gt-MARKER_LAST c = sym (rw (le-ltb _ _ c.if-rows-used.false, lt-ltb _ _ c.if-b-gt-MARKER_LAST.true, stops ℕ c.refuse.ensures))

pub returns-then-left-eq0 : goal.returns-then-left-eq0
unfolding marker
returns-then-left-eq0 c = sym (rw (
  le-ltb _ _ c.if-rows-used.false,
  le-ltb _ _ c.if-b-gt-MARKER_LAST.false,
  eq-eqb _ _
      c.if-left-eq0.true,
  stops ℕ c.refuse-then-left-eq0.ensures,
))

pub returns-then-rows-used-2 : goal.returns-then-rows-used-2
unfolding marker
returns-then-rows-used-2 c = sym (rw (
  le-ltb _ _ c.if-rows-used.false,
  le-ltb _ _ c.if-b-gt-MARKER_LAST.false,
  ne_eqb _ _
      c.if-left-eq0.false,
  le-leb _ _ c.if-rows-used-2.true,
  stops ℕ c.refuse-then-rows-used-2.ensures,
))

pub returns : goal.returns
unfolding marker new_row put_row
returns c = sym (rw (
  le-ltb _ _ c.if-rows-used.false,
  le-ltb _ _ c.if-b-gt-MARKER_LAST.false,
  ne_eqb _ _ c.if-left-eq0.false,
  lt-leb _ _ c.if-rows-used-2.false,
  c.put_row.ensures,
  lt-ltb _ _ c.if-rows-used-2.false,
  c.row_kind.ensures,
  c.leaf_number.ensures,
  c.leaf_end.ensures,
))
