-- The tests of the marker's number, and the table.
use mathlib.Core.Path.{sym, ◌∙◌}
use borrow.Author.Tests.{eq-eqb, ne_eqb, lt-ltb, le-ltb}
use Rattle.decide.proofs.Markers.{kind-by}
use Rattle.decide.proofs.kind_of.Goals as goal

pub returns-then-b-lt-MARKER_INTEGER : goal.returns-then-b-lt-MARKER_INTEGER
returns-then-b-lt-MARKER_INTEGER c = sym (rw (lt-ltb _ _ c.if-b-lt-MARKER_INTEGER.true)) ∙ kind-by c.args.b

pub returns-then-b-gt-MARKER_LAST : goal.returns-then-b-gt-MARKER_LAST
returns-then-b-gt-MARKER_LAST c = sym (rw (le-ltb _ _ c.if-b-lt-MARKER_INTEGER.false, lt-ltb _ _ c.if-b-gt-MARKER_LAST.true)) ∙ kind-by c.args.b

pub returns-then-b-eq-MARKER_INTEGER : goal.returns-then-b-eq-MARKER_INTEGER
returns-then-b-eq-MARKER_INTEGER c = sym (rw (le-ltb _ _ c.if-b-lt-MARKER_INTEGER.false, le-ltb _ _ c.if-b-gt-MARKER_LAST.false, eq-eqb _ _ c.if-b-eq-MARKER_INTEGER.true)) ∙ kind-by
    c.args.b

pub returns-then-b-eq-MARKER_DOUBLE : goal.returns-then-b-eq-MARKER_DOUBLE
returns-then-b-eq-MARKER_DOUBLE c = sym (rw (
  le-ltb _ _ c.if-b-lt-MARKER_INTEGER.false,
  le-ltb _ _ c.if-b-gt-MARKER_LAST.false,
  ne_eqb _ _
      c.if-b-eq-MARKER_INTEGER.false,
  eq-eqb _ _ c.if-b-eq-MARKER_DOUBLE.true,
)) ∙ kind-by c.args.b

pub returns-then-b-eq-MARKER_STRING : goal.returns-then-b-eq-MARKER_STRING
returns-then-b-eq-MARKER_STRING c = sym (rw (
  le-ltb _ _ c.if-b-lt-MARKER_INTEGER.false,
  le-ltb _ _ c.if-b-gt-MARKER_LAST.false,
  ne_eqb _ _
      c.if-b-eq-MARKER_INTEGER.false,
  ne_eqb _ _ c.if-b-eq-MARKER_DOUBLE.false,
  eq-eqb _ _ c.if-b-eq-MARKER_STRING.true,
)) ∙ kind-by
    c.args.b

pub returns-then-b-eq-MARKER_OBJECT : goal.returns-then-b-eq-MARKER_OBJECT
returns-then-b-eq-MARKER_OBJECT c = sym (rw (
  le-ltb _ _ c.if-b-lt-MARKER_INTEGER.false,
  le-ltb _ _ c.if-b-gt-MARKER_LAST.false,
  ne_eqb _ _ c.if-b-eq-MARKER_INTEGER.false,
  ne_eqb _ _ c.if-b-eq-MARKER_DOUBLE.false,
  ne_eqb _ _ c.if-b-eq-MARKER_STRING.false,
  eq-eqb _ _ c.if-b-eq-MARKER_OBJECT.true,
)) ∙ kind-by c.args.b

pub returns : goal.returns
returns c = sym (rw (
  le-ltb _ _ c.if-b-lt-MARKER_INTEGER.false,
  le-ltb _ _ c.if-b-gt-MARKER_LAST.false,
  ne_eqb _ _ c.if-b-eq-MARKER_INTEGER.false,
  ne_eqb _ _ c.if-b-eq-MARKER_DOUBLE.false,
  ne_eqb _ _ c.if-b-eq-MARKER_STRING.false,
  ne_eqb _ _ c.if-b-eq-MARKER_OBJECT.false,
  c.body_of.ensures,
)) ∙ kind-by c.args.b
