-- The tests of the marker's number, and the table.
use mathlib.Core.Path.{sym, ◌∙◌}
use borrow.Author.Tests.{eq-eqb, ne_eqb, lt-ltb, le-ltb}
use Rattle.decide.proofs.Markers.{body-by}
use Rattle.decide.proofs.body_of.Goals as goal

pub returns-then-b-lt-MARKER_DATE : goal.returns-then-b-lt-MARKER_DATE
returns-then-b-lt-MARKER_DATE c = sym (rw (lt-ltb _ _ c.if-b-lt-MARKER_DATE.true)) ∙ body-by c.args.b

pub returns-then-b-eq-MARKER_DATE : goal.returns-then-b-eq-MARKER_DATE
returns-then-b-eq-MARKER_DATE c = sym (rw (le-ltb _ _ c.if-b-lt-MARKER_DATE.false, eq-eqb _ _ c.if-b-eq-MARKER_DATE.true)) ∙ body-by c.args.b

pub returns-then-b-eq-MARKER_ARRAY : goal.returns-then-b-eq-MARKER_ARRAY
returns-then-b-eq-MARKER_ARRAY c = sym (rw (le-ltb _ _ c.if-b-lt-MARKER_DATE.false, ne_eqb _ _ c.if-b-eq-MARKER_DATE.false, eq-eqb _ _ c.if-b-eq-MARKER_ARRAY.true)) ∙ body-by
    c.args.b

pub returns-then-b-lt-MARKER_BYTE_ARRAY : goal.returns-then-b-lt-MARKER_BYTE_ARRAY
returns-then-b-lt-MARKER_BYTE_ARRAY c = sym (rw (
  le-ltb _ _ c.if-b-lt-MARKER_DATE.false,
  ne_eqb _ _ c.if-b-eq-MARKER_DATE.false,
  ne_eqb _ _
      c.if-b-eq-MARKER_ARRAY.false,
  lt-ltb _ _ c.if-b-lt-MARKER_BYTE_ARRAY.true,
)) ∙ body-by c.args.b

pub returns-then-b-eq-MARKER_BYTE_ARRAY : goal.returns-then-b-eq-MARKER_BYTE_ARRAY
returns-then-b-eq-MARKER_BYTE_ARRAY c = sym (rw (
  le-ltb _ _ c.if-b-lt-MARKER_DATE.false,
  ne_eqb _ _ c.if-b-eq-MARKER_DATE.false,
  ne_eqb _ _
      c.if-b-eq-MARKER_ARRAY.false,
  le-ltb _ _ c.if-b-lt-MARKER_BYTE_ARRAY.false,
  eq-eqb _ _ c.if-b-eq-MARKER_BYTE_ARRAY.true,
)) ∙ body-by
    c.args.b

pub returns-then-b-lt-MARKER_DOUBLE_VECTOR : goal.returns-then-b-lt-MARKER_DOUBLE_VECTOR
returns-then-b-lt-MARKER_DOUBLE_VECTOR c = sym (rw (
  le-ltb _ _ c.if-b-lt-MARKER_DATE.false,
  ne_eqb _ _ c.if-b-eq-MARKER_DATE.false,
  ne_eqb _ _ c.if-b-eq-MARKER_ARRAY.false,
  le-ltb _ _ c.if-b-lt-MARKER_BYTE_ARRAY.false,
  ne_eqb _ _ c.if-b-eq-MARKER_BYTE_ARRAY.false,
  lt-ltb _ _ c.if-b-lt-MARKER_DOUBLE_VECTOR.true,
)) ∙ body-by c.args.b

pub returns-then-b-eq-MARKER_DOUBLE_VECTOR : goal.returns-then-b-eq-MARKER_DOUBLE_VECTOR
returns-then-b-eq-MARKER_DOUBLE_VECTOR c = sym (rw (
  le-ltb _ _ c.if-b-lt-MARKER_DATE.false,
  ne_eqb _ _ c.if-b-eq-MARKER_DATE.false,
  ne_eqb _ _ c.if-b-eq-MARKER_ARRAY.false,
  le-ltb _ _
      c.if-b-lt-MARKER_BYTE_ARRAY.false,
  ne_eqb _ _ c.if-b-eq-MARKER_BYTE_ARRAY.false,
  le-ltb _ _ c.if-b-lt-MARKER_DOUBLE_VECTOR.false,
  eq-eqb _ _
      c.if-b-eq-MARKER_DOUBLE_VECTOR.true,
)) ∙ body-by c.args.b

pub returns-then-b-eq-MARKER_OBJECT_VECTOR : goal.returns-then-b-eq-MARKER_OBJECT_VECTOR
returns-then-b-eq-MARKER_OBJECT_VECTOR c = sym (rw (
  le-ltb _ _ c.if-b-lt-MARKER_DATE.false,
  ne_eqb _ _ c.if-b-eq-MARKER_DATE.false,
  ne_eqb _ _ c.if-b-eq-MARKER_ARRAY.false,
  le-ltb _ _
      c.if-b-lt-MARKER_BYTE_ARRAY.false,
  ne_eqb _ _ c.if-b-eq-MARKER_BYTE_ARRAY.false,
  le-ltb _ _ c.if-b-lt-MARKER_DOUBLE_VECTOR.false,
  ne_eqb _ _ c.if-b-eq-MARKER_DOUBLE_VECTOR.false,
  eq-eqb _ _ c.if-b-eq-MARKER_OBJECT_VECTOR.true,
)) ∙ body-by c.args.b

pub returns-then-b-eq-MARKER_DICTIONARY : goal.returns-then-b-eq-MARKER_DICTIONARY
returns-then-b-eq-MARKER_DICTIONARY c = sym (rw (
  le-ltb _ _ c.if-b-lt-MARKER_DATE.false,
  ne_eqb _ _ c.if-b-eq-MARKER_DATE.false,
  ne_eqb _ _ c.if-b-eq-MARKER_ARRAY.false,
  le-ltb _ _ c.if-b-lt-MARKER_BYTE_ARRAY.false,
  ne_eqb _ _
      c.if-b-eq-MARKER_BYTE_ARRAY.false,
  le-ltb _ _ c.if-b-lt-MARKER_DOUBLE_VECTOR.false,
  ne_eqb _ _ c.if-b-eq-MARKER_DOUBLE_VECTOR.false,
  ne_eqb _ _ c.if-b-eq-MARKER_OBJECT_VECTOR.false,
  eq-eqb _ _ c.if-b-eq-MARKER_DICTIONARY.true,
)) ∙ body-by c.args.b

pub returns : goal.returns
returns c = sym (rw (
  le-ltb _ _ c.if-b-lt-MARKER_DATE.false,
  ne_eqb _ _ c.if-b-eq-MARKER_DATE.false,
  ne_eqb _ _ c.if-b-eq-MARKER_ARRAY.false,
  le-ltb _ _ c.if-b-lt-MARKER_BYTE_ARRAY.false,
  ne_eqb _ _
      c.if-b-eq-MARKER_BYTE_ARRAY.false,
  le-ltb _ _ c.if-b-lt-MARKER_DOUBLE_VECTOR.false,
  ne_eqb _ _ c.if-b-eq-MARKER_DOUBLE_VECTOR.false,
  ne_eqb _ _ c.if-b-eq-MARKER_OBJECT_VECTOR.false,
  ne_eqb _ _ c.if-b-eq-MARKER_DICTIONARY.false,
)) ∙ body-by c.args.b
