-- A value opens what it holds with one less left; a row's values, the loop and the value come down by thirds.
use native.Mathlib.Omega.{arith}
use mathlib.Core.Path.{refl}
use Rattle.format.specs.Standard.{plain, null}
use Rattle.writer.proofs.Streams as streams
use Rattle.writer.proofs.Bounds as bounds
use Rattle.writer.proofs.Lists as lists
use Rattle.writer.proofs.Nodes as nodes
use Rattle.writer.proofs.Writer.+written.Goals as goal
use Rattle.writer.proofs.Writer.+written.Goals.{members-then-keyed+in_ok-key, members-else-keyed}

pub array-size_word-requires : goal.array-size_word-requires
array-size_word-requires t c = omega (arith, bounds.two-few c.requires c.column-count.ensures (omega arith) refl c.column-count2.ensures)

pub array-returns-in_err-head : goal.array-returns-in_err-head
array-returns-in_err-head t c =
    streams.leaves _ c.from_residual.ensures.1 (nodes.array-by c.args.left c.args.j c.column-count.ensures c.column-count2.ensures refl c.requires
    (streams.stops _ _ (rw c.size_word.ensures at c.in_err-head.ensures)))

pub array-overflow_add-j : goal.array-overflow_add-j
array-overflow_add-j t c = omega (arith, bounds.two-few c.requires c.column-count.ensures (omega arith) refl c.column-count2.ensures)

pub array-returns-in_err-members : goal.array-returns-in_err-members
array-returns-in_err-members t c =
    streams.leaves _ c.from_residual-in_err-members.ensures.1
    (nodes.array-by c.args.left c.args.j c.column-count.ensures c.column-count2.ensures refl c.requires
    (streams.goes _ _ (rw c.size_word.ensures at c.in_ok-head.ensures) (streams.stops _ _ c.in_err-members.ensures)))

pub array-returns-in_err-byte : goal.array-returns-in_err-byte
array-returns-in_err-byte t c =
    streams.leaves _ c.from_residual-in_err-byte.ensures.1
    (nodes.array-by c.args.left c.args.j c.column-count.ensures c.column-count2.ensures refl c.requires
    (streams.goes _ _ (rw c.size_word.ensures at c.in_ok-head.ensures) (streams.goes _ _ c.in_ok-members.ensures
    (streams.stops _ _ c.in_err-byte.ensures))))

pub array-overflow_add-j-2 : goal.array-overflow_add-j-2
array-overflow_add-j-2 t c = omega (arith, bounds.two-few c.requires c.column-count.ensures (omega arith) refl c.column-count2.ensures)

pub array-returns : goal.array-returns
array-returns t c =
    nodes.array-by c.args.left c.args.j c.column-count.ensures c.column-count2.ensures c.row_after.ensures c.requires
    (streams.goes _ _ (rw c.size_word.ensures at c.in_ok-head.ensures) (streams.goes _ _ c.in_ok-members.ensures
    (streams.goes _ _ c.in_ok-byte.ensures c.members-2.ensures)))

pub dictionary-flagged-requires : goal.dictionary-flagged-requires
dictionary-flagged-requires t c = omega (arith, bounds.dictionary-few c.requires c.column-count.ensures refl)

pub dictionary-returns-in_err-flagged : goal.dictionary-returns-in_err-flagged
dictionary-returns-in_err-flagged t c =
    streams.leaves _ c.from_residual.ensures.1 (nodes.dictionary-by c.args.left c.args.j c.column-count.ensures c.column.ensures c.requires
    (streams.stops _ _ c.in_err-flagged.ensures))

pub dictionary-overflow_add-j : goal.dictionary-overflow_add-j
dictionary-overflow_add-j t c = omega (arith, bounds.dictionary-few c.requires c.column-count.ensures refl)

pub dictionary-overflow_mul-count : goal.dictionary-overflow_mul-count
dictionary-overflow_mul-count t c = omega (arith, bounds.dictionary-few c.requires c.column-count.ensures refl)

pub dictionary-returns : goal.dictionary-returns
dictionary-returns t c =
    nodes.dictionary-by c.args.left c.args.j c.column-count.ensures c.column.ensures c.requires
    (streams.goes _ _ c.in_ok-flagged.ensures c.members.ensures)

pub members-returns-in_err-key : goal.members-returns-in_err-key
members-returns-in_err-key t c =
    streams.leaves _ c.from_residual.ensures.1
    (lists.key_stops c.args.left c.args.keyed _ _ _ c.loop.invariant c.loop-test.true c.if-keyed.true c.in_err-key.ensures)

pub members-returns-in_err-value : goal.members-returns-in_err-value
members-returns-in_err-value t c =
    streams.leaves _ c.from_residual-in_err-value.ensures.1 (lists.value_stops c.args.left c.args.keyed _ _ _ c.loop.invariant c.loop-test.true
    (elim c.if-keyed.branch [
      | members-then-keyed+in_ok-key w ↦ lists.with_key _ w.if-keyed.true w.self-is w.in_ok-key.ensures
      | members-else-keyed w ↦ lists.without_key _ w.if-keyed.false w.self-is
    ]) c.in_err-value.ensures)

pub members-loop-preserved : goal.members-loop-preserved
members-loop-preserved t c = lists.members_more c.args.left c.args.keyed _ _ _ c.loop.invariant c.loop-test.true (elim c.if-keyed.branch [
  | members-then-keyed+in_ok-key w ↦ lists.with_key _ w.if-keyed.true w.self-is w.in_ok-key.ensures
  | members-else-keyed w ↦ lists.without_key _ w.if-keyed.false w.self-is
]) c.in_ok-value.ensures c.column-row.ensures

pub members-returns : goal.members-returns
members-returns t c = lists.members-end c.args.left c.args.keyed _ _ _ c.loop.invariant c.loop-test.false

pub object-returns-in_err-object_head : goal.object-returns-in_err-object_head
object-returns-in_err-object_head t c =
    streams.leaves _ c.from_residual.ensures.1 (nodes.object-by c.args.left c.args.j c.column-count.ensures c.column-count2.ensures refl c.requires
    (streams.stops _ _ (c.in_err-object_head.ensures _)))

pub object-overflow_add-j : goal.object-overflow_add-j
object-overflow_add-j t c = omega (arith, bounds.two-few c.requires c.column-count.ensures (omega arith) refl c.column-count2.ensures)

pub object-members-requires : goal.object-members-requires
object-members-requires t c = (omega arith, streams.still (c.object_head.ensures (λ k. plain null)).same c.requires.fit)

pub object-returns-in_err-members : goal.object-returns-in_err-members
object-returns-in_err-members t c =
    streams.leaves _ c.from_residual-in_err-members.ensures.1
    (nodes.object-by c.args.left c.args.j c.column-count.ensures c.column-count2.ensures refl c.requires
    (streams.goes _ _ (c.in_ok-object_head.ensures _) (streams.stops _ _ c.in_err-members.ensures)))

pub object-returns-then-count2-eq0 : goal.object-returns-then-count2-eq0
object-returns-then-count2-eq0 t c =
    nodes.object-by c.args.left c.args.j c.column-count.ensures c.column-count2.ensures refl c.requires
    (streams.goes _ _ (c.in_ok-object_head.ensures _) (streams.goes _ _ c.in_ok-members.ensures (nodes.no-dynamic _ _ _ c.if-count2-eq0.true)))

pub object-overflow_add-j-2 : goal.object-overflow_add-j-2
object-overflow_add-j-2 t c = omega (arith, bounds.two-few c.requires c.column-count.ensures (omega arith) refl c.column-count2.ensures)

pub object-members-requires-2 : goal.object-members-requires-2
object-members-requires-2 t c =
    (omega arith, streams.still c.members.ensures.same (streams.still (c.object_head.ensures (λ k. plain null)).same c.requires.fit))

pub object-returns-in_err-members-2 : goal.object-returns-in_err-members-2
object-returns-in_err-members-2 t c =
    streams.leaves _ c.from_residual-in_err-members-2.ensures.1
    (nodes.object-by c.args.left c.args.j c.column-count.ensures c.column-count2.ensures c.row_after.ensures c.requires
    (streams.goes _ _ (c.in_ok-object_head.ensures _) (streams.goes _ _ c.in_ok-members.ensures (nodes.dynamic-by _ _ _ c.if-count2-eq0.false
    (streams.stops _ _ c.in_err-members-2.ensures)))))

pub object-returns : goal.object-returns
object-returns t c =
    nodes.object-by c.args.left c.args.j c.column-count.ensures c.column-count2.ensures c.row_after.ensures c.requires
    (streams.goes _ _ (c.in_ok-object_head.ensures _) (streams.goes _ _ c.in_ok-members.ensures (nodes.dynamic-by _ _ _ c.if-count2-eq0.false
    (streams.goes _ _ c.in_ok-members-2.ensures c.byte.ensures))))

pub value-returns-then-left-eq0 : goal.value-returns-then-left-eq0
value-returns-then-left-eq0 t c = nodes.deep-by _ _ c.if-left-eq0.true

pub value-returns-in-9 : goal.value-returns-in-9
value-returns-in-9 t c = nodes.value-by _ _ c.if-left-eq0.false c.home_of-j.ensures c.array.ensures

pub value-returns-in-10 : goal.value-returns-in-10
value-returns-in-10 t c = nodes.value-by _ _ c.if-left-eq0.false c.home_of-j.ensures c.object.ensures

pub value-returns-in-16 : goal.value-returns-in-16
value-returns-in-16 t c = nodes.value-by _ _ c.if-left-eq0.false c.home_of-j.ensures c.vector.ensures

pub value-returns-in-17 : goal.value-returns-in-17
value-returns-in-17 t c = nodes.value-by _ _ c.if-left-eq0.false c.home_of-j.ensures c.dictionary.ensures

pub value-returns-in_default : goal.value-returns-in_default
value-returns-in_default t c = nodes.value-by _ _ c.if-left-eq0.false c.home_of-j.ensures (nodes.plain-by _ _ (c.plain.ensures _ _))

pub vector-returns-in_err-vector_head : goal.vector-returns-in_err-vector_head
vector-returns-in_err-vector_head t c =
    streams.leaves _ c.from_residual.ensures.1 (nodes.vector-by c.args.left c.args.j c.column-count.ensures c.requires
    (streams.stops _ _ (c.in_err-vector_head.ensures _)))

pub vector-overflow_add-j : goal.vector-overflow_add-j
vector-overflow_add-j t c = omega (arith, bounds.vector-few c.requires c.column-count.ensures refl)

pub vector-members-requires : goal.vector-members-requires
vector-members-requires t c = (omega arith, streams.still (c.vector_head.ensures (λ k. plain null)).same c.requires.fit)

pub vector-returns : goal.vector-returns
vector-returns t c =
    nodes.vector-by c.args.left c.args.j c.column-count.ensures c.requires (streams.goes _ _ (c.in_ok-vector_head.ensures _) c.members.ensures)
