-- The readers of values, a cycle over the depth that is left: seven times it for a value, and more for each function above it, up to what follows a marker.
use native.Mathlib.Omega.{arith}
use mathlib.Core.Path.{refl, sym, ap, ◌∙◌}
use Prim.Native.Nat.{ℕ}
use Rattle.decide.specs.Outcomes.{kind_in, body_in}
use Rattle.format.specs.Decide as d
use Rattle.format.specs.Reading.{by, value, couple, members, new_of, marked}
use Rattle.parts.specs.Heads.{on_rest}
use Rattle.scan.proofs.Laws.{then, fails, chosen, given, alike, out-err, left-all, left-as, left-read, left-then}
use Rattle.values.proofs.Loops.{entries-all, entries-none, entries-next, pairs_next, pair-over, pair-more, left-pair, text-less, value-less, decided-same}
use Rattle.values.proofs.Splits.{vector-split, sized-split, object-split}
use Rattle.values.proofs.Values.{is-no-key, none-of, below-size, dynamics-none, dynamics-some, value-short, value-marker, value-deep, value-marked}
use Rattle.values.proofs.+reading.Goals as goal

pub array-pairs-requires : goal.array-pairs-requires
array-pairs-requires t c = (omega arith, tt)

pub array-returns-in_err-pairs : goal.array-returns-in_err-pairs
unfolding new_of
array-returns-in_err-pairs t c = out-err c.from_residual.ensures (fails _ _ (fails _ _ c.in_err-pairs.ensures))

pub array-items-requires : goal.array-items-requires
array-items-requires t c = (omega arith, tt)

pub array-returns-in_err-items : goal.array-returns-in_err-items
unfolding new_of
array-returns-in_err-items t c = out-err c.from_residual-in_err-items.ensures (fails _ _ (then _ _ c.in_ok-pairs.ensures c.in_err-items.ensures))

pub array-returns : goal.array-returns
unfolding new_of
array-returns t c = then _ _ (then _ _ c.in_ok-pairs.ensures c.in_ok-items.ensures) c.closed.ensures.reads

pub items-loop-i-init : goal.items-loop-i-init
items-loop-i-init t c = left-all _ (entries-all _ _ _ _ _ _ _)

pub items-nested-requires : goal.items-nested-requires
items-nested-requires t c = (omega arith, tt)

pub items-returns-in_err-nested : goal.items-returns-in_err-nested
items-returns-in_err-nested t c = out-err c.from_residual.ensures (left-read (left-as (entries-next _ _ _ _ _ c.loop-i-test.true) c.loop-i.invariant) (fails _ _ (fails _ _ (chosen (value c.args.left) (is-no-key c.default.result c.default.ensures) c.in_err-nested.ensures))))

pub items-returns-in_err-counted : goal.items-returns-in_err-counted
items-returns-in_err-counted t c = out-err c.from_residual-in_err-counted.ensures (left-read (left-as (entries-next _ _ _ _ _ c.loop-i-test.true) c.loop-i.invariant) (fails _ _ (then _ _ (chosen (value c.args.left) (is-no-key c.default.result c.default.ensures) c.in_ok-nested.ensures) c.in_err-counted.ensures.reads.0)))

pub items-loop-i-preserved : goal.items-loop-i-preserved
items-loop-i-preserved t c = left-then _ _ (left-as (entries-next _ _ _ _ _ c.loop-i-test.true) c.loop-i.invariant) (then _ _ (chosen (value c.args.left) (is-no-key c.default.result c.default.ensures) c.in_ok-nested.ensures) c.in_ok-counted.ensures.reads.0)

pub items-returns : goal.items-returns
items-returns t c = left-read (left-as (entries-none _ _ _ _ _ c.loop-i-test.false) c.loop-i.invariant) given

pub couples-loop-i-init : goal.couples-loop-i-init
couples-loop-i-init t c = left-all _ (entries-all _ _ _ _ _ _ _)

pub couples-nested-requires : goal.couples-nested-requires
couples-nested-requires t c = (omega arith, tt)

pub couples-returns-in_err-nested : goal.couples-returns-in_err-nested
unfolding couple
couples-returns-in_err-nested t c = out-err c.from_residual.ensures (left-read (left-as (entries-next _ _ _ _ _ c.loop-i-test.true) c.loop-i.invariant) (fails _ _ (fails _ _ (fails _ _ (fails _ _ (chosen (value c.args.left) (is-no-key c.default.result c.default.ensures) c.in_err-nested.ensures))))))

pub couples-returns-in_err-key_end : goal.couples-returns-in_err-key_end
unfolding couple
couples-returns-in_err-key_end t c = out-err c.from_residual-in_err-key_end.ensures (left-read (left-as (entries-next _ _ _ _ _ c.loop-i-test.true) c.loop-i.invariant) (fails _ _ (fails _ _ (fails _ _ (then _ _ (chosen (value c.args.left) (is-no-key c.default.result c.default.ensures) c.in_ok-nested.ensures) c.in_err-key_end.ensures)))))

pub couples-nested-requires-in-loop-i : goal.couples-nested-requires-in-loop-i
couples-nested-requires-in-loop-i t c = (omega arith, tt)

pub couples-returns-in_err-nested-2 : goal.couples-returns-in_err-nested-2
unfolding couple
couples-returns-in_err-nested-2 t c = out-err c.from_residual-in_err-nested-2.ensures (left-read (left-as (entries-next _ _ _ _ _ c.loop-i-test.true) c.loop-i.invariant) (fails _ _ (fails _ _ (then _ _ (then _ _ (chosen (value c.args.left) (is-no-key c.default.result c.default.ensures) c.in_ok-nested.ensures) c.in_ok-key_end.ensures) (chosen (value c.args.left) (is-no-key c.default-in-loop-i.result c.default-in-loop-i.ensures) c.in_err-nested-2.ensures)))))

pub couples-returns-in_err-counted : goal.couples-returns-in_err-counted
unfolding couple
couples-returns-in_err-counted t c = out-err c.from_residual-in_err-counted.ensures (left-read (left-as (entries-next _ _ _ _ _ c.loop-i-test.true) c.loop-i.invariant) (fails _ _ (then _ _ (then _ _ (then _ _ (chosen (value c.args.left) (is-no-key c.default.result c.default.ensures) c.in_ok-nested.ensures) c.in_ok-key_end.ensures) (chosen (value c.args.left) (is-no-key c.default-in-loop-i.result c.default-in-loop-i.ensures) c.in_ok-nested-2.ensures)) c.in_err-counted.ensures.reads.0)))

pub couples-loop-i-preserved : goal.couples-loop-i-preserved
unfolding couple
couples-loop-i-preserved t c = left-then _ _ (left-as (entries-next _ _ _ _ _ c.loop-i-test.true) c.loop-i.invariant) (then _ _ (then _ _ (then _ _ (chosen (value c.args.left) (is-no-key c.default.result c.default.ensures) c.in_ok-nested.ensures) c.in_ok-key_end.ensures) (chosen (value c.args.left) (is-no-key c.default-in-loop-i.result c.default-in-loop-i.ensures) c.in_ok-nested-2.ensures)) c.in_ok-counted.ensures.reads.0)

pub couples-returns : goal.couples-returns
couples-returns t c = left-read (left-as (entries-none _ _ _ _ _ c.loop-i-test.false) c.loop-i.invariant) given

pub sealed-loop-i-init : goal.sealed-loop-i-init
sealed-loop-i-init t c = (left-all _ (entries-all _ _ _ _ _ _ _), omega arith)

pub sealed-overflow_add-t : goal.sealed-overflow_add-t
sealed-overflow_add-t t c = omega (arith, c.loop-i.invariant.1)

pub sealed-returns-in_err-key : goal.sealed-returns-in_err-key
sealed-returns-in_err-key t c = out-err c.from_residual.ensures (left-read (left-as (entries-next _ _ _ _ _ c.loop-i-test.true) c.loop-i.invariant.0) (fails _ _ (fails _ _ (fails _ _ c.in_err-key.ensures.0))))

pub sealed-nested-requires : goal.sealed-nested-requires
sealed-nested-requires t c = (omega arith, tt)

pub sealed-returns-in_err-nested : goal.sealed-returns-in_err-nested
sealed-returns-in_err-nested t c = out-err c.from_residual-in_err-nested.ensures (left-read (left-as (entries-next _ _ _ _ _ c.loop-i-test.true) c.loop-i.invariant.0) (fails _ _ (fails _ _ (then _ _ c.in_ok-key.ensures.0 c.in_err-nested.ensures))))

pub sealed-returns-in_err-counted : goal.sealed-returns-in_err-counted
sealed-returns-in_err-counted t c = out-err c.from_residual-in_err-counted.ensures (left-read (left-as (entries-next _ _ _ _ _ c.loop-i-test.true) c.loop-i.invariant.0) (fails _ _ (then _ _ (then _ _ c.in_ok-key.ensures.0 c.in_ok-nested.ensures) c.in_err-counted.ensures.reads.0)))

pub sealed-loop-i-preserved : goal.sealed-loop-i-preserved
sealed-loop-i-preserved t c = (left-then _ _ (left-as (entries-next _ _ _ _ _ c.loop-i-test.true) c.loop-i.invariant.0) (then _ _ (then _ _ c.in_ok-key.ensures.0 c.in_ok-nested.ensures) c.in_ok-counted.ensures.reads.0), omega (arith, c.in_ok-key.ensures.1))

pub sealed-returns : goal.sealed-returns
sealed-returns t c = left-read (left-as (entries-none _ _ _ _ _ c.loop-i-test.false) c.loop-i.invariant.0) given

pub pairs-loop-s-init : goal.pairs-loop-s-init
pairs-loop-s-init t c = left-all _ refl

pub pairs-returns-in_err-s : goal.pairs-returns-in_err-s
pairs-returns-in_err-s t c = out-err c.from_residual.ensures (left-read (left-as (pairs_next _ _ _ _) c.loop-s.invariant) (fails _ _ c.in_err-s.ensures.reads))

pub pairs-returns-then-s-eq0 : goal.pairs-returns-then-s-eq0
pairs-returns-then-s-eq0 t c = left-read (left-as (pairs_next _ _ _ _) c.loop-s.invariant) (then _ _ c.in_ok-s.ensures.reads (pair-over _ _ _ _ _ _ c.if-s-eq0.true given))

pub pairs-nested-requires : goal.pairs-nested-requires
pairs-nested-requires t c = (omega arith, tt)

pub pairs-returns-in_err-nested : goal.pairs-returns-in_err-nested
pairs-returns-in_err-nested t c = out-err c.from_residual-in_err-nested.ensures (left-read (left-as (pairs_next _ _ _ _) c.loop-s.invariant) (then _ _ c.in_ok-s.ensures.reads (pair-more _ _ _ _ _ _ _ c.if-s-eq0.false (fails _ _ (fails _ _ (chosen (value c.args.left) c.from.ensures c.in_err-nested.ensures))))))

pub pairs-returns-in_err-counted : goal.pairs-returns-in_err-counted
pairs-returns-in_err-counted t c = out-err c.from_residual-in_err-counted.ensures (left-read (left-as (pairs_next _ _ _ _) c.loop-s.invariant) (then _ _ c.in_ok-s.ensures.reads (pair-more _ _ _ _ _ _ _ c.if-s-eq0.false (fails _ _ (then _ _ (chosen (value c.args.left) c.from.ensures c.in_ok-nested.ensures) c.in_err-counted.ensures.reads.0)))))

pub pairs-overflow_add-done : goal.pairs-overflow_add-done
pairs-overflow_add-done t c = omega (arith, c.in_ok-counted.ensures.reads.1)

pub pairs-loop-s-smaller : goal.pairs-loop-s-smaller
pairs-loop-s-smaller t c = omega (arith, text-less _ _ _ c.in_ok-s.ensures.reads, value-less _ _ _ _ (chosen (value c.args.left) c.from.ensures c.in_ok-nested.ensures), decided-same _ _ _ c.in_ok-counted.ensures.reads.0)

pub pairs-loop-s-preserved : goal.pairs-loop-s-preserved
pairs-loop-s-preserved t c = left-then _ _ (left-pair _ _ _ _ _ _ c.if-s-eq0.false (left-then _ _ (left-as (pairs_next _ _ _ _) c.loop-s.invariant) c.in_ok-s.ensures.reads)) (then _ _ (chosen (value c.args.left) c.from.ensures c.in_ok-nested.ensures) c.in_ok-counted.ensures.reads.0)

pub vector-returns-in_err-vector_head : goal.vector-returns-in_err-vector_head
vector-returns-in_err-vector_head t c = out-err c.from_residual.ensures (alike (vector-split _ _ _ _ _ _) (fails _ _ (fails _ _ c.in_err-vector_head.ensures.reads)))

pub vector-items-requires : goal.vector-items-requires
vector-items-requires t c = (omega arith, tt)

pub vector-returns-in_err-items : goal.vector-returns-in_err-items
vector-returns-in_err-items t c = out-err c.from_residual-in_err-items.ensures (alike (vector-split _ _ _ _ _ _) (fails _ _ (then _ _ c.in_ok-vector_head.ensures.reads c.in_err-items.ensures)))

pub vector-returns : goal.vector-returns
vector-returns t c = alike (vector-split _ _ _ _ _ _) (then _ _ (then _ _ c.in_ok-vector_head.ensures.reads c.in_ok-items.ensures) c.closed.ensures.reads)

pub dictionary-returns-in_err-b : goal.dictionary-returns-in_err-b
unfolding new_of
dictionary-returns-in_err-b t c = out-err c.from_residual.ensures (fails _ _ c.in_err-b.ensures.reads)

pub dictionary-returns-in_err-flagged : goal.dictionary-returns-in_err-flagged
unfolding new_of
dictionary-returns-in_err-flagged t c = out-err c.from_residual-in_err-flagged.ensures (then _ _ c.in_ok-b.ensures.reads (fails _ _ (fails _ _ (chosen (λ (f : ℕ). by (d.on_rows (d.flagged c.args.row f))) c.weak.ensures c.in_err-flagged.ensures.reads))))

pub dictionary-couples-requires : goal.dictionary-couples-requires
dictionary-couples-requires t c = (omega arith, tt)

pub dictionary-returns-in_err-couples : goal.dictionary-returns-in_err-couples
unfolding new_of
dictionary-returns-in_err-couples t c = out-err c.from_residual-in_err-couples.ensures (then _ _ c.in_ok-b.ensures.reads (fails _ _ (then _ _ (chosen (λ (f : ℕ). by (d.on_rows (d.flagged c.args.row f))) c.weak.ensures c.in_ok-flagged.ensures.reads) c.in_err-couples.ensures)))

pub dictionary-returns : goal.dictionary-returns
unfolding new_of
dictionary-returns t c = then _ _ c.in_ok-b.ensures.reads (then _ _ (then _ _ (chosen (λ (f : ℕ). by (d.on_rows (d.flagged c.args.row f))) c.weak.ensures c.in_ok-flagged.ensures.reads) c.in_ok-couples.ensures) c.closed.ensures.reads)

pub dynamics-pairs-requires : goal.dynamics-pairs-requires
dynamics-pairs-requires t c = (omega arith, tt)

pub dynamics-returns-then-dynamic-eq0 : goal.dynamics-returns-then-dynamic-eq0
dynamics-returns-then-dynamic-eq0 t c = dynamics-none _ _ _ c.if-dynamic-eq0.true given

pub dynamics-returns : goal.dynamics-returns
dynamics-returns t c = dynamics-some _ _ _ c.if-dynamic-eq0.false c.pairs.ensures

pub object_members-sealed-requires : goal.object_members-sealed-requires
object_members-sealed-requires t c = (omega arith, tt)

pub object_members-returns-in_err-sealed : goal.object_members-returns-in_err-sealed
unfolding members
object_members-returns-in_err-sealed t c = out-err c.from_residual.ensures (fails _ _ (fails _ _ c.in_err-sealed.ensures))

pub object_members-dynamics-requires : goal.object_members-dynamics-requires
object_members-dynamics-requires t c = (omega arith, tt)

pub object_members-returns-in_err-dynamics : goal.object_members-returns-in_err-dynamics
unfolding members
object_members-returns-in_err-dynamics t c = out-err c.from_residual-in_err-dynamics.ensures (fails _ _ (then _ _ c.in_ok-sealed.ensures c.in_err-dynamics.ensures))

pub object_members-returns : goal.object_members-returns
unfolding members
object_members-returns t c = then _ _ (then _ _ c.in_ok-sealed.ensures c.in_ok-dynamics.ensures) c.closed.ensures.reads

pub object-returns-in_err-t : goal.object-returns-in_err-t
object-returns-in_err-t t c = out-err c.from_residual.ensures (alike (object-split _ _ _ _ _) (fails _ _ c.in_err-t.ensures.reads))

pub object-returns-in_default : goal.object-returns-in_default
object-returns-in_default t c = alike (object-split _ _ _ _ _) (then _ _ c.in_ok-t.ensures.reads (chosen (on_rest _) (sym (none-of _ c.in_default.not-Some)) given))

pub object-object_members-requires : goal.object-object_members-requires
object-object_members-requires t c = (omega arith, tt)

pub object-returns : goal.object-returns
object-returns t c = alike (object-split _ _ _ _ _) (then _ _ c.in_ok-t.ensures.reads (chosen (on_rest _) (sym c.in-Some.is) c.object_members.ensures))

pub sized_value-returns-in_err-n : goal.sized_value-returns-in_err-n
sized_value-returns-in_err-n t c = out-err c.from_residual.ensures (alike (sized-split _ _ _ _ _ _) (fails _ _ c.in_err-n.ensures.reads.0))

pub sized_value-returns-in_default : goal.sized_value-returns-in_default
sized_value-returns-in_default t c = alike (sized-split _ _ _ _ _ _) (then _ _ c.in_ok-n.ensures.reads.0 (chosen (on_rest _) (sym (none-of _ c.in_default.not-Some)) given))

pub sized_value-new_value-requires : goal.sized_value-new_value-requires
sized_value-new_value-requires t c = (omega arith, below-size _ c.in-Some.is c.in_ok-n.ensures.reads.1)

pub sized_value-returns : goal.sized_value-returns
sized_value-returns t c = alike (sized-split _ _ _ _ _ _) (then _ _ c.in_ok-n.ensures.reads.0 (chosen (on_rest _) (sym c.in-Some.is) c.new_value.ensures))

pub new_value-returns-in-Xml : goal.new_value-returns-in-Xml
new_value-returns-in-Xml t c = chosen (λ b. new_of (value c.args.left) c.args.row b c.args.n) (ap body_in (sym c.in-Xml.is)) (c.xml.ensures.reads _)

pub new_value-returns-in-Date : goal.new_value-returns-in-Date
new_value-returns-in-Date t c = chosen (λ b. new_of (value c.args.left) c.args.row b c.args.n) (ap body_in (sym c.in-Date.is)) (c.date.ensures.reads _ _)

pub new_value-returns-in-Bytes : goal.new_value-returns-in-Bytes
new_value-returns-in-Bytes t c = chosen (λ b. new_of (value c.args.left) c.args.row b c.args.n) (ap body_in (sym c.in-Bytes.is)) (c.bytes.ensures.reads _)

pub new_value-returns-in-RawFour : goal.new_value-returns-in-RawFour
new_value-returns-in-RawFour t c = chosen (λ b. new_of (value c.args.left) c.args.row b c.args.n) (ap body_in (sym c.in-RawFour.is)) (c.raw.ensures.reads _)

pub new_value-returns-in-RawEight : goal.new_value-returns-in-RawEight
new_value-returns-in-RawEight t c = chosen (λ b. new_of (value c.args.left) c.args.row b c.args.n) (ap body_in (sym c.in-RawEight.is)) (c.raw-in-RawEight.ensures.reads _)

pub new_value-array-requires : goal.new_value-array-requires
new_value-array-requires t c = (omega arith, tt)

pub new_value-vector-requires : goal.new_value-vector-requires
new_value-vector-requires t c = (omega arith, tt)

pub new_value-dictionary-requires : goal.new_value-dictionary-requires
new_value-dictionary-requires t c = (omega arith, tt)

pub marked-object-requires : goal.marked-object-requires
marked-object-requires t c = (omega arith, tt)

pub marked-sized_value-requires : goal.marked-sized_value-requires
marked-sized_value-requires t c = (omega arith, tt)

pub marked-returns-in-Leaf : goal.marked-returns-in-Leaf
unfolding marked
marked-returns-in-Leaf t c = chosen (marked (value c.args.left) c.args.row) (sym (ap kind_in c.in-Leaf.is) ∙ c.kind_of.ensures) given

pub marked-returns-in-Integer : goal.marked-returns-in-Integer
marked-returns-in-Integer t c = chosen (marked (value c.args.left) c.args.row) (sym (ap kind_in c.in-Integer.is) ∙ c.kind_of.ensures) (c.integer.ensures.reads _)

pub marked-returns-in-Double : goal.marked-returns-in-Double
marked-returns-in-Double t c = chosen (marked (value c.args.left) c.args.row) (sym (ap kind_in c.in-Double.is) ∙ c.kind_of.ensures) (c.double.ensures.reads _)

pub marked-returns-in-String : goal.marked-returns-in-String
marked-returns-in-String t c = chosen (marked (value c.args.left) c.args.row) (sym (ap kind_in c.in-String.is) ∙ c.kind_of.ensures) (c.string.ensures.reads _)

pub nested-returns-in_err-b : goal.nested-returns-in_err-b
nested-returns-in_err-b t c = out-err c.from_residual.ensures (value-short _ _ c.in_err-b.ensures.reads)

pub nested-returns-in_err-row : goal.nested-returns-in_err-row
nested-returns-in_err-row t c = out-err c.from_residual-in_err-row.ensures (value-marker _ c.in_ok-b.ensures.reads _ c.in_err-row.ensures.reads)

pub nested-returns-then-left-eq0 : goal.nested-returns-then-left-eq0
nested-returns-then-left-eq0 t c = value-deep _ c.in_ok-b.ensures.reads _ c.in_ok-row.ensures.reads c.if-left-eq0.true c.lost.ensures

pub nested-marked-requires : goal.nested-marked-requires
nested-marked-requires t c = (omega (arith, c.if-left-eq0.false), tt)

pub nested-returns : goal.nested-returns
nested-returns t c = value-marked _ c.in_ok-b.ensures.reads _ c.in_ok-row.ensures.reads c.if-left-eq0.false c.marked.ensures
