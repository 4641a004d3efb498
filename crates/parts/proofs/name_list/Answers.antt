-- A name and its place among the names, so many times.
use Rattle.std.proofs.Common.{rules}
use Rattle.scan.proofs.Laws.{then, fails, given, out-err, left-all, left-as, left-read, left-then}
use Rattle.parts.proofs.Names.{names-all, names_more, names-none}
use Rattle.parts.proofs.name_list.Goals as goal

pub loop-init : goal.loop-init
loop-init c = (left-all _ (names-all _ _ _ _), search rules)

pub returns-in_err-s-clause-reads : goal.returns-in_err-s-clause-reads
returns-in_err-s-clause-reads c = out-err c.from_residual.ensures (left-read (left-as (names_more _ _ c.loop-test.true) c.loop.invariant.0) (fails _ _ c.in_err-s.ensures.reads))

pub returns-in_err-named-clause-reads : goal.returns-in_err-named-clause-reads
returns-in_err-named-clause-reads c = out-err c.from_residual-in_err-named.ensures (left-read (left-as (names_more _ _ c.loop-test.true) c.loop.invariant.0)
    (then _ _ c.in_ok-s.ensures.reads (fails _ _ c.in_err-named.ensures.reads)))

pub loop-preserved : goal.loop-preserved
loop-preserved c = (
  left-then _ _ (left-then _ _ (left-as (names_more _ _ c.loop-test.true) c.loop.invariant.0) c.in_ok-s.ensures.reads) c.in_ok-named.ensures.reads,
  search rules,
)

pub returns-clause-reads : goal.returns-clause-reads
returns-clause-reads c = left-read (left-as (names-none _ _ c.loop-test.false) c.loop.invariant.0) given
