-- The loans' test, then the value from zeroed loans; a refusal sets them to zero again.
use mathlib.Core.Path.{refl, sym, ap, ◌∙◌}
use mathlib.Core.List.{List}
use Prim.Native.Nat.{ℕ}
use Rattle.std.specs.Borrow.{Bor}
use Rattle.format.specs.Answers.{read_call}
use Rattle.scan.specs.Reads.{memory_in}
use Rattle.scan.proofs.Laws.{same-then}
use Rattle.values.proofs.Values.{is-no-key, none-of}
use Rattle.whole.proofs.Messages.{some-fault, none-fault, is-fresh, read-fault, read-finished, read-refused}
use Rattle.whole.proofs.read_whole.Goals as goal

pub returns-in-Some : goal.returns-in-Some
returns-in-Some c = let f = some-fault (memory_in c.args.reading.now) c.lent.result c.in-Some.loan c.lent.ensures c.in-Some.ensures in
    (read-fault _ _ _ f.0 f.1, (refl, (refl, refl)))

pub returns-in-Ok : goal.returns-in-Ok
returns-in-Ok c =
    let f = none-fault (memory_in c.args.reading.now) c.lent.result c.lent.ensures (sym (none-of _ c.in_default.not-Some) ∙ c.fault.ensures) in (
      read-finished _ _ _ refl f _ _ _ c.clear.ensures.zero.0 _ (is-no-key c.default.result c.default.ensures) _ (is-fresh _ c.default-reading.ensures) c.in-Ok.ensures.reads.read _ refl ∙ ap (λ (s : Bor (List ℕ)). read_call (memory_in c.args.reading.now) s.now) c.clear.ensures.zero.1.0,
      same-then c.args.reading.now c.clear.new.self c.value.new.reading c.clear.ensures.zero.1 c.in-Ok.ensures.reads.same,
    )

pub returns-in-Err : goal.returns-in-Err
returns-in-Err c =
    let f = none-fault (memory_in c.args.reading.now) c.lent.result c.lent.ensures (sym (none-of _ c.in_default.not-Some) ∙ c.fault.ensures) in (
      read-refused _ _ _ refl f _ _ _ c.clear.ensures.zero.0 _ (is-no-key c.default.result c.default.ensures) _ (is-fresh _ c.default-reading.ensures) c.in-Err.ensures.reads.read _ _ _ refl refl
          c.clear-in-Err.ensures.zero.0 ∙ ap (λ (s : Bor (List ℕ)). read_call (memory_in c.args.reading.now) s.now) c.clear.ensures.zero.1.0,
      same-then c.args.reading.now c.value.new.reading c.clear-in-Err.new.self (same-then c.args.reading.now c.clear.new.self c.value.new.reading c.clear.ensures.zero.1 c.in-Err.ensures.reads.same) c.clear-in-Err.ensures.zero.1,
    )
