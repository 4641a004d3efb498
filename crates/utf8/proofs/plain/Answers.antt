-- The plain bytes that stand first fold to the same state.
use borrow.Author.Rules.{rules}
use borrow.Author.Tests.{tests}
use Rattle.std.proofs.lemmas.Iterator.{YieldsList-from_slice}
use Rattle.std.proofs.lemmas.Iterator.Search.{position_from_yields_List}
use Rattle.utf8.proofs.Fold.{first_past_plain, fold_past_plain, past_plain}
use Rattle.utf8.proofs.plain.Goals as goal

pub returns : goal.returns
returns c =
    let s = c.args.s.now in
    let found = position_from_yields_List past_plain _ _ c.position.result c.position.ensures.ran (YieldsList-from_slice s cc) (λ x b q k. search (rules, tests)) in
    rw (c.unwrap_or.ensures, found, first_past_plain s, c.if-k-ne-BETWEEN.false) (fold_past_plain s)
