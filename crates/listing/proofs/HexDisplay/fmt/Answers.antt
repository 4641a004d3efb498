-- The digits of the next bytes go behind those that are written.
use Rattle.std.proofs.Common.{ℕ, List, ◌++◌, sym, ap, refl, true, ◌∙◌, rules, append_assoc, append-nil}
use Rattle.std.proofs.Output.{has_written_append, has_written_of_eq}
use Rattle.std.proofs.lemmas.List.{nil_from_length}
use Rattle.std.specs.Slice.Iter.{chunks_rest}
use Rattle.listing.specs.Hex.{hex_of}
use Rattle.listing.proofs.Digits.{hex_of-append}
use Rattle.listing.proofs.HexDisplay.fmt.Goals as goal

pub loop-few-preserved : goal.loop-few-preserved
loop-few-preserved g c =
    let steps = c.in-Some.ensures.steps in (
      search rules,
      tt,
      steps.0 ∙ c.loop-few.invariant.2,
      λ plain.
          let so_far = c.loop-few.invariant.3 plain in (
            so_far.0 ++ hex_of c.in-Some.few.now,
            has_written_append _ _ _ _ _ _ so_far.1 (c.in_ok-write_few.ensures so_far.1.plain (refl {a = true})),
            append_assoc so_far.0 _ _
                ∙ ap (λ (t : List ℕ). so_far.0 ++ t) (sym (hex_of-append c.in-Some.few.now (chunks_rest c.next.new.self)) ∙ ap hex_of (sym steps.1.0))
                ∙ so_far.2,
          ),
    )

pub returns-clause-writes : goal.returns-clause-writes
unfolding hex_of
returns-clause-writes g c = λ plain _.
    let so_far = c.loop-few.invariant.3 plain in
    let none = nil_from_length _ c.in-None.ensures.steps.1.0 in
    has_written_of_eq _ _ _ _ _ (rw (← c.if-is_empty.ensures) (rw (none, append-nil) at so_far.2)) so_far.1
