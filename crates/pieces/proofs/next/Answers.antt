-- Never begun, not sound, or the byte's.
use mathlib.Core.Path.{refl}
use mathlib.Core.List.{[]}
use Rattle.format.specs.Numbers.{lent_of}
use Rattle.resume.specs.Steps.{loans_of}
use Rattle.resume.proofs.Moves.{kept}
use Rattle.pieces.proofs.Steps.{never-begun, not_sound, stepped-on, deep-enough}
use Rattle.pieces.proofs.next.Goals as goal
use Rattle.pieces.proofs.next.Goals.{then-h-ne-WAITING-via-then-h-ne-WAITING, then-h-ne-WAITING-via-else-h-ne-WAITING+then-not-sound}

pub returns-then-h-ne-WAITING : goal.returns-then-h-ne-WAITING
unfolding lent_of
returns-then-h-ne-WAITING c = elim c.then-h-ne-WAITING.branch [
  | then-h-ne-WAITING-via-then-h-ne-WAITING w ↦
      record { turn = never-begun _ c.args.h _ _ _ c.lost.ensures w.if-h-ne-WAITING.true; same = kept c.args.f.now }
  | then-h-ne-WAITING-via-else-h-ne-WAITING+then-not-sound w ↦
      record {
        turn = not_sound _ c.args.h _ _ w.if-h-ne-WAITING.false _ (w.sound.ensures _ _ refl) _ c.lost.ensures w.if-not-sound.true;
        same = kept c.args.f.now;
      }
]

pub go_on-requires : goal.go_on-requires
unfolding lent_of
go_on-requires c =
    rw c.requires.depth
    (deep-enough 0 c.args.h [] (loans_of c.args.f.now) c.if-h-ne-WAITING.false _ (c.sound.ensures [] (loans_of c.args.f.now) refl) c.if-not-sound.false)

pub returns : goal.returns
unfolding lent_of
returns c =
    record {
      turn = stepped-on _ c.args.h _ _ c.if-h-ne-WAITING.false _ (c.sound.ensures _ _ refl) _ c.if-not-sound.false
          (rw (c.requires.depth, c.requires.cursor) at c.go_on.ensures.turn);
      same = c.go_on.ensures.same;
    }
