-- The bytes, in their place.
use native.Mathlib.Omega.{arith}
use mathlib.Core.Path.{refl, ap, ◌∙◌}
use mathlib.Core.List.{List}
use Prim.Native.Nat.{ℕ, ◌+◌}
use lib.Seq.{sets}
use Rattle.rows.specs.Memory.{memory}
use Rattle.rows.proofs.Parts.{part_slice}
use Rattle.scan.proofs.Laws.{store-long}
use Rattle.scan.proofs.Reading.copy.Goals as goal

pub returns : goal.returns
returns c = (
  ap (λ (B : List ℕ). memory c.args.self.now.rows.now B c.args.self.now.strings.now c.args.self.now.objects.now c.args.self.now.traits.now
      c.args.self.now.names.now)
      (c.copy.ensures ∙ ap (sets c.args.self.now.store.now c.args.s.begin) (part_slice c.args.self.now.cursor.at (c.args.self.now.cursor.at + c.args.s.size)
      c.args.self.now.message.now (omega arith) c.requires.1)),
  refl,
  (refl, (refl, store-long _ _ _ _ _ _ _ c.copy.auto.dst)),
)
