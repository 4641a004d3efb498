-- Room in the store for a text or a body: of no bytes, or of some.
use Rattle.std.proofs.Common.{◌≡◌, ℕ, zero, suc, ◌*◌, ◌^◌, ◌<◌, refl, arith}
use Rattle.rows.specs.declared.Cursor.{Cursor}
use Rattle.rows.specs.declared.Span.{Span}
use Rattle.rows.specs.Memory.{Memory, no_span}
use Rattle.decide.specs.declared.Width.{Width}
use Rattle.decide.specs.declared.Width.TheVariants as width
use Rattle.decide.specs.Outcomes.{width_in}
use Rattle.format.specs.Decide.{looking, on_rows, reserved, bodied, width_of}
use Rattle.format.specs.Step.{State, on, roomy}

module _ (row n : ℕ) (c : Cursor) (m : Memory) (k : Span → Cursor → Memory → State) where
  pub no_room : n ≡ 0 → roomy row n c m k ≡ k no_span c m
  unfolding roomy
  no_room z = rw z

pub some-room : (row n : ℕ) (c : Cursor) (m : Memory) (k : Span → Cursor → Memory → State) → (n ≡ 0 → ⊥)
    → roomy row n c m k ≡ on (looking (λ m. reserved n m.store) m c) m (λ s c m. on (on_rows (bodied row s) m c) m (λ x. k s))
unfolding roomy
some-room row zero c m k h = absurd (h refl)
some-room row (suc n) c m k h = refl

-- the bytes of as many entries as a word can say
pub width_small : (w : Width) (n k : ℕ) → k ≡ width_of (width_in w) → n < 2 ^ 30 → n * k < 2 ^ 33
width_small width.Four n k e h = rw e (omega arith)
width_small width.Eight n k e h = rw e (omega arith)
