-- A string's word, for the one use that its work has.
use Rattle.std.proofs.Common.{◌≡◌, List, ℕ, zero, suc, ◌-◌, refl, ◌∙◌, arith}
use Rattle.rows.specs.declared.Cursor.{Cursor}
use Rattle.rows.specs.declared.Span.{Span}
use Rattle.rows.specs.Memory.{Memory}
use Rattle.wire.specs.declared.Size.TheVariants.{Old, New}
use Rattle.format.specs.declared.Frame.{Frame}
use Rattle.format.specs.declared.Work.{Work}
use Rattle.format.specs.Codes.{mode_text, purpose_string}
use Rattle.format.specs.Decide.{looking, old_text, reserved}
use Rattle.format.specs.Step.{Use, wait, on, broken, table_text, at_text, had, string_sized, reserved_for}
use Rattle.format.specs.Numbers.{no_work, use_work, work_of, with_use}
use Rattle.states.specs.Purposes.{IsUse}
use Rattle.states.proofs.Purposes.{use_of, uses, between, purposed}
use Rattle.resume.specs.Steps.{reserved_by}

use-reserved : (w : Work) → IsUse w → (s : Span) (m : Memory) (c : Cursor) → reserved_for (use_of w) s m c ≡ reserved_by w s m c
unfolding reserved_for
use-reserved w h s m c =
    between (λ p. reserved_for (use_of (purposed w p)) s m c ≡ reserved_by (purposed w p) s m c) purpose_string 7
    (refl, (refl, (refl, (refl, (refl, (refl, (refl, tt))))))) w.purpose (omega arith) (omega arith)

new-sized : (ts : List Frame) (u : Use) (n : ℕ) (c : Cursor) (m : Memory) → (n ≡ 0 → ⊥)
    → string_sized ts u (New n) c m
    ≡ on (looking (λ m. reserved n m.store) m c) m (λ s c m. on (reserved_for u s m c) m (λ x. wait (at_text (table_text u) s (n - 1) 0) ts))
unfolding string_sized
new-sized ts u zero c m h = absurd (h refl)
new-sized ts u (suc n) c m h = let e : suc n - 1 ≡ n = omega arith in rw e

module _ (w : Work) (h : IsUse w) where
  -- the work of its text
  pub use_work-of : (s : Span) (left part : ℕ) → with_use no_work w (λ u. use_work mode_text u left part s) ≡ work_of (at_text (table_text (use_of w)) s left part)
  unfolding work_of
  use_work-of s left part = uses no_work w (λ u. use_work mode_text u left part s) h

  module _ (ts : List Frame) (c : Cursor) (m : Memory) where
    pub use_old : (i : ℕ) → with_use (broken m) w (λ u. string_sized ts u (Old i) c m) ≡ on (looking (λ m. old_text i m.strings) m c) m (λ s. had ts (use_of w) s)
    unfolding string_sized
    use_old i = uses (broken m) w (λ u. string_sized ts u (Old i) c m) h

    pub use_new : (n : ℕ) → (n ≡ 0 → ⊥)
        → with_use (broken m) w (λ u. string_sized ts u (New n) c m)
        ≡ on (looking (λ m. reserved n m.store) m c) m (λ s c m. on (reserved_by w s m c) m (λ y. wait (at_text (table_text (use_of w)) s (n - 1) 0) ts))
    use_new n l =
        uses (broken m) w (λ u. string_sized ts u (New n) c m) h ∙ new-sized ts (use_of w) n c m l ∙ simp (use-reserved w h)
