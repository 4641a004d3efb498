-- A string's text, for the one use that its work has.
use Rattle.std.proofs.Common.{◌≡◌, List, ◌≤◌, sym, Bool, arith}
use borrow.Author.Tests.{ne_eqb}
use Rattle.rows.specs.declared.Cursor.{Cursor}
use Rattle.rows.specs.declared.Span.{Span}
use Rattle.rows.specs.Memory.{Memory}
use Rattle.format.specs.declared.Frame.{Frame}
use Rattle.format.specs.declared.Work.{Work}
use Rattle.format.specs.Decide.{on_strings, text_end}
use Rattle.format.specs.Step.{Use, on, broken, had, text_done}
use Rattle.format.specs.Numbers.{with_use, with_text}
use Rattle.format.specs.Codes.{purpose_xml, purpose_string, purpose_vector_class}
use Rattle.states.specs.Purposes.{IsUse}
use Rattle.states.proofs.Purposes.{use_of, uses}

-- a purpose that is none of a string's
pub no_use : {A : Type 0} (a : A) (w : Work) (f : Use → A) → (purpose_string ≤ w.purpose → w.purpose ≤ purpose_vector_class → ⊥) → with_use a w f ≡ a
no_use a w f h =
    rw (ne_eqb w.purpose 11 (λ e. h (omega arith) (omega arith)), ne_eqb w.purpose 12 (λ e. h (omega arith) (omega arith)), ne_eqb w.purpose 13 (λ e. h (omega arith) (omega arith)))
    (rw (ne_eqb w.purpose 14 (λ e. h (omega arith) (omega arith)), ne_eqb w.purpose 15 (λ e. h (omega arith) (omega arith)))
    (rw (ne_eqb w.purpose 16 (λ e. h (omega arith) (omega arith)), ne_eqb w.purpose 17 (λ e. h (omega arith) (omega arith)))))

module _ (w : Work) (h : IsUse w) (ts : List Frame) (c : Cursor) (m : Memory) where
  pub use_had : (p : Span) → had ts (use_of w) p c m ≡ with_use (broken m) w (λ u. had ts u p c m)
  use_had p = sym (uses (broken m) w (λ u. had ts u p c m) h)

  pub use_text : (p : Span) (valid : Bool) → (w.purpose ≡ purpose_xml → ⊥)
      → with_text (broken m) w (λ x. text_done ts x p valid c m) ≡ on (on_strings (text_end p valid) m c) m (λ s. had ts (use_of w) s)
  unfolding text_done
  use_text p valid n = rw (ne_eqb w.purpose purpose_xml n, uses (broken m) w (λ u. on (on_strings (text_end p valid) m c) m (λ s. had ts u s)) h)
