-- A byte of a text, for the one text that its work has: the last, or one before.
use mathlib.Core.Path.{◌≡◌, refl, sym, ap, ◌∙◌}
use mathlib.Core.List.{List}
use Prim.Native.Nat.{ℕ, zero, suc, ◌-◌}
use native.Mathlib.Omega.{arith}
use lib.Dec.{eqb}
use Rattle.rows.specs.declared.Cursor.{Cursor}
use Rattle.rows.specs.declared.Span.{Span}
use Rattle.rows.specs.Memory.{Memory}
use Rattle.utf8.specs.States.{step_of}
use Rattle.format.specs.declared.Frame.{Frame}
use Rattle.format.specs.declared.Work.{Work}
use Rattle.format.specs.Decide.{on_store, stored}
use Rattle.format.specs.Step.{Text, State, wait, on, broken, at_text, text_done, act}
use Rattle.format.specs.Numbers.{no_work, work_of, with_text}
use Rattle.states.specs.Purposes.{IsText}
use Rattle.states.proofs.Purposes.{text_of, texts}

-- after the byte is stored, the text test being t
unfoldable pub after_text : List Frame → Text → Span → ℕ → ℕ → Unit {0} → Cursor → Memory → State
after_text ts x s zero t y = text_done ts x s (eqb t 0)
after_text ts x s (suc n) t y = wait (at_text x s n t) ts

text-act : (ts : List Frame) (x : Text) (s : Span) (n t b : ℕ) (c : Cursor) (m : Memory)
    → act (at_text x s n t) b ts c m ≡ on (on_store (stored s n b) m c) m (after_text ts x s n (step_of t b))
unfolding act after_text
text-act ts x s zero t b c m = refl
text-act ts x s (suc n) t b c m = refl

text-after : (ts : List Frame) (x : Text) (s : Span) (n t : ℕ) (c : Cursor) (m : Memory) → (n ≡ 0 → ⊥) → after_text ts x s n t tt c m ≡ wait (at_text x s (n - 1) t) ts c m
unfolding after_text
text-after ts x s zero t c m h = absurd (h refl)
text-after ts x s (suc n) t c m h = let e : suc n - 1 ≡ n = omega arith in ap (λ k. wait (at_text x s k t) ts c m) (sym e)

module _ (w : Work) (h : IsText w) where
  pub text-work-of : (left part : ℕ) → with_text no_work w (λ y. work_of (at_text y w.span left part)) ≡ work_of (at_text (text_of w) w.span left part)
  text-work-of left part = texts no_work w (λ y. work_of (at_text y w.span left part)) h

  pub text-stored : (b : ℕ) (ts : List Frame) (c : Cursor) (m : Memory)
      → with_text (broken m) w (λ y. act (at_text y w.span w.left w.part) b ts c m)
      ≡ on (on_store (stored w.span w.left b) m c) m (after_text ts (text_of w) w.span w.left (step_of w.part b))
  text-stored b ts c m =
      texts (broken m) w (λ y. act (at_text y w.span w.left w.part) b ts c m) h ∙ text-act ts (text_of w) w.span w.left w.part b c m

  pub text-last : (t : ℕ) → w.left ≡ 0 → (ts : List Frame) (c : Cursor) (m : Memory)
      → after_text ts (text_of w) w.span w.left t tt c m ≡ with_text (broken m) w (λ y. text_done ts y w.span (eqb t 0) c m)
  unfolding after_text
  text-last t e ts c m = rw e (sym (texts (broken m) w (λ y. text_done ts y w.span (eqb t 0) c m) h))

  pub text-more : (t : ℕ) → (w.left ≡ 0 → ⊥) → (ts : List Frame) (c : Cursor) (m : Memory)
      → after_text ts (text_of w) w.span w.left t tt c m ≡ wait (at_text (text_of w) w.span (w.left - 1) t) ts c m
  text-more t l ts c m = text-after ts (text_of w) w.span w.left t c m l
