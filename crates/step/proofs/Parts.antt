-- A byte of a word or of eight bytes, for the one thing that its work is of.
use mathlib.Core.Path.{◌≡◌, ◌∙◌}
use mathlib.Core.List.{List}
use Prim.Native.Nat.{ℕ, ◌+◌, ◌*◌, ◌-◌, ◌^◌, ◌<◌}
use native.Mathlib.Omega.{arith}
use Rattle.std.specs.Prelude.{Option, Some, None}
use Rattle.rows.specs.declared.Cursor.{Cursor}
use Rattle.rows.specs.declared.Span.{Span}
use Rattle.rows.specs.Memory.{Memory, no_span}
use Rattle.wire.specs.declared.Part.{Part}
use Rattle.wire.specs.declared.Part.TheVariants.{More, Whole}
use Rattle.wire.specs.U29.{part_of}
use Rattle.wire.specs.Big.{digit_of}
use Rattle.wire.proofs.U29.{Step, step, astray, fourth, last, more}
use Rattle.wire.proofs.Digits.{before_small}
use Rattle.format.specs.declared.Frame.{Frame}
use Rattle.format.specs.declared.Work.{Work}
use Rattle.format.specs.Step.{wait, broken, at_word, at_number, worded, number_done, act, on_part}
use Rattle.format.specs.Numbers.{no_work, work_of, with_word, with_number}
use Rattle.states.specs.Purposes.{IsWord, IsNumber}
use Rattle.states.proofs.Purposes.{word_of, words, number_of, numbers}

-- what four bytes can say
pub whole-small : (left n b m : ℕ) → b < 256 → part_of left n b ≡ Some (Whole m) → m < 2 ^ 30
whole-small left n b m h = within (step left n b)
  where
    within : {x : Option Part} → Step left n b x → x ≡ Some (Whole m) → m < 2 ^ 30
    within (astray a) e = let z : ◌≡◌ {A = ℕ} 0 1 = cc in absurd (omega arith)
    within (more l k f g) e = let z : ◌≡◌ {A = ℕ} 0 1 = cc in absurd (omega arith)
    within (fourth z f) e = let v : n * 2 ^ 8 + b ≡ m = cc in omega arith
    within (last l k f g) e = let v : n * 2 ^ 7 + b ≡ m = cc in omega (arith, before_small 7 3 left f)

module _ (w : Work) (h : IsWord w) (b : ℕ) (ts : List Frame) (c : Cursor) (m : Memory) where
  word-acts : (p : Option Part) → part_of w.left w.part b ≡ p
      → with_word (broken m) w (λ x. act (at_word x w.left w.part) b ts c m)
      ≡ with_word (broken m) w (λ x. on_part p m (λ n. wait (at_word x (w.left - 1) n) ts c m) (λ n. worded ts x n c m))
  unfolding act
  word-acts p e = rw e

  pub word-lost : part_of w.left w.part b ≡ None → with_word (broken m) w (λ x. act (at_word x w.left w.part) b ts c m) ≡ broken m
  word-lost e = word-acts None e ∙ words (broken m) w (λ x. broken m) h

  pub word-more : (n : ℕ) → part_of w.left w.part b ≡ Some (More n)
      → with_word (broken m) w (λ x. act (at_word x w.left w.part) b ts c m) ≡ wait (at_word (word_of w) (w.left - 1) n) ts c m
  word-more n e = word-acts (Some (More n)) e ∙ words (broken m) w (λ x. wait (at_word x (w.left - 1) n) ts c m) h

  pub word-whole : (n : ℕ) → part_of w.left w.part b ≡ Some (Whole n)
      → with_word (broken m) w (λ x. act (at_word x w.left w.part) b ts c m) ≡ with_word (broken m) w (λ x. worded ts x n c m)
  word-whole n e = word-acts (Some (Whole n)) e

module _ (w : Work) (h : IsNumber w) (b : ℕ) (ts : List Frame) (c : Cursor) (m : Memory) where
  number-acts : (p : Option Part) → digit_of w.left w.part b ≡ p
      → with_number (broken m) w (λ x. act (at_number x w.left w.part) b ts c m)
      ≡ with_number (broken m) w (λ x. on_part p m (λ n. wait (at_number x (w.left - 1) n) ts c m) (λ n. number_done ts x n c m))
  unfolding act
  number-acts p e = rw e

  pub number-lost : digit_of w.left w.part b ≡ None → with_number (broken m) w (λ x. act (at_number x w.left w.part) b ts c m) ≡ broken m
  number-lost e = number-acts None e ∙ numbers (broken m) w (λ x. broken m) h

  pub number-more : (n : ℕ) → digit_of w.left w.part b ≡ Some (More n)
      → with_number (broken m) w (λ x. act (at_number x w.left w.part) b ts c m) ≡ wait (at_number (number_of w) (w.left - 1) n) ts c m
  number-more n e = number-acts (Some (More n)) e ∙ numbers (broken m) w (λ x. wait (at_number x (w.left - 1) n) ts c m) h

  pub number-whole : (n : ℕ) → digit_of w.left w.part b ≡ Some (Whole n)
      → with_number (broken m) w (λ x. act (at_number x w.left w.part) b ts c m) ≡ with_number (broken m) w (λ x. number_done ts x n c m)
  number-whole n e = number-acts (Some (Whole n)) e

pub word-work-of : (w : Work) → IsWord w → (left part : ℕ) → with_word no_work w (λ y. work_of (at_word y left part)) ≡ work_of (at_word (word_of w) left part)
word-work-of w h left part = words no_work w (λ y. work_of (at_word y left part)) h

pub span_none : (s : Span) → (s.begin ≡ 0) × (s.size ≡ 0) → s ≡ no_span
span_none s e = rw (e.0, e.1)
