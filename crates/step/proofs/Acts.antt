-- What the definition makes of a byte, by the mode of a work.
use mathlib.Core.Path.{◌≡◌, sym}
use mathlib.Core.List.{List}
use Prim.Native.Nat.{ℕ}
use Rattle.rows.specs.declared.Cursor.{Cursor}
use Rattle.rows.specs.Memory.{Memory}
use Rattle.format.specs.declared.Frame.{Frame}
use Rattle.format.specs.declared.Work.{Work}
use Rattle.format.specs.Step.{at_marker, at_word, at_number, at_text, at_raw, broken, flag_done, act}
use Rattle.format.specs.Numbers.{mode_of, work_key, with_text, with_word, with_number, with_flag, with_raw}
use Rattle.format.specs.Codes.{mode_marker, mode_word, mode_number, mode_flag, mode_text, mode_raw}
use Rattle.states.specs.Purposes.{IsText, IsWord, IsNumber, IsFlag, IsRaw}
use Rattle.states.proofs.Purposes.{texts, words, numbers, flags, raws}
use Rattle.states.proofs.Modes.{mode-marker, mode-word, mode-number, mode-flag, mode-text, mode-raw}

module _ (w : Work) (b : ℕ) where
  pub acts_marker : w.mode ≡ mode_marker → (ts : List Frame) (c : Cursor) (m : Memory) → act (mode_of w) b ts c m ≡ act (at_marker (work_key w)) b ts c m
  acts_marker e ts c m = rw (mode-marker w e)

  pub acts_word : w.mode ≡ mode_word → IsWord w → (ts : List Frame) (c : Cursor) (m : Memory)
      → act (mode_of w) b ts c m ≡ with_word (broken m) w (λ y. act (at_word y w.left w.part) b ts c m)
  acts_word e h ts c m = rw (mode-word w e h) (sym (words (broken m) w (λ y. act (at_word y w.left w.part) b ts c m) h))

  pub acts_number : w.mode ≡ mode_number → IsNumber w → (ts : List Frame) (c : Cursor) (m : Memory)
      → act (mode_of w) b ts c m ≡ with_number (broken m) w (λ y. act (at_number y w.left w.part) b ts c m)
  acts_number e h ts c m = rw (mode-number w e h) (sym (numbers (broken m) w (λ y. act (at_number y w.left w.part) b ts c m) h))

  pub acts_flag : w.mode ≡ mode_flag → IsFlag w → (ts : List Frame) (c : Cursor) (m : Memory)
      → act (mode_of w) b ts c m ≡ with_flag (broken m) w (λ y. flag_done ts y b c m)
  unfolding act
  acts_flag e h ts c m = rw (mode-flag w e h) (sym (flags (broken m) w (λ y. flag_done ts y b c m) h))

  pub acts_text : w.mode ≡ mode_text → IsText w → (ts : List Frame) (c : Cursor) (m : Memory)
      → act (mode_of w) b ts c m ≡ with_text (broken m) w (λ y. act (at_text y w.span w.left w.part) b ts c m)
  acts_text e h ts c m = rw (mode-text w e h) (sym (texts (broken m) w (λ y. act (at_text y w.span w.left w.part) b ts c m) h))

  pub acts_raw : w.mode ≡ mode_raw → IsRaw w.purpose → (ts : List Frame) (c : Cursor) (m : Memory)
      → act (mode_of w) b ts c m ≡ with_raw (broken m) w.purpose w.row (λ r. act (at_raw r w.span w.left) b ts c m)
  acts_raw e h ts c m = rw (mode-raw w e h) (sym (raws (broken m) w.purpose w.row (λ r. act (at_raw r w.span w.left) b ts c m) h))
