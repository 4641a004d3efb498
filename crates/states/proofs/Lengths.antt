-- What is decided of the loans by their lengths alone.
use mathlib.Core.Path.{◌≡◌, sym, ap, ◌∙◌}
use mathlib.Core.Bool.{Bool, not, ◌&&◌}
use mathlib.Core.List.{List}
use Prim.Native.Nat.{ℕ}
use lib.Dec.{leb, eqb}
use Rattle.std.specs.Option.{is_some}
use Rattle.rows.specs.declared.lent.Lent.{Lent}
use Rattle.rows.specs.Memory.{Memory, message_limit, loan_fault}
use Rattle.rows.specs.Lent.{named_loan}
use Rattle.format.specs.declared.Head.{Head}
use Rattle.format.specs.Numbers.{lent_of, same_lent, depth_fits, mode_fits, pairs_fit, counts_fit, mode_of, frames_of, sound}
use Rattle.format.proofs.Tests.{on_bool}
use Rattle.states.specs.Counts.{counts_in}
use Rattle.states.proofs.Frames.{length-frames}

-- 1 names a loan unless it is 0
pub names_some : (n : ℕ) → is_some (named_loan n) ≡ not (eqb n 0)
names_some n = on_bool (eqb n 0) (λ t. rw t) (λ t. rw t)

-- the tests of a state, in order
module _ (h : Head) where
  abbrev pub sound_in : Lent → Bool
  sound_in l =
      same_lent l h.lent && eqb (loan_fault l.rows l.store l.strings l.objects l.traits l.names) 0 && leb h.cursor.at message_limit
      && depth_fits (mode_of h.work) h.depth && counts_in h.cursor l && mode_fits h.cursor (mode_of h.work) && pairs_fit h.cursor (mode_of h.work)

  pub sounds : (l : Lent) (t : Bool) → t ≡ sound_in l → (F : List ℕ) (m : Memory) → lent_of m ≡ l → t ≡ sound h.lent (mode_of h.work) (frames_of F h.depth) h.cursor m
  unfolding sound lent_of counts_fit
  sounds l t q F m e = rw (length-frames F h.depth) (q ∙ ap sound_in (sym e))
