-- One byte on a state that has not ended: it goes on as its answer says.
use mathlib.Core.Path.{◌≡◌, refl, sym, ap, ◌∙◌}
use mathlib.Core.Bool.{Bool, true, false, cond, ◌&&◌, ◌||◌}
use mathlib.Core.List.{List}
use Prim.Native.Nat.{ℕ, suc, ◌+◌, ◌≤◌, ◌<◌}
use native.Mathlib.Omega.{arith}
use lib.Dec.{leb, eqb}
use lib.ListN.{length}
use borrow.Author.Tests.{eq-eqb, ne_eqb, le-leb, lt-leb}
use Rattle.rows.specs.declared.Cursor.{Cursor}
use Rattle.std.specs.Prelude.{Result, Ok, Err}
use Rattle.std.specs.Result.{is_err}
use Rattle.rows.specs.Memory.{Memory, fault_of, message_limit, zeroed}
use Rattle.format.specs.declared.Head.{Head}
use Rattle.format.specs.declared.Frame.{Frame}
use Rattle.format.specs.Reading.{finished, refused, refusal, taken}
use Rattle.format.specs.Step.{Mode, State, wait, over, none, broken, act, step}
use Rattle.format.specs.Numbers.{held, byte_step, stepped, state_of, after_step, numbers_of, mode_of, frames_of, sound, sound_step, depth_fits}
use Rattle.format.specs.Numbers.{same_lent, lent_of, counts_fit, mode_fits, pairs_fit, finishable}
use Rattle.format.proofs.Tests.{clash, both}
use Rattle.format.specs.declared.Refusal.{Refusal}
use Rattle.resume.specs.declared.Next.{Next}
use Rattle.resume.specs.declared.Next.TheVariants as next
use Rattle.resume.specs.Steps.{turn_of, Refused, After, after, after_of, settled, refusal_of}
use Rattle.states.proofs.Frames.{length-frames}
use Rattle.pieces.specs.States.{numbers, state_after, held_of, further}
use Rattle.states.specs.Ends.{has_ended}
use Rattle.pieces.proofs.Going.{Going, act-going}
use Rattle.format.specs.Codes.{status_waiting, status_finished, status_refused}
use Rattle.format.specs.Refusals as refusals
use Rattle.rows.specs.Memory.{message_most}

fourth : (p q r s t u v : Bool) → (p && q && r && s && t && u && v) ≡ true → s ≡ true
fourth p q r s t u v e = (both (p && q && r) s (both (p && q && r && s) t (both (p && q && r && s && t) u (both (p && q && r && s && t && u) v e).0).0).0).1

module _ (b : ℕ) (h : Head) (F : List ℕ) (m : Memory) where
  pub goes : has_ended h ≡ false → byte_step b (held (numbers h F) m) ≡ after_step (numbers h F) (state_after b h F m)
  unfolding has_ended byte_step state_of state_after
  goes e = by (eqb h.status status_waiting) (eqb h.status status_finished && finishable h.cursor) (eqb h.status status_refused && refusals.sayable h.number h.told h.place) e
    where
      by : (t u v : Bool) → cond t false (u || v) ≡ false
          → stepped (numbers h F) m b (cond t (wait (mode_of h.work) (frames_of F h.depth) h.cursor m)
          (cond u (over (finished h.cursor m)) (cond v (over (refused h.number h.told h.place m)) (none m))))
          ≡ after_step (numbers h F) (cond t (sound_step h.lent b (wait (mode_of h.work) (frames_of F h.depth) h.cursor m)) (broken m))
      by true u v e = refl
      by false true v e = clash cc
      by false false true e = clash cc
      by false false false e = refl

  after-going : Going (state_after b h F m)
  unfolding state_after sound_step step
  after-going = by (eqb h.status status_waiting) (sound h.lent (mode_of h.work) (frames_of F h.depth) h.cursor m) (leb message_limit h.cursor.at)
    where
      by : (t u v : Bool)
          → Going (cond t (cond u (cond v (over (refusal refusals.too_long 0 h.cursor.at m)) (act (mode_of h.work) b (frames_of F h.depth) (taken h.cursor) m)) (broken m)) (broken m))
      by true true true = tt
      by true true false = act-going (frames_of F h.depth) (mode_of h.work) b (taken h.cursor) m
      by true false v = tt
      by false u v = tt

  told-alike : (s : State) → Going s → held_of h.lent (after_of F s) ≡ after_step (numbers h F) s
  unfolding after_of after_step numbers_of
  told-alike (wait x ts c m) g = refl
  told-alike (over (finished c m)) g = refl
  told-alike (over (refused number told place m)) g = refl
  told-alike (none m) g = absurd g

  pub byte-held : (x : After) → has_ended h ≡ false → x ≡ after_of F (state_after b h F m) → held_of h.lent x ≡ byte_step b (held (numbers h F) m)
  byte-held x n p = ap (held_of h.lent) p ∙ told-alike (state_after b h F m) after-going ∙ sym (goes n)

  -- ---- the answers of a state that has not ended

  refuses-lost : (s : State) (r : Refusal) → r ≡ refusal_of refusals.lost 0 0 → s ≡ broken m → settled (after (Refused r) F m) ≡ after_of F s
  unfolding settled after_of
  refuses-lost s r e q = rw (e, q)

  pub never-begun : (r : Refusal) → r ≡ refusal_of refusals.lost 0 0 → (h.status ≡ status_waiting → ⊥) → settled (after (Refused r) F m) ≡ after_of F (state_after b h F m)
  unfolding state_after
  never-begun r e n = refuses-lost (state_after b h F m) r e (rw (ne_eqb h.status status_waiting n))

  module _ (one : h.status ≡ status_waiting) (t : Bool) (st : t ≡ sound h.lent (mode_of h.work) (frames_of F h.depth) h.cursor m) where
    pub not_sound : (r : Refusal) → r ≡ refusal_of refusals.lost 0 0 → t ≡ false → settled (after (Refused r) F m) ≡ after_of F (state_after b h F m)
    unfolding state_after sound_step
    not_sound r e f = refuses-lost (state_after b h F m) r e (rw (eq-eqb h.status status_waiting one, sym st ∙ f))

    pub stepped-on : (x : After) → t ≡ true → x ≡ after_of F (step b (wait (mode_of h.work) (frames_of F h.depth) h.cursor m))
        → x ≡ after_of F (state_after b h F m)
    unfolding state_after sound_step
    stepped-on x f q = rw (eq-eqb h.status status_waiting one, sym st ∙ f) q

    pub deep-enough : t ≡ true → depth_fits (mode_of h.work) h.depth ≡ true
    unfolding sound
    deep-enough f =
        let e : sound h.lent (mode_of h.work) (frames_of F h.depth) h.cursor m ≡ true = sym st ∙ f in
        let d : depth_fits (mode_of h.work) (length (frames_of F h.depth)) ≡ true =
        fourth (same_lent (lent_of m) h.lent) (eqb (fault_of m) 0) (leb h.cursor.at message_limit) (depth_fits (mode_of h.work) (length (frames_of F h.depth)))
        (counts_fit h.cursor m) (mode_fits h.cursor (mode_of h.work)) (pairs_fit h.cursor (mode_of h.work)) e in
        rw (length-frames F h.depth) at d

-- ---- a byte of a state that waits

module _ (b : ℕ) (x : Mode) (ts : List Frame) (c : Cursor) (m : Memory) where
  pub too_long_step : message_most ≤ c.at → step b (wait x ts c m) ≡ over (refusal refusals.too_long 0 c.at m)
  unfolding step message_limit
  too_long_step l = rw (le-leb message_most c.at l)

  pub act_step : c.at < message_most → step b (wait x ts c m) ≡ act x b ts (further c (c.at + 1)) m
  unfolding step message_limit
  act_step l = let e : c.at + 1 ≡ suc c.at = omega arith in rw (lt-leb message_most c.at l, e)

-- ---- what settling leaves

module _ (m m' : Memory) where
  pub settles_err : (a : Result Next Refusal) → is_err a ≡ true → m' ≡ zeroed m → (F : List ℕ) (c : Cursor) (d : ℕ)
      → after (turn_of a c d) F m' ≡ settled (after (turn_of a c d) F m)
  unfolding settled
  settles_err (Err r) t e F c d = rw e
  settles_err (Ok x) t e F c d = let z : ◌≡◌ {A = Bool} false true = t in clash cc

  pub settles_ok : (a : Result Next Refusal) → is_err a ≡ false → m' ≡ m → (F : List ℕ) (c : Cursor) (d : ℕ)
      → after (turn_of a c d) F m' ≡ settled (after (turn_of a c d) F m)
  unfolding settled
  settles_ok (Err r) t e F c d = let z : ◌≡◌ {A = Bool} true false = t in clash cc
  settles_ok (Ok (next.Wait w)) t e F c d = rw e
  settles_ok (Ok next.Finished) t e F c d = rw e
