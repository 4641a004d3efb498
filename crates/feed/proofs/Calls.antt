-- The calls on a state: what a head answers, and the head that a beginning and an end leave.
use mathlib.Core.Path.{◌≡◌, refl, ap, ◌∙◌}
use mathlib.Core.Bool.{Bool, true, false, cond, ◌&&◌, ◌||◌}
use mathlib.Core.List.{List}
use Prim.Native.Nat.{ℕ, zero, suc}
use lib.Dec.{eqb}
use lib.ListN.{replicate}
use borrow.Author.Tests.{ne_eqb}
use Rattle.std.specs.Prelude.{Option, Some, None}
use Rattle.rows.specs.declared.Cursor.{Cursor}
use Rattle.rows.specs.declared.lent.Lent.{Lent}
use Rattle.rows.specs.Lent.{fault_in, named_loan}
use Rattle.rows.specs.Memory.{Memory, fresh, zeroed, fault_of, no_span}
use Rattle.format.specs.declared.Answer.{Answer}
use Rattle.format.specs.declared.Answer.TheVariants as answer
use Rattle.format.specs.declared.Head.{Head}
use Rattle.format.specs.declared.Work.{Work}
use Rattle.format.specs.Reading.{finished, refused}
use Rattle.format.specs.Step as step
use Rattle.format.specs.Step.{wait, over, none}
use Rattle.format.specs.Numbers.{Numbers, Held, held, state_of, after_step, numbers_of, mode_of, frames_of, work_of, work, no_trait, laid, lent_of, finishable}
use Rattle.format.specs.Answers.{fed, answer_of, answered, blank, begin_call, run_held, taken_by, feed_call, end_of, end_call}
use Rattle.format.proofs.Tests.{on_bool, clash}
use Rattle.format.specs.declared.Refusal.{Refusal}
use Rattle.resume.specs.Steps.{Wait, Refused, refusal_of}
use Rattle.pieces.specs.States.{numbers, head_of}
use Rattle.states.specs.Ends.{has_ended}
use Rattle.feed.specs.Calls.{end_refusal}
use Rattle.format.specs.Codes.{status_waiting, status_finished, status_refused}
use Rattle.format.specs.Numbers.{frames_size}
use Rattle.format.specs.Refusals as refusals

module _ (h : Head) (F : List ℕ) (m : Memory) where
  -- the state of a head, by its tests
  abbrev told : Bool → Bool → Bool → step.State
  told t u v =
      cond t (wait (mode_of h.work) (frames_of F h.depth) h.cursor m)
      (cond u (over (finished h.cursor m)) (cond v (over (refused h.number h.told h.place m)) (none m)))

  -- finished, and refused, as a reading can be
  abbrev done : Bool
  done = eqb h.status status_finished && finishable h.cursor

  abbrev ours : Bool
  ours = eqb h.status status_refused && refusals.sayable h.number h.told h.place

  pub finished-answer : (n : ℕ) → h.status ≡ status_finished → has_ended h ≡ true
      → answer.Finished h.cursor.rows h.cursor.store n ≡ answer_of (state_of (numbers h F) m) n
  unfolding has_ended state_of
  finished-answer n q e = on_bool (finishable h.cursor) (λ f. rw (q, f)) (λ f. let z = rw (q, f) at e in clash cc)

  pub refused-answer : (n : ℕ) → (h.status ≡ status_waiting → ⊥) → (h.status ≡ status_finished → ⊥) → has_ended h ≡ true
      → answer.Refused h.number h.told h.place n ≡ answer_of (state_of (numbers h F) m) n
  unfolding has_ended state_of
  refused-answer n p q e = by (eqb h.status status_waiting) done ours (ne_eqb h.status status_waiting p) (rw (ne_eqb h.status status_finished q)) e
    where
      by : (t u v : Bool) → t ≡ false → u ≡ false → cond t false (u || v) ≡ true
          → answer.Refused h.number h.told h.place n ≡ answer_of (told t u v) n
      by true u v p q e = clash cc
      by false true v p q e = clash cc
      by false false true p q e = refl
      by false false false p q e = clash cc

  pub lost-answer : (n : ℕ) → (h.status ≡ status_waiting → ⊥) → has_ended h ≡ false → answer.Refused refusals.lost 0 0 n ≡ answer_of (state_of (numbers h F) m) n
  unfolding has_ended state_of
  lost-answer n p e = by (eqb h.status status_waiting) done ours (ne_eqb h.status status_waiting p) e
    where
      by : (t u v : Bool) → t ≡ false → cond t false (u || v) ≡ false → answer.Refused refusals.lost 0 0 n ≡ answer_of (told t u v) n
      by true u v p e = clash cc
      by false true v p e = clash cc
      by false false true p e = clash cc
      by false false false p e = refl

  -- what has ended stays
  pub end_stays : has_ended h ≡ true → answered (held (numbers h F) m) 0 ≡ end_call (numbers h F) m
  unfolding has_ended end_call state_of
  end_stays e = by (eqb h.status status_waiting) done ours e
    where
      by : (t u v : Bool) → cond t false (u || v) ≡ true
          → answered (held (numbers h F) m) 0 ≡ end_of (numbers h F) m (told t u v)
      by true u v e = clash cc
      by false true v e = refl
      by false false true e = refl
      by false false false e = clash cc

  -- what has not is refused, and the loans are zero
  pub end-refuses : (r : Refusal) (h' : Head) (m' : Memory) → has_ended h ≡ false → r ≡ end_refusal h → h' ≡ head_of h.lent (Refused r) → m' ≡ zeroed m
      → answered (held (numbers h' F) m') 0 ≡ end_call (numbers h F) m
  unfolding has_ended end_call state_of refusals.sayable end_refusal after_step numbers_of step.end
  end-refuses r h' m' e p q s =
      rw (s, q, p) (by (eqb h.status status_waiting) done ours e)
    where
      by : (t u v : Bool) → cond t false (u || v) ≡ false
          → answered (held (numbers (head_of h.lent (Refused (cond t (refusal_of refusals.unexpected_end 0 h.cursor.at) (refusal_of refusals.lost 0 0)))) F) (zeroed m)) 0
          ≡ end_of (numbers h F) m (told t u v)
      by true u v e = refl
      by false true v e = clash cc
      by false false true e = clash cc
      by false false false e = refl

-- ---- the beginning

module _ (m : Memory) (l : Lent) (f : l ≡ lent_of m) (h : Head) where
  -- a wrong loan leaves all of them as they are
  pub begin-refuses : (loan : ℕ) → fault_in l ≡ Some loan → h ≡ head_of l (Refused (refusal_of refusals.bad_loan loan 0))
      → answered (held (numbers h (replicate frames_size 0)) m) 0 ≡ begin_call m
  unfolding begin_call step.begin after_step numbers_of lent_of
  begin-refuses loan n p = rw (p, f) (by (fault_of m) (rw f at n))
    where
      by : (k : ℕ) → named_loan k ≡ Some loan
          → answered (held (numbers (head_of (lent_of m) (Refused (refusal_of refusals.bad_loan loan 0))) (replicate frames_size 0)) m) 0
          ≡ answered (after_step (blank (lent_of m)) (step.begin_at k m)) 0
      by zero n = let z : ◌≡◌ {A = Option ℕ} None (Some loan) = n in clash cc
      by (suc k) n = let z : ◌≡◌ {A = Option ℕ} (Some (suc k)) (Some loan) = rw (ne_eqb (suc k) 0 (λ (q : suc k ≡ 0). cc)) at n in let e : suc k ≡ loan = cc in rw (← e) refl

  pub begin-waits : (w : Work) (c : Cursor) (m' : Memory) → fault_in l ≡ None → w ≡ work 1 0 0 0 0 no_span no_trait 0 0 → c ≡ fresh → h ≡ head_of l (Wait w c 0) → m' ≡ zeroed m
      → answered (held (numbers h (replicate frames_size 0)) m') 0 ≡ begin_call m
  unfolding begin_call step.begin after_step numbers_of work_of laid lent_of
  begin-waits w c m' n p q r s = rw (s, r, q, p, f) (by (fault_of m) (rw f at n))
    where
      by : (k : ℕ) → named_loan k ≡ None
          → answered (held (numbers (head_of (lent_of m) (Wait (work 1 0 0 0 0 no_span no_trait 0 0) fresh 0)) (replicate frames_size 0)) (zeroed m)) 0
          ≡ answered (after_step (blank (lent_of m)) (step.begin_at k m)) 0
      by zero n = refl
      by (suc k) n = let z : ◌≡◌ {A = Option ℕ} (Some (suc k)) None = rw (ne_eqb (suc k) 0 (λ (q : suc k ≡ 0). cc)) at n in clash cc

-- ---- a piece

pub fed_in : (n : Numbers) (m : Memory) (piece : List ℕ) (h : Head) (F : List ℕ) (m' : Memory) (k : ℕ) (a : Answer)
    → (held (numbers h F) m' ≡ run_held (held n m) piece) × (k ≡ taken_by (held n m) piece) → a ≡ answer_of (state_of (numbers h F) m') k
    → fed a (numbers h F) m' ≡ feed_call n m piece
unfolding feed_call
fed_in n m piece h F m' k a e p =
    ap (λ (a : Answer). fed a (numbers h F) m') p ∙ ap (λ (x : Held). answered x k) e.0 ∙ ap (answered (run_held (held n m) piece)) e.1
