-- Values that are finished, one around the other: a turn takes the innermost frame, and the same comes from the others as from all.
use Rattle.std.proofs.Common.{◌≡◌, Result, Ok, Err, List, ℕ, zero, suc, ◌-◌, ◌<◌, ◌≤◌, refl, sym, ap, ◌∙◌, arith}
use Rattle.rows.specs.declared.Cursor.{Cursor}
use Rattle.rows.specs.Memory.{Memory}
use Rattle.format.specs.declared.Frame.{Frame}
use Rattle.format.specs.declared.Refusal.{Refusal}
use Rattle.format.specs.declared.Work.{Work}
use Rattle.format.specs.Step.{task_of, go, entry, pop}
use Rattle.format.specs.Numbers.{frame_at, frames_of}
use Rattle.resume.specs.declared.Feeding.{Feeding}
use Rattle.resume.specs.declared.Next.{Next}
use Rattle.resume.specs.declared.Next.TheVariants.{Wait, Finished}
use Rattle.resume.specs.Steps.{loans_of, after_of, settled, given, Same, Steps, Goes, Enters, ended}
use Rattle.resume.proofs.Moves.{Fails, failed, both_same, kept, is_over}
use Rattle.resume.proofs.Turns.{goes_on, goes_out, went}

-- from f, of which fewer values are open, comes what came from f₀
pub record Popped (f₀ f : Feeding) : Type 0 where
  pub most : f.depth ≤ f₀.depth
  pub frames : f.frames.now ≡ f₀.frames.now
  pub same : Same f₀ f
  pub left : pop (frames_of f₀.frames.now f₀.depth) f₀.cursor (loans_of f₀) ≡ pop (frames_of f.frames.now f.depth) f.cursor (loans_of f)

-- at the beginning
pub unpopped : (f : Feeding) → Popped f f
unpopped f = record { most = omega arith; frames = refl; same = kept f; left = refl }

-- one value less is open
abbrev pub less : Feeding → Feeding
less f = record f { depth = f.depth - 1 }

-- the answer from f is that from f₀
pub popped_on : {f₀ f g : Feeding} {x : Result Next Refusal} → Popped f₀ f → Steps x f g pop → Steps x f₀ g pop
popped_on {f₀} {f} {g} {x} P S =
    record { turn = rw P.left (S.turn ∙ ap (λ F. after_of F (pop (frames_of f.frames.now f.depth) f.cursor (loans_of f))) P.frames); same = both_same f₀ f g P.same S.same }

-- none is open
pub none_left : {f : Feeding} → f.depth ≤ 0 → Steps (Ok Finished) f f pop
unfolding pop frames_of
none_left {f} h = let z : f.depth ≡ 0 = omega arith in record { turn = rw z (is_over {f = f}).turn; same = kept f }

pop-entry : (F : List ℕ) (n : ℕ) (c : Cursor) (m : Memory) → 0 < n
    → pop (frames_of F n) c m ≡ entry (task_of (frame_at F (n - 1))) c m (λ t. go (pop (frames_of F (n - 1))) (frames_of F (n - 1)) t)
unfolding pop frames_of
pop-entry F zero c m h = absurd (omega arith)
pop-entry F (suc n) c m h = let d : suc n - 1 ≡ n = omega arith in rw d

module _ {f g : Feeding} (h : 0 < f.depth) where
  -- the innermost value's entry is finished
  turned : {x : Result Frame Refusal} → Enters x (less f) g (entry (task_of (frame_at f.frames.now (f.depth - 1))))
      → pop (frames_of f.frames.now f.depth) f.cursor (loans_of f)
      ≡ given x g (λ t. go (pop (frames_of g.frames.now g.depth)) (frames_of g.frames.now g.depth) (task_of t))
  turned {x} E =
      pop-entry f.frames.now f.depth f.cursor (loans_of f) h
      ∙ sym (E.gave (λ t. go (pop (frames_of f.frames.now (f.depth - 1))) (frames_of f.frames.now (f.depth - 1)) t))
      ∙ rw (E.inside.frames, E.inside.depth)

  -- it can't be
  pub not_entered : {x : Result Next Refusal} {y : Refusal} → Enters (Err y) (less f) g (entry (task_of (frame_at f.frames.now (f.depth - 1)))) → Fails x y
      → Steps x f g pop
  unfolding settled after_of
  not_entered {x} {y} E q = record { turn = rw (failed x y q, turned E, E.inside.frames); same = both_same f (less f) g (kept f) E.inside.same }

  module _ {t : Frame} (E : Enters (Ok t) (less f) g (entry (task_of (frame_at f.frames.now (f.depth - 1))))) where
    -- its task goes on, and so does all
    entered : {k : Feeding} {x : Result Next Refusal} → Steps x g k (λ ts. go (pop ts) ts (task_of t)) → Steps x f k pop
    entered {k} {x} S =
        record {
          turn = rw (turned E) (S.turn ∙ ap (λ F. after_of F (go (pop (frames_of g.frames.now g.depth)) (frames_of g.frames.now g.depth) (task_of t) g.cursor (loans_of g))) E.inside.frames);
          same = both_same f g k E.inside.same S.same;
        }

    pub task-waits : {k : Feeding} {w : Work} → Goes (Ok (Wait w)) g k (λ ts. go ended ts (task_of t)) → Steps (Ok (Wait w)) f k pop
    task-waits G = entered (goes_on (task_of t) G)

    pub task-out : {k : Feeding} {x : Result Next Refusal} {y : Refusal} → Goes (Err y) g k (λ ts. go ended ts (task_of t)) → Fails x y → Steps x f k pop
    task-out G q = entered (goes_out (task_of t) G q)

    -- or its value is finished too
    pub task-finished : {k : Feeding} → Goes (Ok Finished) g k (λ ts. go ended ts (task_of t)) → Popped f k
    task-finished {k} G =
        record {
          most = (let a : k.depth ≡ g.depth = G.depth refl in let b : g.depth ≡ f.depth - 1 = E.inside.depth in omega arith);
          frames = sym (went (task_of t) G).0 ∙ E.inside.frames;
          same = both_same f g k E.inside.same G.steps.same;
          left = turned E ∙ (went (task_of t) G).1;
        }

pub popped_more : {f₀ f g : Feeding} → Popped f₀ f → Popped f g → Popped f₀ g
popped_more {f₀} {f} {g} P Q =
    record {
      most = (let a : f.depth ≤ f₀.depth = P.most in let b : g.depth ≤ f.depth = Q.most in omega arith);
      frames = Q.frames ∙ P.frames;
      same = both_same f₀ f g P.same Q.same;
      left = P.left ∙ Q.left;
    }
