-- What a function of a reading that is fed answers, by what it calls: a decision first, and then the rest; or it waits, is finished, or refuses.
use Rattle.std.proofs.Common.{◌≡◌, Result, Ok, Err, List, ◌∷◌, ℕ, ◌+◌, ◌*◌, length, refl, sym, ap, ◌∙◌, add-one, cond}
use Rattle.std.specs.Result.{IsErr, IsErrAnd, is_err}
use Rattle.std.proofs.lemmas.Result.{err_from_is_err_and}
use lib.Seq.{sets}
use Rattle.rows.specs.declared.Cursor.{Cursor}
use Rattle.rows.specs.Memory.{Memory, zeroed}
use Rattle.rows.specs.declared.lent.Lent.{Lent}
use Rattle.rows.specs.Lent.{lent_of}
use Rattle.format.specs.declared.Frame.{Frame}
use Rattle.format.specs.declared.Refusal.{Refusal}
use Rattle.format.specs.declared.Work.{Work}
use Rattle.format.specs.Decide.{Decision}
use Rattle.format.specs.Reading.{refusal}
use Rattle.format.specs.Step.{Mode, State, wait, over, on}
use Rattle.format.specs.Numbers.{frames_of, frame_width, frame_numbers, work_of}
use Rattle.resume.specs.declared.Feeding.{Feeding}
use Rattle.resume.specs.declared.Next.{Next}
use Rattle.resume.specs.declared.Next.TheVariants.{Wait, Finished}
use Rattle.resume.specs.Steps.{is_waiting, loans_of, after_of, settled, Same, Steps, Goes, Inside, Decides, Gives, ended}
use Rattle.states.proofs.Frames.{length-frames, laid-frames, laid_next}

-- loans of the same lengths are the same, zeroed
pub same_zeroed : (m m' : Memory) → lent_of m' ≡ lent_of m → zeroed m' ≡ zeroed m
unfolding lent_of zeroed
same_zeroed m m' e =
    let a : length m'.rows ≡ length m.rows = ap (λ (l : Lent). l.rows) e in
    let b : length m'.store ≡ length m.store = ap (λ (l : Lent). l.store) e in
    let c : length m'.strings ≡ length m.strings = ap (λ (l : Lent). l.strings) e in
    let d : length m'.objects ≡ length m.objects = ap (λ (l : Lent). l.objects) e in
    let f : length m'.traits ≡ length m.traits = ap (λ (l : Lent). l.traits) e in
    let g : length m'.names ≡ length m.names = ap (λ (l : Lent). l.names) e in
    rw (a, b, c, d, f, g)

pub both_same : (f g h : Feeding) → Same f g → Same g h → Same f h
both_same _ _ _ (a, b) (d, e) = (d ∙ a, e ∙ b)

pub kept : (f : Feeding) → Same f f
kept f = (refl, refl)

-- an answer to an equal state
pub as_is : {x : Result Next Refusal} {f g : Feeding} {s s' : List Frame → Cursor → Memory → State}
    → ((ts : List Frame) (c : Cursor) (m : Memory) → s' ts c m ≡ s ts c m) → Steps x f g s → Steps x f g s'
as_is {f = f} e S = record { turn = S.turn ∙ ap (after_of f.frames.now) (sym (e _ _ _)); same = S.same }

-- the same where they are equal in this reading
pub as_here : {x : Result Next Refusal} {f g : Feeding} {s s' : List Frame → Cursor → Memory → State}
    → Steps x f g s → s' (frames_of f.frames.now f.depth) f.cursor (loans_of f) ≡ s (frames_of f.frames.now f.depth) f.cursor (loans_of f)
    → Steps x f g s'
as_here {f = f} S e = record { turn = S.turn ∙ ap (after_of f.frames.now) (sym e); same = S.same }

pub goes_as : {x : Result Next Refusal} {f g : Feeding} {s s' : List Frame → Cursor → Memory → State}
    → ((ts : List Frame) (c : Cursor) (m : Memory) → s' ts c m ≡ s ts c m) → Goes x f g s → Goes x f g s'
goes_as e G = record { steps = as_is e G.steps; depth = G.depth }

-- what a `?` returns
abbrev pub Fails : {A : Type 0} → Result A Refusal → Refusal → Type 0
Fails x y = IsErr x × IsErrAnd x (λ z. z ≡ y)

pub failed : {A : Type 0} (x : Result A Refusal) (y : Refusal) → Fails x y → x ≡ Err y
failed x y e = let p = err_from_is_err_and x e.1 in p.1 ∙ ap Err p.2

-- ---- a refusal

pub refuses : {f : Feeding} {s : List Frame → Cursor → Memory → State} {y : Refusal}
    → s (frames_of f.frames.now f.depth) f.cursor (loans_of f) ≡ over (refusal y.number y.told y.place (loans_of f)) → Steps (Err y) f f s
unfolding settled after_of
refuses {f} {s} {y} e = record { turn = rw e; same = kept f }

-- a decision that refuses
pub stopped_by : {A : Type 0} {x : Result Next Refusal} {f g : Feeding} {d : Decision A} {y : Refusal} (k : List Frame → A → Cursor → Memory → State)
    → Decides (Err y) f g d → Fails x y → Steps x f g (λ ts c m. on (d m c) m (k ts))
unfolding settled after_of
stopped_by {x = x} {f = f} {g = g} {y = y} k D q =
    record { turn = rw (failed x y q, D.inside.frames, ← D.gave, same_zeroed (loans_of f) (loans_of g) D.inside.same.1); same = D.inside.same }

-- a refusal's cursor is no part of it, nor the number of open values where nothing waits: it stands where they are put back
pub puts_back : {x y : Result Next Refusal} {f g h : Feeding} {s : List Frame → Cursor → Memory → State} (c : Cursor) (n : ℕ) → y ≡ x
    → h ≡ record g { cursor = cond (is_err x) c g.cursor; depth = cond (is_waiting x) g.depth n } → Steps x f g s → Steps y f h s
puts_back {x = Ok (Wait w)} c n p q S = rw (p, q) S
puts_back {x = Ok Finished} c n p q S = rw (p, q) (record { turn = S.turn; same = S.same })
puts_back {x = Err r} c n p q S = rw (p, q) (record { turn = S.turn; same = S.same })

-- and where the number alone is
pub reopens : {x y : Result Next Refusal} {f g h : Feeding} {s : List Frame → Cursor → Memory → State} (n : ℕ) → y ≡ x
    → h ≡ record g { depth = cond (is_waiting x) g.depth n } → Steps x f g s → Steps y f h s
reopens {x = Ok (Wait w)} n p q S = rw (p, q) S
reopens {x = Ok Finished} n p q S = rw (p, q) (record { turn = S.turn; same = S.same })
reopens {x = Err r} n p q S = rw (p, q) (record { turn = S.turn; same = S.same })

-- ---- a decision that gives, and then the rest

pub after_it : {A : Type 0} {x : Result Next Refusal} {f g h : Feeding} {d : Decision A} {a : A} (k : List Frame → A → Cursor → Memory → State)
    → Decides (Ok a) f g d → Steps x g h (λ ts. k ts a) → Steps x f h (λ ts c m. on (d m c) m (k ts))
after_it {f = f} {g = g} {h = h} k D S =
    record {
      turn = rw (← D.gave) (rw (D.inside.frames, D.inside.depth) at S.turn);
      same = both_same f g h D.inside.same S.same;
    }

pub going : {A : Type 0} {x : Result Next Refusal} {f g h : Feeding} {d : Decision A} {a : A} (k : List Frame → A → Cursor → Memory → State)
    → Decides (Ok a) f g d → Goes x g h (λ ts. k ts a) → Goes x f h (λ ts c m. on (d m c) m (k ts))
going k D G = record { steps = after_it k D G.steps; depth = λ e. G.depth e ∙ D.inside.depth }

-- ---- it waits

pub waits : {f : Feeding} {w : Work} {y : Mode} → w ≡ work_of y → Steps (Ok (Wait w)) f f (λ ts. wait y ts)
unfolding settled after_of
waits {f} {w} {y} e = record { turn = rw (e, laid-frames f.frames.now f.depth, length-frames f.frames.now f.depth); same = kept f }

pub waiting : {f g : Feeding} {w : Work} {s : List Frame → Cursor → Memory → State} → Steps (Ok (Wait w)) f g s → Goes (Ok (Wait w)) f g s
waiting S = record { steps = S; depth = λ e. cc }

-- and a value is next, whose frame is laid
pub opens : {f g : Feeding} {w : Work} {y : Mode} {t : Frame} → w ≡ work_of y → g.frames.now ≡ sets f.frames.now (f.depth * frame_width) (frame_numbers t)
    → g.depth ≡ f.depth + 1 → g.cursor ≡ f.cursor → loans_of g ≡ loans_of f → Same f g → Steps (Ok (Wait w)) f g (λ ts. wait y (t ∷ ts))
unfolding settled after_of
opens {f} {g} {w} {y} {t} e p q r m same =
    record { turn = rw (e, p, q, r, m, laid_next f.frames.now f.depth t, length-frames f.frames.now f.depth, add-one); same = same }

-- ---- it is finished

pub is_over : {f : Feeding} → Steps (Ok Finished) f f (λ ts. ended)
unfolding settled after_of
is_over {f} = record { turn = refl; same = kept f }

pub finishes : {A : Type 0} {f g : Feeding} {d : Decision A} {a : A} → Decides (Ok a) f g d → Goes (Ok Finished) f g (λ ts c m. on (d m c) m (λ y. ended))
finishes D = record { steps = after_it (λ ts y. ended) D is_over; depth = λ e. D.inside.depth }

-- ---- it refuses

pub refusing : {x : Result Next Refusal} {f g : Feeding} {y : Refusal} {s : List Frame → Cursor → Memory → State} → x ≡ Err y → Steps x f g s → Goes x f g s
refusing p S = record { steps = S; depth = λ e. cc }

pub stopping : {A : Type 0} {x : Result Next Refusal} {f g : Feeding} {d : Decision A} {y : Refusal} (k : List Frame → A → Cursor → Memory → State)
    → Decides (Err y) f g d → Fails x y → Goes x f g (λ ts c m. on (d m c) m (k ts))
stopping {x = x} {y = y} k D q = refusing (failed x y q) (stopped_by k D q)

-- ---- it gives something: what a task has left, or room

pub gives_as : {A B : Type 0} {via : A → B} {x : Result A Refusal} {f g : Feeding} {e e' : Cursor → Memory → (B → Cursor → Memory → State) → State}
    → ((c : Cursor) (m : Memory) (k : B → Cursor → Memory → State) → e' c m k ≡ e c m k) → Gives via x f g e → Gives via x f g e'
gives_as p E = record { gave = λ k. E.gave k ∙ sym (p _ _ _); inside = E.inside }

pub untouched : (f : Feeding) → Inside f f
untouched f = record { frames = refl; depth = refl; same = kept f }

pub gives_broken : {A B : Type 0} {via : A → B} {f : Feeding} {y : Refusal} {e : Cursor → Memory → (B → Cursor → Memory → State) → State}
    → ((c : Cursor) (m : Memory) (k : B → Cursor → Memory → State) → e c m k ≡ over (refusal y.number y.told y.place m)) → Gives via (Err y) f f e
gives_broken {f = f} p = record { gave = λ k. sym (p _ _ _); inside = untouched f }

-- a decision first: the last one, or one that refuses, or one with others behind it
pub gives : {A B C : Type 0} {via : A → B} {f g : Feeding} {d : Decision C} {a : C} {t : A} → Decides (Ok a) f g d → Gives via (Ok t) f g (λ c m k. on (d m c) m (λ y. k (via t)))
gives D = record { gave = λ k. rw (← D.gave); inside = D.inside }

pub gives_not : {A B C : Type 0} {via : A → B} {x : Result A Refusal} {f g : Feeding} {d : Decision C} {y : Refusal}
    (k : (B → Cursor → Memory → State) → C → Cursor → Memory → State) → Decides (Err y) f g d → Fails x y → Gives via x f g (λ c m k'. on (d m c) m (k k'))
gives_not {x = x} {f = f} {g = g} {y = y} k D q =
    record { gave = λ k'. rw (failed x y q, ← D.gave, same_zeroed (loans_of f) (loans_of g) D.inside.same.1); inside = D.inside }

pub gives_after : {A B C : Type 0} {via : A → B} {x : Result A Refusal} {f g h : Feeding} {d : Decision C} {a : C}
    (k : (B → Cursor → Memory → State) → C → Cursor → Memory → State)
    → Decides (Ok a) f g d → Gives via x g h (λ c m k'. k k' a c m) → Gives via x f h (λ c m k'. on (d m c) m (k k'))
gives_after {f = f} {g = g} {h = h} k D E =
    record {
      gave = λ k'. rw (← D.gave) (E.gave k');
      inside =
          record {
            frames = E.inside.frames ∙ D.inside.frames;
            depth = E.inside.depth ∙ D.inside.depth;
            same = both_same f g h D.inside.same E.inside.same;
          };
    }

-- what was given, and then the rest; or it was refused
pub after_given : {A B : Type 0} {via : A → B} {x : Result Next Refusal} {f g h : Feeding} {e : Cursor → Memory → (B → Cursor → Memory → State) → State} {t : A}
    (k : List Frame → B → Cursor → Memory → State) → Gives via (Ok t) f g e → Steps x g h (λ ts. k ts (via t)) → Steps x f h (λ ts c m. e c m (k ts))
after_given {f = f} {g = g} {h = h} k E S =
    record {
      turn = rw (← E.gave (k (frames_of f.frames.now f.depth))) (rw (E.inside.frames, E.inside.depth) at S.turn);
      same = both_same f g h E.inside.same S.same;
    }

pub not_given : {A B : Type 0} {via : A → B} {x : Result Next Refusal} {f g : Feeding} {e : Cursor → Memory → (B → Cursor → Memory → State) → State} {y : Refusal}
    (k : List Frame → B → Cursor → Memory → State) → Gives via (Err y) f g e → Fails x y → Steps x f g (λ ts c m. e c m (k ts))
unfolding settled after_of
not_given {x = x} {f = f} {g = g} {y = y} k E q =
    record { turn = rw (failed x y q, E.inside.frames, ← E.gave (k (frames_of f.frames.now f.depth))); same = E.inside.same }
