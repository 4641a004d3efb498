-- A task goes on: what comes when its value is finished comes after it as it would be with nothing around.
use mathlib.Core.Path.{◌≡◌, refl, sym, ap, ◌∙◌}
use mathlib.Core.List.{List}
use Prim.Native.Nat.{ℕ, zero, suc, ◌+◌}
use native.Mathlib.Omega.{arith}
use Rattle.rows.specs.declared.Cursor.{Cursor}
use Rattle.rows.specs.Memory.{Memory}
use Rattle.format.specs.declared.Frame.{Frame}
use Rattle.format.specs.Decide.{Out, stop, give, on_rows, looking, closed, sealed_key}
use Rattle.format.specs.Reading.{finished, refused}
use Rattle.format.specs.Step.{Task, pairs_of, items_of, members_of, keys_of, values_of, strange, State, wait, over, none, on, go, pop}
use Rattle.format.specs.Numbers.{frames_of}
use Rattle.std.specs.Prelude.{Result, Ok, Err}
use Rattle.format.specs.declared.Refusal.{Refusal}
use Rattle.format.specs.declared.Work.{Work}
use Rattle.resume.specs.declared.Feeding.{Feeding}
use Rattle.resume.specs.declared.Next.{Next}
use Rattle.resume.specs.declared.Next.TheVariants as next
use Rattle.resume.specs.Steps.{loans_of, Turn, Wait, Finished, Refused, after, after_of, settled, Steps, Goes, ended}
use Rattle.resume.proofs.Moves.{Fails, failed, both_same}

-- a state, and what comes after a finished value
unfoldable then : State → (Cursor → Memory → State) → State
then (wait x ts c m) k = wait x ts c m
then (over (finished c m)) k = k c m
then (over (refused n told place m)) k = over (refused n told place m)
then (none m) k = none m

shut : (o : Out Memory Unit) (m : Memory) (k : Cursor → Memory → State) → on o m (λ x c m. k c m) ≡ then (on o m (λ x c m. ended c m)) k
unfolding then
shut (stop n t p) m k = refl
shut (give a m' c) m k = refl

waited : {A : Type 0} (o : Out Memory A) (m : Memory) (k : Cursor → Memory → State) (f : A → Cursor → Memory → State)
    → ((a : A) (c : Cursor) (m : Memory) → then (f a c m) k ≡ f a c m)
    → on o m f ≡ then (on o m f) k
unfolding then
waited (stop n t p) m k f h = refl
waited (give a m' c) m k f h = sym (h a c m')

go-then : (k : Cursor → Memory → State) (ts : List Frame) (t : Task) (c : Cursor) (m : Memory) → go k ts t c m ≡ then (go ended ts t c m) k
unfolding go then
go-then k ts (pairs_of p) c m = refl
go-then k ts (items_of i row zero done) c m = shut (on_rows (closed row) m c) m k
go-then k ts (items_of i row (suc n) done) c m = refl
go-then k ts (members_of row zero done first zero) c m = shut (on_rows (closed row) m c) m k
go-then k ts (members_of row zero done first (suc y)) c m = refl
go-then k ts (members_of row (suc n) done first y) c m = waited (looking (λ m. sealed_key (first + done) m.names) m c) m k _ (λ a c m. refl)
go-then k ts (keys_of row zero done) c m = shut (on_rows (closed row) m c) m k
go-then k ts (keys_of row (suc n) done) c m = refl
go-then k ts (values_of row n done) c m = refl
go-then k ts strange c m = refl

-- an answer that is not finished
unless : (a : Turn) (F F' : List ℕ) (m : Memory) (s : State) (k : Cursor → Memory → State) → ((x : Cursor) → a ≡ Finished x → ⊥)
    → settled (after a F' m) ≡ after_of F s → settled (after a F' m) ≡ after_of F (then s k)
unfolding settled after_of then
unless a F F' m (wait x ts c m') k h e = e
unless a F F' m (over (refused n told place m')) k h e = e
unless a F F' m (none m') k h e = e
unless (Wait w c' d) F F' m (over (finished c m')) k h e = absurd (let z : ◌≡◌ {A = ℕ} 0 1 = cc in omega arith)
unless (Finished c') F F' m (over (finished c m')) k h e = absurd (h c' refl)
unless (Refused r) F F' m (over (finished c m')) k h e = absurd (let z : ◌≡◌ {A = ℕ} 0 1 = cc in omega arith)

-- and one that is
over-finished : (c' : Cursor) (F F' : List ℕ) (m' : Memory) (s : State) → settled (after (Finished c') F' m') ≡ after_of F s → (F' ≡ F) × (s ≡ ended c' m')
unfolding settled after_of
over-finished c' F F' m' (wait x ts c m) e = absurd (let z : ◌≡◌ {A = ℕ} 0 1 = cc in omega arith)
over-finished c' F F' m' (over (finished c m)) e = (cc, cc)
over-finished c' F F' m' (over (refused n told place m)) e = absurd (let z : ◌≡◌ {A = ℕ} 0 1 = cc in omega arith)
over-finished c' F F' m' (none m) e = absurd (let z : ◌≡◌ {A = ℕ} 0 1 = cc in omega arith)

module _ (t : Task) {f g : Feeding} where
  -- a task that waits, or is refused: nothing comes after it
  pub goes_on : {w : Work} → Goes (Ok (next.Wait w)) f g (λ ts. go ended ts t) → Steps (Ok (next.Wait w)) f g (λ ts. go (pop ts) ts t)
  goes_on {w} G =
      let ts = frames_of f.frames.now f.depth in
      record {
        turn =
            unless (Wait w g.cursor g.depth) f.frames.now g.frames.now (loans_of g) (go ended ts t f.cursor (loans_of f)) (pop ts)
            (λ x e. let z : ◌≡◌ {A = ℕ} 0 1 = cc in omega arith) G.steps.turn
            ∙ ap (after_of f.frames.now) (sym (go-then (pop ts) ts t f.cursor (loans_of f)));
        same = G.steps.same;
      }

  pub goes_out : {x : Result Next Refusal} {y : Refusal} → Goes (Err y) f g (λ ts. go ended ts t) → Fails x y → Steps x f g (λ ts. go (pop ts) ts t)
  goes_out {x} {y} G q =
      let ts = frames_of f.frames.now f.depth in
      rw (failed x y q)
      (record {
        turn =
            unless (Refused y) f.frames.now g.frames.now (loans_of g) (go ended ts t f.cursor (loans_of f)) (pop ts)
            (λ x e. let z : ◌≡◌ {A = ℕ} 0 1 = cc in omega arith) G.steps.turn
            ∙ ap (after_of f.frames.now) (sym (go-then (pop ts) ts t f.cursor (loans_of f)));
        same = G.steps.same;
      })

  -- one whose value is finished wrote no frame
  module _ (G : Goes (Ok next.Finished) f g (λ ts. go ended ts t)) where
    pub went : (f.frames.now ≡ g.frames.now) × (go (pop (frames_of f.frames.now f.depth)) (frames_of f.frames.now f.depth) t f.cursor (loans_of f)
        ≡ pop (frames_of g.frames.now g.depth) g.cursor (loans_of g))
    unfolding then
    went =
        let ts = frames_of f.frames.now f.depth in
        let p = over-finished g.cursor f.frames.now g.frames.now (loans_of g) (go ended ts t f.cursor (loans_of f)) G.steps.turn in
        let e : go (pop ts) ts t f.cursor (loans_of f) ≡ pop ts g.cursor (loans_of g) =
        go-then (pop ts) ts t f.cursor (loans_of f) ∙ ap (λ s. then s (pop ts)) p.1 in
        (sym p.0, rw (p.0, G.depth refl) e)

    -- and then come those around it
    pub goes_after : {x : Result Next Refusal} {h : Feeding} → Steps x g h pop → Steps x f h (λ ts. go (pop ts) ts t)
    goes_after {x} {h} S = record { turn = rw went.1 (S.turn ∙ ap (λ F. after_of F (pop (frames_of g.frames.now g.depth) g.cursor (loans_of g))) (sym went.0)); same = both_same f g h G.steps.same S.same }
