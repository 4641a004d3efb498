-- The bytes that are taken, on any state and loans: what still waits took all of them, and the byte that decided is the last one taken, but for 11 and 12.
use mathlib.Core.Path.{◌≡◌, refl, sym, ap, ◌∙◌}
use mathlib.Core.Logic.{◌≢◌}
use mathlib.Core.List.{List, [], ◌∷◌, ◌++◌}
use Prim.Native.Nat.{ℕ, suc, ◌+◌, ◌^◌, ◌<◌}
use native.Mathlib.Nat.{add-zero, zero-add, add_assoc}
use native.Mathlib.Omega.{arith}
use lib.ListN.{length}
use Rattle.rows.specs.Memory.{Memory}
use Rattle.format.specs.declared.Answer.TheVariants.{Waiting, Refused}
use Rattle.format.specs.Reading.{Ended, finished, refused}
use Rattle.format.specs.Step.{State, wait, over, none}
use Rattle.format.specs.Numbers.{Numbers, Held, held, state_of, numbers_of, after_step, byte_step, stepped}
use Rattle.format.specs.Answers.{answer_of, answered, run_held, cost, cost_from, state_in, taken_by, feed_call}
use Rattle.format.proofs.Tests.{clash}
use Rattle.format.proofs.Cuts.{joined}
use Rattle.format.proofs.Pieces.{answer_in, taken_in, fed_by, fed_pieces, tally, taken-pieces, run-still, taken-still}
use Rattle.format.proofs.Placed.{unknown, absent, unfinished, external, undated, invalid, deep, full, astrays}
use Rattle.promises.proofs.Stands.{Stands, waits, finishes, faulty, declines, passes, forgets, Any, every_any, stands-byte, stands-run}
use Rattle.format.specs.Refusals as refusals
pub use Rattle.format.specs.Claims.{last_byte}
pub use Rattle.format.specs.Byte.{Decided-by, ends, refuses, past}

-- ---- what waits

-- a state that waits
abbrev pub Waits : State → Type 0
Waits (wait x ts c m) = Unit
Waits (over e) = ⊥
Waits (none m) = ⊥

-- what waits after a byte on its numbers waited before
waits-stepped : (n : Numbers) (m : Memory) (b : ℕ) (s : State) → state_of n m ≡ s → Waits (state_in (stepped n m b s)) → Waits s
unfolding after_step numbers_of state_of refusals.sayable
waits-stepped n m b (wait x ts c k) q w = tt
waits-stepped n m b (over e) q w = rw q at w
waits-stepped n m b (none k) q w = w

-- what waits after a byte waited before it
waits-byte : (b : ℕ) (h : Held) → Waits (state_in (byte_step b h)) → Waits (state_in h)
unfolding byte_step
waits-byte b (held n m) w = waits-stepped n m b (state_of n m) refl w

-- what waits after bytes waited before them
waits-run : (h : Held) (bs : List ℕ) → Waits (state_in (run_held h bs)) → Waits (state_in h)
unfolding run_held
waits-run h [] w = w
waits-run h (b ∷ bs) w = waits-byte b h (waits-run (byte_step b h) bs w)

-- from waiting to waiting one byte is taken
cost-waits : (s t : State) → Waits s → Waits t → cost_from s t ≡ 1
cost-waits (wait x ts c m) (wait y us d n) p q = refl
cost-waits (wait x ts c m) (over e) p q = absurd q
cost-waits (wait x ts c m) (none n) p q = absurd q
cost-waits (over e) t p q = absurd p
cost-waits (none m) t p q = absurd p

-- and took all
pub waits-all : (h : Held) (bs : List ℕ) → Waits (state_in (run_held h bs)) → taken_by h bs ≡ length bs
unfolding run_held taken_by
waits-all h [] w = refl
waits-all h (b ∷ bs) w =
    let v = waits-run (byte_step b h) bs w in
    rw (cost-waits (state_in h) (state_in (byte_step b h)) (waits-byte b h v) v, waits-all (byte_step b h) bs w) (omega arith)

-- ---- the byte that decides

-- bytes after bytes
pub run-append : (h : Held) (a b : List ℕ) → run_held h (a ++ b) ≡ run_held (run_held h a) b
unfolding run_held
run-append h [] b = refl
run-append h (x ∷ a) b = run-append (byte_step x h) a b

-- their counts add up
pub taken-append : (h : Held) (a b : List ℕ) → taken_by h (a ++ b) ≡ taken_by h a + taken_by (run_held h a) b
unfolding taken_by run_held
taken-append h [] b = sym (zero-add _)
taken-append h (x ∷ a) b = rw (taken-append (byte_step x h) a b, add_assoc)

-- what waits stands at its place
stand_wait : (b : ℕ) (s : State) → Waits s → (at : ℕ) × Stands ⊥ (λ (x : ℕ). x ≡ b) at s
stand_wait b (wait x ts c m) w = (c.at, waits refl)
stand_wait b (over e) w = absurd w
stand_wait b (none m) w = absurd w

-- a byte that was read and left nothing waiting ended it
stand_over : {b at : ℕ} (s : State) → b < 2 ^ 8 → Stands ⊥ (λ (x : ℕ). x ≡ b) at s → (Waits s → ⊥) → (e : Ended) × (s ≡ over e)
stand_over s o (waits e) w = absurd (w tt)
stand_over s o (finishes {c = c} {m = m} e) w = (finished c m, refl)
stand_over s o (faulty f i j e) w = absurd f
stand_over s o (declines {n = n} {told = told} {place = place} {m = m} b k y r h z) w = (refused n told place m, refl)
stand_over s o (passes {place = place} {m = m} k e f z) w = (refused refusals.too_long 0 place m, refl)
stand_over s o (forgets b k y f z) w = absurd (f (rw y o))

-- an ended state stays, and takes nothing
still : (h : Held) (bs : List ℕ) (e : Ended) → state_in h ≡ over e → (run_held h bs ≡ h) × (taken_by h bs ≡ 0)
still (held n m) bs e q = (run-still n m e q bs, taken-still n m e q bs)

-- the cost of a byte that a waiting state gets
cost-from : (s t : State) → Waits s → cost_from s t ≡ cost t
cost-from (wait x ts c m) t w = refl
cost-from (over e) t w = absurd w
cost-from (none m) t w = absurd w

module _ (h : Held) (a : List ℕ) (b : ℕ) (rest : List ℕ) (octet : b < 2 ^ 8) (before : Waits (state_in (run_held h a)))
    (after : Waits (state_in (byte_step b (run_held h a))) → ⊥) where
  decided-over : (e : Ended) × (state_in (byte_step b (run_held h a)) ≡ over e)
  decided-over = stand_over _ octet (stands-byte b (run_held h a) refl (stand_wait b (state_in (run_held h a)) before).1) after

  -- what follows the deciding byte changes nothing
  pub decided-run : run_held h (a ++ (b ∷ rest)) ≡ byte_step b (run_held h a)
  unfolding run_held
  decided-run = run-append h a (b ∷ rest) ∙ (still (byte_step b (run_held h a)) rest decided-over.0 decided-over.1).0

  -- all bytes before it are taken, and it is as its answer says
  pub decided-taken : taken_by h (a ++ (b ∷ rest)) ≡ length a + cost (state_in (run_held h (a ++ (b ∷ rest))))
  unfolding taken_by
  decided-taken =
      rw (
        taken-append h a (b ∷ rest),
        waits-all h a before,
        decided-run,
        (still (byte_step b (run_held h a)) rest decided-over.0 decided-over.1).1,
        cost-from (state_in (run_held h a)) (state_in (byte_step b (run_held h a))) before,
        add-zero,
      )

-- ---- what that byte says

-- the place one further
up : {at p place : ℕ} → at ≡ p + 1 → place ≡ at → place ≡ suc p
up e f = omega arith

-- what the state behind it says, if that isn't 12
decided-state : {at : ℕ} (b p k : ℕ) (t : State) → b < 2 ^ 8 → Stands ⊥ (λ (x : ℕ). x ≡ b) at t → at ≡ p + cost t → (Waits t → ⊥)
    → ((told place j : ℕ) → answer_of t k ≢ Refused refusals.lost told place j) → Decided-by b (suc p) (answer_of t k)
decided-state b p k t o (waits e) q w g = absurd (w tt)
decided-state b p k t o (finishes e) q w g = ends
decided-state b p k t o (faulty f i j e) q w g = absurd f
decided-state b p k t o (declines c l y (unknown h e) j z) q w g = rw (← y) (refuses {n = refusals.bad_marker} (λ i. clash cc) (unknown h (up q e)))
decided-state b p k t o (declines c l y (absent e) j z) q w g = refuses {n = refusals.no_entry} (λ i. clash cc) (absent (up q e))
decided-state b p k t o (declines c l y (unfinished e) j z) q w g = refuses {n = refusals.open_object} (λ i. clash cc) (unfinished (up q e))
decided-state b p k t o (declines c l y (external e) j z) q w g = refuses {n = refusals.externalizable} (λ i. clash cc) (external (up q e))
decided-state b p k t o (declines c l y (undated e) j z) q w g = refuses {n = refusals.bad_date} (λ i. clash cc) (undated (up q e))
decided-state b p k t o (declines c l y (invalid e) j z) q w g = refuses {n = refusals.bad_text} (λ i. clash cc) (invalid (up q e))
decided-state b p k t o (declines c l y (deep e) j z) q w g = refuses {n = refusals.too_deep} (λ i. clash cc) (deep (up q e))
decided-state b p k t o (declines c l y (full h e) j z) q w g = refuses {n = refusals.no_room} (λ i. clash cc) (full h (up q e))
decided-state b p k t o (declines c l y astrays j z) q w g = absurd (g 0 0 k refl)
decided-state b p k t o (passes l e f z) q w g = past e (ap suc (f ∙ q ∙ add-zero p))
decided-state b p k t o (forgets c l y f z) q w g = absurd (f (rw y o))

-- what waits stands where it stood
stand_again : {Begun : Type 0} {Byte Byte' : ℕ → Type 0} {at : ℕ} (s : State) → Stands Begun Byte at s → Waits s → Stands ⊥ Byte' at s
stand_again s (waits e) w = waits e
stand_again s (finishes e) w = absurd w
stand_again s (faulty f i j e) w = absurd w
stand_again s (declines b k y r h z) w = absurd w
stand_again s (passes k e f z) w = absurd w
stand_again s (forgets b k y f z) w = absurd w

module _ (h : Held) (a : List ℕ) (b : ℕ) (rest : List ℕ) (octet : b < 2 ^ 8) (before : Waits (state_in (run_held h a)))
    (after : Waits (state_in (byte_step b (run_held h a))) → ⊥) where
  pub decided-says : {Begun : Type 0} → Stands Begun Any 0 (state_in h) → (k : ℕ)
      → ((told place j : ℕ) → answer_of (state_in (run_held h (a ++ (b ∷ rest)))) k ≢ Refused refusals.lost told place j)
      → Decided-by b (suc (length a)) (answer_of (state_in (run_held h (a ++ (b ∷ rest)))) k)
  decided-says w k g =
      let t = waits-all h a before in
      let s = stand_again {Byte' = λ (x : ℕ). x ≡ b} (state_in (run_held h a)) (stands-run h a (every_any a) w) before in
      let c = cost-from (state_in (run_held h a)) (state_in (byte_step b (run_held h a))) before in
      let d = decided-run h a b rest octet before after in
      rw d (decided-state b (length a) k (state_in (byte_step b (run_held h a))) octet (stands-byte b (run_held h a) refl s) (rw (c, t, zero-add)) after (rw d at g))

-- ---- through the calls

-- a feed is a run of its bytes
pub fed-is : (h : Held) (i : ℕ) (piece : List ℕ) → fed_by (answered h i) piece ≡ answered (run_held h piece) (taken_by h piece)
unfolding feed_call
fed-is (held n m) i piece = refl

-- feeds are a run of the joined bytes
pub pieces_are : (h : Held) (i : ℕ) (pieces : List (List ℕ)) → (k : ℕ) × (fed_pieces (answered h i) pieces ≡ answered (run_held h (joined pieces)) k)
unfolding run_held
pieces_are h i [] = (i, refl)
pieces_are h i (piece ∷ pieces) =
    let (k, e) = pieces_are (run_held h piece) (taken_by h piece) pieces in
    (k, rw (fed-is h i piece, e, run-append))

-- an answer tells the count that it is given
taken-answer : (s : State) (n : ℕ) → taken_in (answer_of s n) ≡ n
taken-answer (wait x ts c m) n = refl
taken-answer (over (finished c m)) n = refl
taken-answer (over (refused number told place m)) n = refl
taken-answer (none m) n = refl

-- the answer of what is held
pub answer-in : (h : Held) (n : ℕ) → answer_in (answered h n) ≡ answer_of (state_in h) n
answer-in (held s m) n = refl

-- the bytes taken by all pieces are those of the joined bytes
pub tally-is : (h : Held) (i : ℕ) (pieces : List (List ℕ)) → tally (answered h i) pieces ≡ taken_by h (joined pieces)
tally-is h i pieces =
    taken-pieces (answered h i) pieces ∙ ap (λ f. taken_in (answer_in f)) (fed-is h i (joined pieces))
    ∙ ap taken_in (answer-in (run_held h (joined pieces)) (taken_by h (joined pieces)))
    ∙ taken-answer (state_in (run_held h (joined pieces))) (taken_by h (joined pieces))

-- an answer that says it waits
pub answer-waits : (s : State) (n k : ℕ) → answer_of s n ≡ Waiting k → Waits s
answer-waits (wait x ts c m) n k e = tt
answer-waits (over (finished c m)) n k e = clash cc
answer-waits (over (refused number told place m)) n k e = clash cc
answer-waits (none m) n k e = clash cc

-- a state that waits says so
pub waits-answer : (s : State) (n : ℕ) → Waits s → answer_of s n ≡ Waiting n
waits-answer (wait x ts c m) n w = refl
waits-answer (over e) n w = absurd w
waits-answer (none m) n w = absurd w

-- it is what the state costs
pub cost-answer : (s : State) (n : ℕ) → cost s ≡ last_byte (answer_of s n)
cost-answer (wait x ts c m) n = refl
cost-answer (over (finished c m)) n = refl
cost-answer (over (refused number told place m)) n = refl
cost-answer (none m) n = refl
