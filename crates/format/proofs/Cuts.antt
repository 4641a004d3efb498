-- Where a message is cut changes nothing: a run goes across pieces, and what has ended stays as it ended.
use mathlib.Core.Path.{◌≡◌, refl, ap, sym, ◌∙◌}
use mathlib.Core.List.{List, [], ◌∷◌, ◌++◌}
use Prim.Native.Nat.{ℕ}
use Rattle.rows.specs.Memory.{Memory}
use Rattle.format.specs.Reading.{Ended, reading}
use Rattle.format.specs.Step.{State, over, step, run, end, begin}
use Rattle.format.proofs.Feeding.{feeding}
pub use Rattle.format.specs.Claims.{joined}

-- a piece after a piece
pub run-append : (s : State) (a b : List ℕ) → run s (a ++ b) ≡ run (run s a) b
unfolding run
run-append s [] b = refl
run-append s (x ∷ a) b = run-append (step x s) a b

-- all the pieces, each after those before it
abbrev pub run_pieces : State → List (List ℕ) → State
run_pieces s [] = s
run_pieces s (piece ∷ pieces) = run_pieces (run s piece) pieces

pub run-pieces : (s : State) (pieces : List (List ℕ)) → run_pieces s pieces ≡ run s (joined pieces)
unfolding run
run-pieces s [] = refl
run-pieces s (piece ∷ pieces) = run-pieces (run s piece) pieces ∙ sym (run-append s piece (joined pieces))

-- what has ended takes no byte
pub run-over : (e : Ended) (bs : List ℕ) → run (over e) bs ≡ over e
unfolding run step
run-over e [] = refl
run-over e (b ∷ bs) = run-over e bs

-- nothing after the deciding byte changes anything
pub run-decided : (s : State) (a b : List ℕ) (e : Ended) → run s a ≡ over e → run s (a ++ b) ≡ over e
run-decided s a b e h = rw (run-append, h) (run-over e b)

pub reading-decided : (m : Memory) (a b : List ℕ) (e : Ended) → run (begin m) a ≡ over e → reading m (a ++ b) ≡ e
unfolding end
reading-decided m a b e h = sym (feeding m (a ++ b)) ∙ ap end (run-decided (begin m) a b e h)

-- however a message is cut, the pieces and the end give what reading the joined bytes gives
pub feeding-pieces : (m : Memory) (pieces : List (List ℕ)) → end (run_pieces (begin m) pieces) ≡ reading m (joined pieces)
feeding-pieces m pieces = ap end (run-pieces (begin m) pieces) ∙ feeding m (joined pieces)
