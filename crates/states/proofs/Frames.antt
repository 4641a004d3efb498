-- The frames of open values in their numbers: laid where they lie they change nothing, and one more goes behind them.
use mathlib.Core.Path.{◌≡◌, refl, ap}
use mathlib.Core.List.{List, ◌∷◌}
use Prim.Native.Nat.{ℕ, zero, suc, ◌+◌, ◌*◌}
use native.Mathlib.Omega.{arith}
use lib.ListN.{length}
use lib.Seq.{sets, set-get_or}
use Rattle.format.specs.declared.Frame.{Frame}
use Rattle.format.specs.Numbers.{frame_at, frame_width, frames_of, frame_numbers, laid}

pub length-frames : (F : List ℕ) (n : ℕ) → length (frames_of F n) ≡ n
unfolding frames_of
length-frames F zero = refl
length-frames F (suc n) = ap suc (length-frames F n)

frame-there : (F : List ℕ) (n : ℕ) → sets F (n * frame_width) (frame_numbers (frame_at F n)) ≡ F
unfolding frame_at
frame-there F n =
    let a : n * frame_width + 1 ≡ suc (n * frame_width) = omega arith in
    let b : n * frame_width + 2 ≡ suc (suc (n * frame_width)) = omega arith in
    let c : n * frame_width + 3 ≡ suc (suc (suc (n * frame_width))) = omega arith in
    let d : n * frame_width + 4 ≡ suc (suc (suc (suc (n * frame_width)))) = omega arith in
    let e : n * frame_width + 5 ≡ suc (suc (suc (suc (suc (n * frame_width))))) = omega arith in
    rw (a, b, c, d, e) (simp set-get_or)

pub laid-frames : (F : List ℕ) (n : ℕ) → laid F (frames_of F n) ≡ F
unfolding laid frames_of
laid-frames F zero = refl
laid-frames F (suc n) = rw (laid-frames F n, length-frames F n) (frame-there F n)

pub laid_next : (F : List ℕ) (n : ℕ) (f : Frame) → laid F (f ∷ frames_of F n) ≡ sets F (n * frame_width) (frame_numbers f)
unfolding laid
laid_next F n f = rw (laid-frames F n, length-frames F n)
