-- A part of a list, as code takes it and as the definitions do.
use mathlib.Core.Path.{◌≡◌, sym, ap, ◌∙◌}
use mathlib.Core.List.{List, ◌++◌}
use Prim.Native.Nat.{ℕ, ◌-◌, ◌≤◌}
use lib.ListN.{length, take, drop, take-append-drop}
use lib.Seq.{slice, drop-append-le, length-take-le, length-slice, take_at}

-- a part of a list, and what follows it
module _ (f t : ℕ) (l : List ℕ) (h : f ≤ t) (g : t ≤ length l) where
  cut : drop f l ≡ slice f t l ++ drop t l
  cut = ap (drop f) (sym (take-append-drop t l)) ∙ drop-append-le f (take t l) (drop t l) (rw (length-take-le t l g) h)

  pub part_slice : take (t - f) (drop f l) ≡ slice f t l
  part_slice = ap (take (t - f)) cut ∙ take_at (slice f t l) (drop t l) (t - f) (length-slice f t l g)
