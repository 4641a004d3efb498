-- What a size word says is small.
use Rattle.std.proofs.Common.{◌≡◌, ℕ, Bool, true, false, cond, eqb, ◌/◌, ◌^◌, ◌<◌, arith}
use Rattle.wire.specs.declared.Size.TheVariants.{Old, New}
use Rattle.wire.specs.Word.{bit, size_of}

pub size_small : (w n : ℕ) → size_of w ≡ New n → w < 2 ^ 30 → n < 2 ^ 30
unfolding size_of
size_small w n e h = by (eqb (bit 0 w) 0) e
  where
    by : (b : Bool) → cond b (Old (w / 2)) (New (w / 2)) ≡ New n → n < 2 ^ 30
    by true e = let z : ◌≡◌ {A = ℕ} 0 1 = cc in omega arith
    by false e = let q : w / 2 ≡ n = cc in omega arith
