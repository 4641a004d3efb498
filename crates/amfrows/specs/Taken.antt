-- An answer's count of bytes taken.
use Rattle.std.specs.Prelude.{ℕ, Bool, true, false}
use Rattle.format.specs.declared.Answer.{Answer}
use Rattle.format.specs.declared.Answer.TheVariants.{Waiting, Finished, Refused}

unfoldable pub waiting : Answer → Bool
waiting (Waiting t) = true
waiting (Finished n b t) = false
waiting (Refused k x p t) = false

unfoldable pub taken_of : Answer → ℕ
taken_of (Waiting t) = t
taken_of (Finished n b t) = t
taken_of (Refused k x p t) = t

-- the answer with another count
unfoldable pub with_taken : Answer → ℕ → Answer
with_taken (Waiting t) taken = Waiting taken
with_taken (Finished n b t) taken = Finished n b taken
with_taken (Refused k x p t) taken = Refused k x p taken
