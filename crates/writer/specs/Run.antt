-- Bytes into an output, each as it comes.
use Rattle.std.specs.Prelude.{◌≡◌, Bool, cond, List, ℕ, ◌+◌, ltb, length, set, Result, Ok, Err}
use Rattle.rows.specs.Memory.{loan_output}
use Rattle.format.specs.Refusals as no
use Rattle.format.specs.declared.Refusal.{Refusal}
use Rattle.format.specs.Answers.{refusal_of}
use Rattle.format.specs.Writing.{Stream, done, deep, byte, these}
use Rattle.writer.specs.declared.Stop.{Stop}
use Rattle.writer.specs.declared.Stop.TheVariants.{NoRoom, TooDeep}
use Rattle.writer.specs.declared.Writer.{Writer}

-- an answer, with the place where the bytes ended and the output that they left
pub data Ran : Type 0 where
  ran : Result (Unit {0}) Stop → ℕ → List ℕ → Ran

-- no room at the first byte past the output, too deep where the bytes stop; a dry run stores nothing
unfoldable pub run : Bool → Stream → ℕ → List ℕ → Ran
run dry done at out = ran (Ok tt) at out
run dry deep at out = ran (Err TooDeep) at out
run dry (byte b x) at out = cond (ltb at (length out)) (run dry x (at + 1) (cond dry out (set out at b))) (ran (Err NoRoom) at out)

-- refusals 10, which tells of the output, and 9
abbrev pub refusal_at : Stop → ℕ → Refusal
refusal_at NoRoom place = refusal_of no.no_room loan_output place
refusal_at TooDeep place = refusal_of no.too_deep 0 place

-- a writer of the same rows into the same output
pub record Same (old new : Writer) : Type 0 where
  pub table : new.table ≡ old.table
  pub dry : new.dry ≡ old.dry
  pub output : new.out.ghost_name ≡ old.out.ghost_name

-- x of the rows and their store is written
pub record Writes (result : Result (Unit {0}) Stop) (old new : Writer) (x : List ℕ → List ℕ → Stream) : Type 0 where
  pub same : Same old new
  pub runs : ran result new.at new.out.now ≡ run old.dry (x old.table.rows.now old.table.store.now) old.at old.out.now

-- these bytes are
abbrev pub Puts : Result (Unit {0}) Stop → Writer → Writer → List ℕ → Type 0
Puts result old new bs = Writes result old new (λ R B. these bs)
