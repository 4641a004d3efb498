-- The answers of the calls as C has them.
use Rattle.std.specs.Prelude.{Option, Some, None, Result, Ok, Err, List, ℕ, ℤ, pos}
use Rattle.rows.specs.Memory.{Memory}
use Rattle.format.specs.declared.Answer.{Answer}
use Rattle.format.specs.declared.Answer.TheVariants.{Waiting, Finished, Refused}
use Rattle.format.specs.declared.Refusal.{Refusal}
use Rattle.format.specs.Numbers.{Numbers}
use Rattle.format.specs.Answers.{Fed, fed, Read, read, Output, output}
use Rattle.format.specs.Text.{Found, nowhere, found}
use Rattle.pinebuckle.specs.declared.Coded.{Coded}
use Rattle.pinebuckle.specs.declared.Place.{Place}
use Rattle.pinebuckle.specs.declared.Instant.{Instant}

-- what an answer says
abbrev pub say_waiting : ℕ
say_waiting = 0

abbrev pub say_finished : ℕ
say_finished = 1

abbrev pub say_refused : ℕ
say_refused = 2

-- numbers without meaning are 0
abbrev pub code : ℕ → ℕ → ℕ → ℕ → ℕ → ℕ → ℕ → Coded
code kind number told place rows bytes taken = record { kind = kind; no = number; told = told; place = place; rows = rows; bytes = bytes; taken = taken }

abbrev pub code_of : Answer → Coded
code_of (Waiting taken) = code say_waiting 0 0 0 0 0 taken
code_of (Finished rows bytes taken) = code say_finished 0 0 0 rows bytes taken
code_of (Refused number told place taken) = code say_refused number told place 0 0 taken

abbrev pub written_code : Result ℕ Refusal → Coded
written_code (Ok n) = code say_finished 0 0 0 0 n 0
written_code (Err r) = code say_refused r.number r.told r.place 0 0 0

-- an answer with the state and the loans, with the loans, with the output, that it left
pub data Passed : Type 0 where
  passed : Coded → Numbers → Memory → Passed

abbrev pub coded_fed : Fed → Passed
coded_fed (fed a s m) = passed (code_of a) s m

pub data Left : Type 0 where
  left : Coded → Memory → Left

abbrev pub coded_read : Read → Left
coded_read (read a m) = left (code_of a) m

pub data Wrote : Type 0 where
  put : Coded → List ℕ → Wrote

abbrev pub coded_write : Output → Wrote
coded_write (output a out) = put (written_code a) out

abbrev pub span_code : Found → Place
span_code nowhere = record { found = 0; begin = 0; length = 0 }
span_code (found begin size) = record { found = 1; begin = begin; length = size }

abbrev pub moment_code : Option ℤ → Instant
moment_code None = record { found = 0; millis = pos 0 }
moment_code (Some n) = record { found = 1; millis = n }
