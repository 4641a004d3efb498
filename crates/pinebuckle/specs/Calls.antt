-- The contracts of the public calls: what the answer, the state and all that is lent are after the call, from what they were before it.
use Rattle.std.specs.Prelude.{◌≡◌, Option, Result, List, ℕ, ℤ}
use Rattle.rows.specs.Memory.{Memory}
use Rattle.format.specs.declared.Answer.{Answer}
use Rattle.format.specs.declared.Refusal.{Refusal}
use Rattle.format.specs.Answers.{fed, begin_call, feed_call, end_call, read, read_call, output, write_call, text_call, millis_call}
use Rattle.format.specs.Text.{text_span}
use Rattle.feed.specs.declared.State.{State}
use Rattle.feed.specs.Calls.{state_numbers}
use Rattle.pinebuckle.specs.declared.Coded.{Coded}
use Rattle.pinebuckle.specs.declared.Instant.{Instant}
use Rattle.pinebuckle.specs.declared.Place.{Place}
use Rattle.pinebuckle.specs.Coding.{passed, coded_fed, left, coded_read, put, coded_write, span_code, moment_code}

-- ---- in Rattle; loans and state before the call are named `lent` and `from`

abbrev pub BeginContract : Answer → State → Memory → Memory → Type 0
BeginContract a s m lent = fed a (state_numbers s) m ≡ begin_call lent

abbrev pub FeedContract : Answer → State → Memory → State → Memory → List ℕ → Type 0
FeedContract a s m from lent piece = fed a (state_numbers s) m ≡ feed_call (state_numbers from) lent piece

abbrev pub EndContract : Answer → State → Memory → State → Memory → Type 0
EndContract a s m from lent = fed a (state_numbers s) m ≡ end_call (state_numbers from) lent

abbrev pub ReadContract : Answer → Memory → Memory → List ℕ → Type 0
ReadContract a m lent message = read a m ≡ read_call lent message

abbrev pub WriteContract : Result ℕ Refusal → List ℕ → List ℕ → List ℕ → List ℕ → Type 0
WriteContract a P rows store out = output a P ≡ write_call rows store out

abbrev pub TextContract : List ℕ → List ℕ → List ℕ → ℕ → List ℕ → Type 0
TextContract part rows store row default = part ≡ text_call rows store row default

abbrev pub MillisContract : Option ℤ → List ℕ → List ℕ → ℕ → Type 0
MillisContract moment rows store row = moment ≡ millis_call rows store row

-- ---- in C

abbrev pub CBeginContract : Coded → State → Memory → Memory → Type 0
CBeginContract a s m lent = passed a (state_numbers s) m ≡ coded_fed (begin_call lent)

abbrev pub CFeedContract : Coded → State → Memory → State → Memory → List ℕ → Type 0
CFeedContract a s m from lent piece = passed a (state_numbers s) m ≡ coded_fed (feed_call (state_numbers from) lent piece)

abbrev pub CEndContract : Coded → State → Memory → State → Memory → Type 0
CEndContract a s m from lent = passed a (state_numbers s) m ≡ coded_fed (end_call (state_numbers from) lent)

abbrev pub CReadContract : Coded → Memory → Memory → List ℕ → Type 0
CReadContract a m lent message = left a m ≡ coded_read (read_call lent message)

abbrev pub CWriteContract : Coded → List ℕ → List ℕ → List ℕ → List ℕ → Type 0
CWriteContract a P rows store out = put a P ≡ coded_write (write_call rows store out)

abbrev pub CTextContract : Place → List ℕ → List ℕ → ℕ → Type 0
CTextContract place rows store row = place ≡ span_code (text_span rows store row)

abbrev pub CMillisContract : Instant → List ℕ → List ℕ → ℕ → Type 0
CMillisContract a rows store row = a ≡ moment_code (millis_call rows store row)
