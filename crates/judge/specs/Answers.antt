-- What the code answers, as the definition has it.
use Rattle.std.specs.Prelude.{Result, Ok, Err}
use Rattle.format.specs.RowTest.{Given, keyless, any_key, full_key, Tested, fine, faulty}
use Rattle.judge.specs.declared.Fault.{Fault}
use Rattle.judge.specs.declared.Gift.{Gift}
use Rattle.judge.specs.declared.Gift.TheVariants as gift

abbrev pub judged_of : Result (Unit {0}) Fault → Tested
judged_of (Ok done) = fine
judged_of (Err f) = faulty f.no f.row

abbrev pub given_of : Gift → Given
given_of gift.Keyless = keyless
given_of gift.Keyed = any_key
given_of gift.Filled = full_key
