-- What the search for a text answers, as the definition has it.
use Rattle.std.specs.Prelude.{Option, Some, None}
use Rattle.rows.specs.declared.Span.{Span}
use Rattle.format.specs.Text as t

abbrev pub found_of : Option Span → t.Found
found_of None = t.nowhere
found_of (Some s) = t.found s.begin s.size
