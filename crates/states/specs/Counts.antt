-- What is used lies within the loans, by their lengths.
use Rattle.std.specs.Prelude.{Bool, ◌&&◌, ◌/◌, leb}
use Rattle.rows.specs.declared.Cursor.{Cursor}
use Rattle.rows.specs.declared.lent.Lent.{Lent}
use Rattle.rows.specs.Memory.{row_width, span_width, trait_width}

abbrev pub counts_in : Cursor → Lent → Bool
counts_in c l =
    leb c.rows (l.rows / row_width) && leb c.store l.store && leb c.strings (l.strings / span_width) && leb c.objects l.objects
    && leb c.traits (l.traits / trait_width) && leb c.names (l.names / span_width)
