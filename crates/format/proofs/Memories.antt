-- Memories with one loan changed, cursors at another place, and a trait as a table has it.
use mathlib.Core.List.{List, [], ◌∷◌}
use Prim.Native.Nat.{ℕ}
use Rattle.rows.specs.declared.Cursor.{Cursor}
use Rattle.rows.specs.declared.Trait.{Trait}
use Rattle.rows.specs.Memory.{Memory, memory, cursor}

abbrev pub with_rows : Memory → List ℕ → Memory
with_rows m R = memory R m.store m.strings m.objects m.traits m.names

abbrev pub with_store : Memory → List ℕ → Memory
with_store m B = memory m.rows B m.strings m.objects m.traits m.names

abbrev pub with_strings : Memory → List ℕ → Memory
with_strings m T = memory m.rows m.store T m.objects m.traits m.names

abbrev pub with_objects : Memory → List ℕ → Memory
with_objects m O = memory m.rows m.store m.strings O m.traits m.names

abbrev pub with_traits : Memory → List ℕ → Memory
with_traits m U = memory m.rows m.store m.strings m.objects U m.names

abbrev pub with_names : Memory → List ℕ → Memory
with_names m N = memory m.rows m.store m.strings m.objects m.traits N

-- the cursor after so many bytes
abbrev pub at_to : Cursor → ℕ → Cursor
at_to c n = cursor n c.rows c.store c.strings c.objects c.traits c.names

-- a trait's numbers
abbrev pub numbers : Trait → List ℕ
numbers t = t.begin ∷ t.size ∷ t.dynamic ∷ t.first ∷ t.count ∷ []
