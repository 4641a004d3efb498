-- What a call leaves as it was, whatever it answers: the loans that it isn't to write. m' is what the six hold after it, m before.
use Rattle.std.specs.Prelude.{◌≡◌}
use Rattle.rows.specs.Memory.{Memory}

-- no loan is written
abbrev pub NoLoan : Memory → Memory → Type 0
NoLoan m m' = (m'.rows ≡ m.rows) × (m'.store ≡ m.store) × (m'.strings ≡ m.strings) × (m'.objects ≡ m.objects) × (m'.traits ≡ m.traits) × (m'.names ≡ m.names)

-- none but the rows
abbrev pub OnlyRows : Memory → Memory → Type 0
OnlyRows m m' = (m'.store ≡ m.store) × (m'.strings ≡ m.strings) × (m'.objects ≡ m.objects) × (m'.traits ≡ m.traits) × (m'.names ≡ m.names)

-- none but the store
abbrev pub OnlyStore : Memory → Memory → Type 0
OnlyStore m m' = (m'.rows ≡ m.rows) × (m'.strings ≡ m.strings) × (m'.objects ≡ m.objects) × (m'.traits ≡ m.traits) × (m'.names ≡ m.names)

-- none but the strings
abbrev pub OnlyStrings : Memory → Memory → Type 0
OnlyStrings m m' = (m'.rows ≡ m.rows) × (m'.store ≡ m.store) × (m'.objects ≡ m.objects) × (m'.traits ≡ m.traits) × (m'.names ≡ m.names)

-- none but the objects
abbrev pub OnlyObjects : Memory → Memory → Type 0
OnlyObjects m m' = (m'.rows ≡ m.rows) × (m'.store ≡ m.store) × (m'.strings ≡ m.strings) × (m'.traits ≡ m.traits) × (m'.names ≡ m.names)

-- none but the traits
abbrev pub OnlyTraits : Memory → Memory → Type 0
OnlyTraits m m' = (m'.rows ≡ m.rows) × (m'.store ≡ m.store) × (m'.strings ≡ m.strings) × (m'.objects ≡ m.objects) × (m'.names ≡ m.names)

-- none but the names
abbrev pub OnlyNames : Memory → Memory → Type 0
OnlyNames m m' = (m'.rows ≡ m.rows) × (m'.store ≡ m.store) × (m'.strings ≡ m.strings) × (m'.objects ≡ m.objects) × (m'.traits ≡ m.traits)

-- none but those of a text: the store and the strings
abbrev pub OnlyText : Memory → Memory → Type 0
OnlyText m m' = (m'.rows ≡ m.rows) × (m'.objects ≡ m.objects) × (m'.traits ≡ m.traits) × (m'.names ≡ m.names)

-- none but those of a body: the rows and the store
abbrev pub OnlyBody : Memory → Memory → Type 0
OnlyBody m m' = (m'.strings ≡ m.strings) × (m'.objects ≡ m.objects) × (m'.traits ≡ m.traits) × (m'.names ≡ m.names)

-- none but those of a row and its text: the rows, the store and the strings
abbrev pub OnlyRowText : Memory → Memory → Type 0
OnlyRowText m m' = (m'.objects ≡ m.objects) × (m'.traits ≡ m.traits) × (m'.names ≡ m.names)

-- none but the rows and the objects
abbrev pub OnlyRowsObjects : Memory → Memory → Type 0
OnlyRowsObjects m m' = (m'.store ≡ m.store) × (m'.strings ≡ m.strings) × (m'.traits ≡ m.traits) × (m'.names ≡ m.names)

-- none but those of an object's members: the rows, and the traits with their names
abbrev pub OnlyMembers : Memory → Memory → Type 0
OnlyMembers m m' = (m'.store ≡ m.store) × (m'.strings ≡ m.strings) × (m'.objects ≡ m.objects)

-- none but those and the strings
abbrev pub OnlyMembersText : Memory → Memory → Type 0
OnlyMembersText m m' = (m'.store ≡ m.store) × (m'.objects ≡ m.objects)

-- none but those and the objects
abbrev pub OnlyMembersObjects : Memory → Memory → Type 0
OnlyMembersObjects m m' = (m'.store ≡ m.store) × (m'.strings ≡ m.strings)

-- none but those of a trait's names: the store, the strings and the names
abbrev pub OnlyNameTexts : Memory → Memory → Type 0
OnlyNameTexts m m' = (m'.rows ≡ m.rows) × (m'.objects ≡ m.objects) × (m'.traits ≡ m.traits)

-- all may be written but the objects
abbrev pub NotObjects : Memory → Memory → Type 0
NotObjects m m' = m'.objects ≡ m.objects
