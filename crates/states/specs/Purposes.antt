-- The purposes that a work has in each mode.
use Rattle.std.specs.Prelude.{◌≡◌, ℕ, suc, ◌<◌}
use Rattle.format.specs.declared.Work.{Work}
use Rattle.format.specs.Codes.{purpose_xml, purpose_array, purpose_byte_array, purpose_object_vector, purpose_dictionary, purpose_string, purpose_vector_class}

abbrev pub IsUse : Work → Type 0
IsUse w = (purpose_dictionary < w.purpose) × (w.purpose < suc purpose_vector_class)

abbrev pub IsText : Work → Type 0
IsText w = (w.purpose ≡ purpose_xml → ⊥) → IsUse w

abbrev pub IsWord : Work → Type 0
IsWord w = (0 < w.purpose) × (w.purpose < suc purpose_vector_class)

abbrev pub IsNumber : Work → Type 0
IsNumber w = (0 < w.purpose) × (w.purpose < purpose_xml)

abbrev pub IsFlag : Work → Type 0
IsFlag w = (purpose_byte_array < w.purpose) × (w.purpose < purpose_string)

abbrev pub IsRaw : ℕ → Type 0
IsRaw purpose = (purpose_array < purpose) × (purpose < purpose_object_vector)
