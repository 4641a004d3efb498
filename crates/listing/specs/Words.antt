-- The words of a listing, and what a line has of a row, by its kind.
use Rattle.std.specs.Prelude.{Bool, cond, ◌||◌, ◌&&◌, Option, Some, None, List, [], ℕ, ◌-◌, ◌^◌, false, leb, eqb, codes}
use Rattle.std.specs.Fmt.{decimal, signed_decimal, padded_integral, format_spec, digits}
use denote.Ref.{Bor}
use Rattle.wire.specs.Sign.{of_column}
use Rattle.wire.specs.Date.{moment_of}
use Rattle.rows.specs.Kinds.{kind_undefined, kind_null, kind_boolean, kind_integer, kind_double, kind_string, kind_xml_document, kind_date, kind_array, kind_object, kind_xml, kind_byte_array, kind_int_vector, kind_uint_vector, kind_double_vector, kind_object_vector, kind_dictionary, kind_reference}
use Rattle.rows.specs.declared.Row.{Row}
use Rattle.format.specs.RowTest.{has_text}
use Rattle.listing.specs.Hex.{shown_bytes}
use Rattle.listing.specs.declared.Value.{Value}
use Rattle.listing.specs.declared.Value.TheVariants.{Body, Plain, Signed, Bits, Millis}

-- ---- a row

-- the bytes of a kind's name; any other number is of an unknown kind
unfoldable pub kind_name : ℕ → List ℕ
kind_name kind =
    cond (eqb kind kind_undefined) (codes "undefined")
    (cond (eqb kind kind_null) (codes "null")
    (cond (eqb kind kind_boolean) (codes "boolean")
    (cond (eqb kind kind_integer) (codes "integer")
    (cond (eqb kind kind_double) (codes "double")
    (cond (eqb kind kind_string) (codes "string")
    (cond (eqb kind kind_xml_document) (codes "xmldocument")
    (cond (eqb kind kind_date) (codes "date")
    (cond (eqb kind kind_array) (codes "array")
    (cond (eqb kind kind_object) (codes "object")
    (cond (eqb kind kind_xml) (codes "xml")
    (cond (eqb kind kind_byte_array) (codes "bytearray")
    (cond (eqb kind kind_int_vector) (codes "vector-int")
    (cond (eqb kind kind_uint_vector) (codes "vector-uint")
    (cond (eqb kind kind_double_vector) (codes "vector-double")
    (cond (eqb kind kind_object_vector) (codes "vector-object")
    (cond (eqb kind kind_dictionary) (codes "dictionary")
    (cond (eqb kind kind_reference) (codes "reference") (codes "unknown"))))))))))))))))))

-- what a line has of a row: the number as a signed one, as its 64 bits, in decimal or as a date's milliseconds, or the body
unfoldable pub value_of : Row → Bor (List ℕ) → Option Value
value_of r body =
    cond (eqb r.kind kind_integer) (Some (Signed (of_column r.number)))
    (cond (eqb r.kind kind_double) (Some (Bits r.number))
    (cond (eqb r.kind kind_boolean || eqb r.kind kind_reference) (Some (Plain r.number))
    (cond (eqb r.kind kind_date) (Some (Millis (moment_of r.number)))
    (cond (has_text r.kind || (leb kind_byte_array r.kind && leb r.kind kind_double_vector)) (Some (Body body)) None))))

-- the text of that
abbrev pub text_of : Value → List ℕ
text_of (Body s) = shown_bytes s.now
text_of (Plain n) = decimal n
text_of (Signed v) = signed_decimal v
text_of (Bits n) = padded_integral (format_spec 32 0 4 16 (2 ^ 64 - 1)) false [] (digits 16 false n)
text_of (Millis (Some v)) = signed_decimal v
text_of (Millis None) = codes "-"

-- ---- a refusal

-- those of a reading that tell a value
unfoldable pub tells_value : ℕ → Bool
tells_value number = eqb number 1 || eqb number 3 || eqb number 4 || eqb number 5 || eqb number 7 || eqb number 10

-- what is told: of a date its 64 bits, else a number in decimal
unfoldable pub told_of : ℕ → ℕ → Option Value
told_of number told = cond (tells_value number) (Some (cond (eqb number 7) (Bits told) (Plain told))) None
