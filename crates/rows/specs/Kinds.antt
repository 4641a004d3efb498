-- The kinds of rows, in the order of their numbers.
use Rattle.std.specs.Prelude.{ℕ}

abbrev pub kind_undefined : ℕ
kind_undefined = 1

abbrev pub kind_null : ℕ
kind_null = 2

abbrev pub kind_boolean : ℕ
kind_boolean = 3

abbrev pub kind_integer : ℕ
kind_integer = 4

abbrev pub kind_double : ℕ
kind_double = 5

abbrev pub kind_string : ℕ
kind_string = 6

abbrev pub kind_xml_document : ℕ
kind_xml_document = 7

abbrev pub kind_date : ℕ
kind_date = 8

abbrev pub kind_array : ℕ
kind_array = 9

abbrev pub kind_object : ℕ
kind_object = 10

abbrev pub kind_xml : ℕ
kind_xml = 11

abbrev pub kind_byte_array : ℕ
kind_byte_array = 12

abbrev pub kind_int_vector : ℕ
kind_int_vector = 13

abbrev pub kind_uint_vector : ℕ
kind_uint_vector = 14

abbrev pub kind_double_vector : ℕ
kind_double_vector = 15

abbrev pub kind_object_vector : ℕ
kind_object_vector = 16

abbrev pub kind_dictionary : ℕ
kind_dictionary = 17

abbrev pub kind_reference : ℕ
kind_reference = 18
