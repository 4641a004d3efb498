-- The numbers of a state's status, modes, purposes and tasks.
use Rattle.std.specs.Prelude.{ℕ}

-- ---- a state's status

abbrev pub status_waiting : ℕ
status_waiting = 1

abbrev pub status_finished : ℕ
status_finished = 2

abbrev pub status_refused : ℕ
status_refused = 3

-- ---- modes: what the next byte is of

abbrev pub mode_marker : ℕ
mode_marker = 1

abbrev pub mode_word : ℕ
mode_word = 2

abbrev pub mode_number : ℕ
mode_number = 3

abbrev pub mode_flag : ℕ
mode_flag = 4

abbrev pub mode_text : ℕ
mode_text = 5

abbrev pub mode_raw : ℕ
mode_raw = 6

-- ---- purposes: whose it is. A word of an integer and eight bytes of a double have one number, and so have an object's word and a date's bytes

abbrev pub purpose_integer : ℕ
purpose_integer = 1

abbrev pub purpose_double : ℕ
purpose_double = 1

abbrev pub purpose_object : ℕ
purpose_object = 2

abbrev pub purpose_date_bits : ℕ
purpose_date_bits = 2

abbrev pub purpose_xml : ℕ
purpose_xml = 3

abbrev pub purpose_date : ℕ
purpose_date = 4

abbrev pub purpose_array : ℕ
purpose_array = 5

abbrev pub purpose_byte_array : ℕ
purpose_byte_array = 6

abbrev pub purpose_fours : ℕ
purpose_fours = 7

abbrev pub purpose_eights : ℕ
purpose_eights = 8

abbrev pub purpose_object_vector : ℕ
purpose_object_vector = 9

abbrev pub purpose_dictionary : ℕ
purpose_dictionary = 10

abbrev pub purpose_string : ℕ
purpose_string = 11

abbrev pub purpose_key : ℕ
purpose_key = 12

abbrev pub purpose_dynamic_key : ℕ
purpose_dynamic_key = 13

abbrev pub purpose_class : ℕ
purpose_class = 14

abbrev pub purpose_external : ℕ
purpose_external = 15

abbrev pub purpose_name : ℕ
purpose_name = 16

abbrev pub purpose_vector_class : ℕ
purpose_vector_class = 17

-- ---- tasks: what an open value still has to read

abbrev pub task_pairs : ℕ
task_pairs = 1

abbrev pub task_dynamics : ℕ
task_dynamics = 2

abbrev pub task_dense : ℕ
task_dense = 3

abbrev pub task_vector : ℕ
task_vector = 4

abbrev pub task_members : ℕ
task_members = 5

abbrev pub task_keys : ℕ
task_keys = 6

abbrev pub task_values : ℕ
task_values = 7
