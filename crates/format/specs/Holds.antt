-- Which loans can hold a tree unfolded: a row for each value, and room for all its texts, raw bytes, keys, names, objects and traits, each written out every time.
use Rattle.std.specs.Prelude.{Bool, cond, ◌&&◌, List, [], ◌∷◌, ℕ, ◌+◌, ◌*◌, leb, eqb, length}
use Rattle.std.proofs.Math.Option.{Option, none, some}
use Rattle.rows.specs.Memory.{Memory, row_width, span_width, trait_width}
use Rattle.format.specs.Standard.{Plain, undefined, null, boolean, integer, double, string, xml_document, xml, byte_array, date, int_vector, uint_vector, double_vector}
use Rattle.format.specs.Standard.{Tree, plain, array, object, object_vector, dictionary, Trees, nil, cons, Pairs, no_pairs, pair, Entries, no_entries, entry}

-- how many entries of each loan
pub record Room : Type 0 where
  pub rows : ℕ
  pub store : ℕ
  pub strings : ℕ
  pub objects : ℕ
  pub traits : ℕ
  pub names : ℕ

abbrev pub room : ℕ → ℕ → ℕ → ℕ → ℕ → ℕ → Room
room r b t o u n = record { rows = r; store = b; strings = t; objects = o; traits = u; names = n }

infixr 20 ◌and◌
abbrev pub ◌and◌ : Room → Room → Room
x and y =
    room (x.rows + y.rows) (x.store + y.store) (x.strings + y.strings) (x.objects + y.objects) (x.traits + y.traits) (x.names + y.names)

abbrev pub nothing : Room
nothing = room 0 0 0 0 0 0

-- a row; a row that enters the objects, with so many bytes
abbrev pub a_row : Room
a_row = room 1 0 0 0 0 0

abbrev pub an_object : ℕ → Room
an_object n = room 1 n 0 1 0 0

-- a string: an empty one takes nothing
unfoldable pub of_text : List ℕ → Room
of_text t = room 0 (length t) (cond (eqb (length t) 0) 0 1) 0 0 0

unfoldable pub of_class : List ℕ → Option (List ℕ) → Room
of_class default none = of_text default
of_class default (some t) = of_text t

unfoldable pub of_plain : Plain → Room
of_plain undefined = a_row
of_plain null = a_row
of_plain (boolean b) = a_row
of_plain (integer v) = a_row
of_plain (double bits) = a_row
of_plain (string t) = a_row and of_text t
of_plain (xml_document t) = an_object (length t)
of_plain (xml t) = an_object (length t)
of_plain (byte_array t) = an_object (length t)
of_plain (date bits) = an_object 0
of_plain (int_vector fixed t) = an_object (length t)
of_plain (uint_vector fixed t) = an_object (length t)
of_plain (double_vector fixed t) = an_object (length t)

unfoldable mutual
  pub of_tree : Tree → Room
  of_tree (plain p) = of_plain p
  of_tree (array xs ts) = an_object 0 and of_pairs xs and of_trees ts
  of_tree (object class xs ys) = an_object 0 and room 0 0 0 0 1 0 and of_class [] class and of_sealed xs and of_pairs ys
  of_tree (object_vector fixed class ts) = an_object 0 and of_class (0x2A ∷ []) class and of_trees ts
  of_tree (dictionary weak es) = an_object 0 and of_entries es

  pub of_trees : Trees → Room
  of_trees nil = nothing
  of_trees (cons t ts) = of_tree t and of_trees ts

  pub of_pairs : Pairs → Room
  of_pairs no_pairs = nothing
  of_pairs (pair x t ps) = of_text x and of_tree t and of_pairs ps

  -- each sealed name takes an entry of the names too
  pub of_sealed : Pairs → Room
  of_sealed no_pairs = nothing
  of_sealed (pair x t ps) = room 0 0 0 0 0 1 and of_text x and of_tree t and of_sealed ps

  pub of_entries : Entries → Room
  of_entries no_entries = nothing
  of_entries (entry a b es) = of_tree a and of_tree b and of_entries es

-- the loans have that room
unfoldable pub can_hold : Memory → Tree → Bool
can_hold m t =
    leb ((of_tree t).rows * row_width) (length m.rows) && leb (of_tree t).store (length m.store)
    && leb ((of_tree t).strings * span_width) (length m.strings) && leb (of_tree t).objects (length m.objects)
    && leb ((of_tree t).traits * trait_width) (length m.traits) && leb ((of_tree t).names * span_width) (length m.names)
