-- How many bytes a tree is written in: fewer than a sum over the room that it takes; so fewer than the message limit, where loans can hold it.
use mathlib.Core.Path.{◌≡◌}
use mathlib.Core.Bool.{true, false}
use mathlib.Core.List.{List, [], ◌∷◌}
use mathlib.Core.Option.{Option, none, some}
use Prim.Native.Nat.{ℕ, suc, ◌+◌, ◌*◌, ◌/◌, ◌≤◌, ◌<◌}
use native.Mathlib.Omega.{arith}
use lib.Dec.{lit<, lit≤, leb}
use lib.ListN.{length, length-append}
use borrow.Author.Tests.{leb-true, ne_eqb}
use Rattle.wire.specs.U29.{u29}
use Rattle.wire.specs.Sign.{bits_at}
use Rattle.wire.proofs.U29.{u29-length, more_le, more-least}
use Rattle.wire.proofs.Big.{bytes-length}
use Rattle.rows.specs.Memory.{Memory, row_width, span_width, trait_width, fault_of, message_limit}
use Rattle.format.specs.Standard.{Plain, undefined, null, boolean, integer, double, string, xml_document, xml, byte_array, date}
use Rattle.format.specs.Standard.{int_vector, uint_vector, double_vector}
use Rattle.format.specs.Standard.{Tree, plain, array, object, object_vector, dictionary, Trees, nil, cons, Pairs, no_pairs, pair, Entries, no_entries, entry}
use Rattle.format.specs.Standard.{count, count_entries, size_bytes, name_bytes, class_bytes, trait_word, encode_plain}
use Rattle.format.specs.Standard.{array_head, object_head, vector_head, dictionary_head}
use Rattle.format.specs.Standard.{encode, encode_trees, encode_pairs, encode_values, encode_dynamic, encode_entries}
use Rattle.format.specs.Holds.{Room, of_text, of_class, of_plain, of_tree, of_trees, of_pairs, of_sealed, of_entries, can_hold}
use Rattle.format.proofs.Tests.{both}
use Rattle.format.proofs.Loans.{lent}

-- a row pays for a number's marker and bytes, and for a byte more: the size word of an empty key or name
abbrev pub weight : Room → ℕ
weight r = 11 * r.rows + r.store + 3 * r.strings

-- ---- words and texts

word_size : (n : ℕ) → length (u29 n) ≤ 4
word_size n = omega (arith, u29-length n, more_le n)

-- a text's size word and its bytes
text-size : (t : List ℕ) → length (size_bytes (length t)) + length t ≤ suc (weight (of_text t))
unfolding of_text
text-size [] = omega (arith, u29-length 1, more-least 0 1 (lit≤ tt) (lit< tt))
text-size (b ∷ t) = simp (ne_eqb (suc (length t)) 0 (λ e. omega arith)) (omega (arith, word_size (length (b ∷ t) * 2 + 1)))

class-size : (default : List ℕ) (class : Option (List ℕ)) → length (class_bytes default class) ≤ suc (weight (of_class default class))
unfolding of_class
class-size default none = simp length-append (text-size default)
class-size default (some t) = simp length-append (text-size t)

-- ---- values

plain_size : (p : Plain) → length (encode_plain p) < weight (of_plain p)
unfolding encode_plain of_plain
plain_size undefined = lit< tt
plain_size null = lit< tt
plain_size (boolean false) = lit< tt
plain_size (boolean true) = lit< tt
plain_size (integer v) = omega (arith, word_size (bits_at 28 v))
plain_size (double bits) = omega (arith, bytes-length 8 bits)
plain_size (string t) = simp length-append (omega (arith, text-size t))
plain_size (xml_document t) = simp length-append (omega (arith, word_size (length t * 2 + 1)))
plain_size (xml t) = simp length-append (omega (arith, word_size (length t * 2 + 1)))
plain_size (byte_array t) = simp length-append (omega (arith, word_size (length t * 2 + 1)))
plain_size (date bits) = omega (arith, bytes-length 8 bits)
plain_size (int_vector fixed t) = simp length-append (omega (arith, word_size (length t / 4 * 2 + 1)))
plain_size (uint_vector fixed t) = simp length-append (omega (arith, word_size (length t / 4 * 2 + 1)))
plain_size (double_vector fixed t) = simp length-append (omega (arith, word_size (length t / 8 * 2 + 1)))

-- the end of dynamic members takes a byte
dynamic-size : (ps : Pairs) → length (encode_dynamic ps) ≤ suc (length (encode_pairs ps))
unfolding encode
dynamic-size no_pairs = lit≤ tt
dynamic-size (pair x t ps) = simp length-append (omega arith)

mutual
  unfolding encode of_tree array_head object_head vector_head dictionary_head name_bytes

  pub encode-size : (t : Tree) → length (encode t) < weight (of_tree t)
  encode-size (plain p) = plain_size p
  encode-size (array xs ts) = simp length-append (omega (arith, word_size (count ts * 2 + 1), pairs-size xs, trees-size ts))
  encode-size (object class xs ys) =
      simp length-append (omega (arith, word_size (trait_word xs ys), class-size [] class, sealed-size xs, dynamic-size ys, pairs-size ys))
  encode-size (object_vector fixed class ts) =
      simp length-append (omega (arith, word_size (count ts * 2 + 1), class-size (0x2A ∷ []) class, trees-size ts))
  encode-size (dictionary weak es) = simp length-append (omega (arith, word_size (count_entries es * 2 + 1), entries-size es))

  trees-size : (ts : Trees) → length (encode_trees ts) ≤ weight (of_trees ts)
  trees-size nil = lit≤ tt
  trees-size (cons t ts) = simp length-append (omega (arith, encode-size t, trees-size ts))

  pairs-size : (ps : Pairs) → length (encode_pairs ps) ≤ weight (of_pairs ps)
  pairs-size no_pairs = lit≤ tt
  pairs-size (pair x t ps) = simp length-append (omega (arith, text-size x, encode-size t, pairs-size ps))

  sealed-size : (ps : Pairs) → length (name_bytes ps) + length (encode_values ps) ≤ weight (of_sealed ps)
  sealed-size no_pairs = lit≤ tt
  sealed-size (pair x t ps) = simp length-append (omega (arith, text-size x, encode-size t, sealed-size ps))

  entries-size : (es : Entries) → length (encode_entries es) ≤ weight (of_entries es)
  entries-size no_entries = lit≤ tt
  entries-size (entry a b es) = simp length-append (omega (arith, encode-size a, encode-size b, entries-size es))

-- ---- within the loans

-- the loans have so much room
pub record Holds (m : Memory) (r : Room) : Type 0 where
  pub rows : r.rows ≤ length m.rows / row_width
  pub store : r.store ≤ length m.store
  pub strings : r.strings ≤ length m.strings / span_width
  pub objects : r.objects ≤ length m.objects
  pub traits : r.traits ≤ length m.traits / trait_width
  pub names : r.names ≤ length m.names / span_width

module _ (m : Memory) (t : Tree) where
  pub holds : can_hold m t ≡ true → Holds m (of_tree t)
  unfolding can_hold
  holds h =
      let r : Room = of_tree t in
      let (h₅, names) = both _ (leb (r.names * span_width) (length m.names)) h in
      let (h₄, traits) = both _ (leb (r.traits * trait_width) (length m.traits)) h₅ in
      let (h₃, objects) = both _ (leb r.objects (length m.objects)) h₄ in
      let (h₂, strings) = both _ (leb (r.strings * span_width) (length m.strings)) h₃ in
      let (rows, store) = both (leb (r.rows * row_width) (length m.rows)) (leb r.store (length m.store)) h₂ in
      omega (arith, leb-true)

  pub held_below : fault_of m ≡ 0 → can_hold m t ≡ true → length (encode t) < message_limit
  unfolding message_limit
  held_below clean h =
      let l = lent m clean in
      let r = holds h in
      omega (arith, encode-size t)
