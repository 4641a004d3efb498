-- What a store of bytes is written as are bytes; and the round trip through the calls: what write accepted, read gives back whole, and so do begin, any pieces
-- and the end.
use mathlib.Core.Path.{◌≡◌, ap, ◌∙◌}
use mathlib.Core.Bool.{Bool, true, false, cond, not}
use mathlib.Core.List.{List, [], ◌∷◌, ◌++◌, append-nil}
use mathlib.Core.Option.{none, some}
use Prim.Native.Nat.{ℕ, zero, suc, ◌+◌, ◌^◌, ◌<◌}
use lib.Dec.{eqb, lit<}
use lib.ListN.{get_or, take, drop}
use Rattle.rows.specs.Memory.{Memory, fault_of, col_kind, col_body_begin, col_body_size, col_count, col_count2, col_end, col_number, col_class_mark, rows_in, col}
use Rattle.wire.specs.U29.{u29}
use Rattle.wire.specs.Big.{bytes_of}
use Rattle.wire.proofs.Octets.{Bytes}
use Rattle.wire.proofs.Big.{bytes_below}
use Rattle.wire.proofs.U29.{u29-bytes}
use Rattle.format.specs.declared.Answer.TheVariants.{Finished}
use Rattle.std.specs.Prelude.{Ok}
use Rattle.format.specs.Standard.{null, boolean, Tree, plain, array, object, object_vector, dictionary, text_bytes, size_bytes, name_bytes, flag_byte}
use Rattle.format.specs.Standard.{class_bytes, encode_plain, array_head, object_head, vector_head, dictionary_head, encode, encode_trees, encode_pairs}
use Rattle.format.specs.Standard.{encode_values, encode_dynamic, encode_entries}
use Rattle.format.specs.Unfold.{part, body_of, class_text, flag_set, home, after, trees_at, pairs_at, entries_at, node, tree_at, unfolded}
use Rattle.format.specs.Holds.{can_hold}
use Rattle.format.specs.Reading.{reading}
use Rattle.format.specs.Writing.{written, writing}
use Rattle.format.specs.Answers.{read, read_of, read_call, output, write_call}
use Rattle.format.proofs.Pieces.{unread, feeding_calls, taken_calls}
use Rattle.meaning.proofs.Writes.{call-wrote, accepted, reported}
use Rattle.format.specs.Claims.{Wide}
use Rattle.meaning.proofs.Trip.{Returns, round_trip}
pub use Rattle.format.specs.Claims.{Again}

-- ---- lists of bytes

data Octets : List ℕ → Type 0 where
  empty : Octets []
  more : {b : ℕ} {bs : List ℕ} → b < 2 ^ 8 → Octets bs → Octets (b ∷ bs)

octets-of : (l : List ℕ) → Bytes l → Octets l
octets-of [] h = empty
octets-of (b ∷ l) h = more (h 0) (octets-of l (λ i. h (suc i)))

bytes-of : {l : List ℕ} → Octets l → Bytes l
bytes-of empty i = lit< tt
bytes-of (more h k) zero = h
bytes-of (more h k) (suc i) = bytes-of k i

append : {a b : List ℕ} → Octets a → Octets b → Octets (a ++ b)
append empty k = k
append (more h l) k = more h (append l k)

pub append-bytes : (a b : List ℕ) → Bytes a → Bytes b → Bytes (a ++ b)
append-bytes a b h k = bytes-of (append (octets-of a h) (octets-of b k))

taking : (n : ℕ) {l : List ℕ} → Octets l → Octets (take n l)
taking zero h = empty
taking (suc n) empty = empty
taking (suc n) (more h k) = more h (taking n k)

dropping : (n : ℕ) {l : List ℕ} → Octets l → Octets (drop n l)
dropping zero h = h
dropping (suc n) empty = empty
dropping (suc n) (more h k) = dropping n k

octets-part : {B : List ℕ} (begin size : ℕ) → Octets B → Octets (part B begin size)
unfolding part
octets-part begin size h = taking size (dropping begin h)

octets-u29 : (n : ℕ) → Octets (u29 n)
octets-u29 n = octets-of (u29 n) (u29-bytes n)

octets_big : (k n : ℕ) → Octets (bytes_of k n)
octets_big k n = octets-of (bytes_of k n) (bytes_below k n)

flag-below : (b : Bool) → flag_byte b < 2 ^ 8
flag-below true = lit< tt
flag-below false = lit< tt

ruleset octets = (append, more, empty, octets-u29, octets_big, octets-part, flag-below)

null-octets : Octets (encode (plain null))
unfolding encode encode_plain
null-octets = more (lit< tt) empty

-- trees that are written as bytes
data Each : List Tree → Type 0 where
  last : Each []
  and : {t : Tree} {ts : List Tree} → Octets (encode t) → Each ts → Each (t ∷ ts)

pick : {ts : List Tree} → Each ts → (k : ℕ) → Octets (encode (get_or ts k (plain null)))
pick last k = null-octets
pick (and g e) zero = g
pick (and g e) (suc k) = pick e k

-- ---- the children

module _ (f : ℕ → Tree) (R B : List ℕ) (store : Octets B) (each : (k : ℕ) → Octets (encode (f k))) where
  octets-trees : (k n : ℕ) → Octets (encode_trees (trees_at f R k n))
  unfolding encode_trees trees_at
  octets-trees k zero = empty
  octets-trees k (suc n) = append (each k) (octets-trees (col R k col_end) n)

  octets-pairs : (k n : ℕ) → Octets (encode_pairs (pairs_at f R B k n))
  unfolding encode_pairs pairs_at
  octets-pairs k zero = empty
  octets-pairs k (suc n) = search (octets, octets-pairs (col R k col_end) n)

  octets-values : (k n : ℕ) → Octets (encode_values (pairs_at f R B k n))
  unfolding encode_values pairs_at
  octets-values k zero = empty
  octets-values k (suc n) = append (each k) (octets-values (col R k col_end) n)

  octets-names : (k n : ℕ) → Octets (name_bytes (pairs_at f R B k n))
  unfolding name_bytes pairs_at
  octets-names k zero = empty
  octets-names k (suc n) = search (octets, octets-names (col R k col_end) n)

  octets-dynamic : (k n : ℕ) → Octets (encode_dynamic (pairs_at f R B k n))
  unfolding encode_dynamic pairs_at
  octets-dynamic k zero = empty
  octets-dynamic k (suc n) = let one : 1 < 2 ^ 8 = lit< tt in search (octets, octets-pairs (col R k col_end) n) depth 8

  octets-entries : (k n : ℕ) → Octets (encode_entries (entries_at f R k n))
  unfolding encode_entries entries_at
  octets-entries k zero = empty
  octets-entries k (suc n) = search (octets, octets-entries (col R (col R k col_end) col_end) n)

  octets-class : {default : List ℕ} (i : ℕ) → Octets default → Octets (class_bytes default (class_text R B i))
  octets-class i h = of (eqb (col R i col_class_mark) 0) h
    where
      of : {default : List ℕ} (t : Bool) → Octets default → Octets (class_bytes default (cond t none (some (body_of R B i))))
      of true h = search octets
      of false h = search octets

  -- ---- a row

  star : Octets (0x2A ∷ [])
  star = more (lit< tt) empty

  octets-array : (i : ℕ) → Octets (encode (array (pairs_at f R B (i + 1) (col R i col_count))
      (trees_at f R (after R (i + 1) (col R i col_count)) (col R i col_count2))))
  unfolding encode array_head
  octets-array i =
      append (append (more (lit< tt) (octets-u29 _)) (octets-pairs (i + 1) (col R i col_count)))
      (more (lit< tt) (octets-trees (after R (i + 1) (col R i col_count)) (col R i col_count2)))

  octets-object : (i : ℕ) → Octets (encode (object (class_text R B i) (pairs_at f R B (i + 1) (col R i col_count))
      (pairs_at f R B (after R (i + 1) (col R i col_count)) (col R i col_count2))))
  unfolding encode object_head
  octets-object i =
      append (append (more (lit< tt) (append (append (octets-u29 _) (octets-class i empty)) (octets-names (i + 1) (col R i col_count))))
      (octets-values (i + 1) (col R i col_count))) (octets-dynamic (after R (i + 1) (col R i col_count)) (col R i col_count2))

  octets-vector : (i : ℕ) → Octets (encode (object_vector (flag_set R i) (class_text R B i) (trees_at f R (i + 1) (col R i col_count))))
  unfolding encode vector_head
  octets-vector i =
      append (more (lit< tt) (append (octets-u29 _) (more (flag-below (flag_set R i)) (octets-class i star)))) (octets-trees (i + 1) (col R i col_count))

  octets-dictionary : (i : ℕ) → Octets (encode (dictionary (flag_set R i) (entries_at f R (i + 1) (col R i col_count))))
  unfolding encode dictionary_head
  octets-dictionary i =
      append (more (lit< tt) (append (octets-u29 _) (more (flag-below (flag_set R i)) empty))) (octets-entries (i + 1) (col R i col_count))

  octets-boolean : (b : Bool) → Octets (encode (plain (boolean b)))
  unfolding encode encode_plain
  octets-boolean true = more (lit< tt) empty
  octets-boolean false = more (lit< tt) empty

  -- a body of bytes after its size; a raw one after a flag too
  text-of : {t : List ℕ} → Octets t → Octets (text_bytes t)
  text-of h = append (octets-u29 _) h

  raw_of : (n : ℕ) (fixed : Bool) {t : List ℕ} → Octets t → Octets (size_bytes n ++ flag_byte fixed ∷ t)
  raw_of n fixed h = append (octets-u29 _) (more (flag-below fixed) h)

  octets-node : (i : ℕ) → Octets (encode (node f R B i))
  unfolding node encode encode_plain
  octets-node i =
      let body = octets-part (col R i col_body_begin) (col R i col_body_size) store in
      pick (
      and null-octets (
      and (more (lit< tt) empty) (
      and null-octets (
      and (octets-boolean (not (eqb (col R i col_number) 0))) (
      and (more (lit< tt) (octets-u29 _)) (
      and (more (lit< tt) (octets_big 8 _)) (
      and (more (lit< tt) (text-of body)) (
      and (more (lit< tt) (text-of body)) (
      and (more (lit< tt) (more (lit< tt) (octets_big 8 _))) (
      and (octets-array i) (
      and (octets-object i) (
      and (more (lit< tt) (text-of body)) (
      and (more (lit< tt) (text-of body)) (
      and (more (lit< tt) (raw_of _ (flag_set R i) body)) (
      and (more (lit< tt) (raw_of _ (flag_set R i) body)) (
      and (more (lit< tt) (raw_of _ (flag_set R i) body)) (
      and (octets-vector i) (
      and (octets-dictionary i) last)))))))))))))))))
      ) (col R i col_kind)

octets-tree : (R B : List ℕ) → Octets B → (levels i : ℕ) → Octets (encode (tree_at levels R B i))
unfolding tree_at
octets-tree R B h zero i = null-octets
octets-tree R B h (suc levels) i = octets-node (tree_at levels R B) R B h (octets-tree R B h levels) (home R i)

-- what is written of a store of bytes are bytes, whatever the rows
pub encode-bytes : (R B : List ℕ) → Bytes B → Bytes (encode (unfolded R B 0))
unfolding unfolded
encode-bytes R B h = bytes-of (octets-tree R B (octets-of B h) (rows_in R) 0)

-- ---- through the calls

again : (m : Memory) (bs : List ℕ) (n : ℕ) (t : Tree) → Bytes bs → Returns (reading m bs) n t → Again m bs n t
unfolding read_call
again m bs n t o r =
    let c = r.cursor in
    let reads : read_call m bs ≡ read (Finished c.rows c.store n) r.memory =
    ap read_of r.finishes ∙ ap (λ k. read (Finished c.rows c.store k) r.memory) r.takes in
    record {
      rows = c.rows;
      bytes = c.store;
      loans = r.memory;
      reads = reads;
      unfolds = r.unfolds;
      ends = λ parts q. feeding_calls m parts (rw q o) ∙ ap unread (ap (read_call m) q ∙ reads);
      takes = λ parts q. taken_calls m parts c.rows c.store n r.memory (rw q o) (ap (read_call m) q ∙ reads);
    }

-- an accepted write of a store of bytes and rows of 64-bit numbers
module _ (R B out P : List ℕ) (n : ℕ) (wide : Wide R) (store : Bytes B) (accepts : write_call R B out ≡ output (Ok n) P) where
  wrote : writing R B out ≡ written n P
  wrote = call-wrote R B out P n accepts

  -- the bytes that it reports are bytes
  pub written-bytes : Bytes (take n P)
  written-bytes = rw (reported R B out P n (accepted R B out P n wrote)).0 (encode-bytes R B store)

  module _ (m : Memory) (room : can_hold m (unfolded R B 0) ≡ true) (lent : fault_of m ≡ 0) where
    -- and are read back, whatever bytes follow them
    pub call_trip : (rest : List ℕ) → Bytes rest → Again m (take n P ++ rest) n (unfolded R B 0)
    call_trip rest h =
        let o : Bytes (take n P ++ rest) = append-bytes (take n P) rest written-bytes h in
        again m (take n P ++ rest) n (unfolded R B 0) o (round_trip R B out P n wide wrote m room lent rest o)

    pub call_trip_alone : Again m (take n P) n (unfolded R B 0)
    call_trip_alone = rw (append-nil (take n P)) at (call_trip [] (bytes-of empty))
