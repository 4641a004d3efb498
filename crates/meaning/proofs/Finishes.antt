-- The reading of a written tree never ends in 1, 9, 10 or 11 where the loans can hold the tree unfolded and it nests no deeper than the limit.
use mathlib.Core.Path.{◌≡◌, refl, sym, subst, ◌∙◌}
use mathlib.Core.Bool.{Bool, true, false}
use mathlib.Core.List.{List, [], ◌∷◌, ◌++◌, append_assoc}
use mathlib.Core.Option.{Option, none, some}
use Prim.Native.Nat.{ℕ, zero, suc, ◌+◌, ◌*◌, ◌^◌, ◌/◌, ◌<◌, ◌≤◌}
use native.Mathlib.Omega.{arith}
use lib.Dec.{lit<}
use lib.ListN.{length, length-replicate}
use Rattle.rows.specs.declared.Span.{Span}
use Rattle.rows.specs.declared.Key.{Key}
use Rattle.rows.specs.declared.Trait.{Trait}
use Rattle.rows.specs.Memory.{Memory, open_limit, col_count, col_count2, no_key, key_of, fresh, zeros, zeroed, fault_of}
use Rattle.wire.specs.U29 as w
use Rattle.wire.specs.Sign.{bits_at}
use Rattle.wire.specs.Big.{bytes_of}
use Rattle.wire.proofs.Sign.{bits_lt}
use Rattle.wire.proofs.Big.{bytes-length}
use Rattle.format.specs.Decide as k
use Rattle.format.specs.Decide.{Body, Width, width_of, kind_of, looking, sealed_key}
use Rattle.format.specs.Reading as r
use Rattle.format.specs.Reading.{◌>>=◌, Reader, by, ret, u29, number, text, Values, entries, pairs_by, pairs, couple, names, dynamics, members}
use Rattle.format.specs.Reading.{inlined, object_of, new_of, sized_of, marked, value, Result, ok, bad, Ended, finished, refused, ended, reading}
use Rattle.format.specs.Standard.{Plain, undefined, null, boolean, integer, double, string, xml_document, xml, byte_array, date}
use Rattle.format.specs.Standard.{int_vector, uint_vector, double_vector}
use Rattle.format.specs.Standard.{Tree, plain, array, object, object_vector, dictionary, Trees, nil, cons, Pairs, no_pairs, pair, Entries}
use Rattle.format.specs.Standard.{no_entries, entry}
use Rattle.format.specs.Standard.{count, count_pairs, count_entries, size_bytes, text_bytes, name_bytes, flag_byte, class_bytes, trait_word, encode_plain}
use Rattle.format.specs.Standard.{array_head, object_head, vector_head, dictionary_head}
use Rattle.format.specs.Standard.{encode, encode_trees, encode_pairs, encode_values, encode_dynamic, encode_entries}
use Rattle.meaning.proofs.Parts.{depth, depth_trees, depth_pairs, depth_entries}
use Rattle.format.specs.Writable.{IsText, IsKey, IsType, IfGiven, IsRaw, WritablePlain}
use Rattle.format.specs.Writable.{Writable, WritableTrees, WritablePairs, WritableMembers, WritableEntries}
use Rattle.format.specs.Holds.{Room, room, ◌and◌, nothing, a_row, an_object, of_text, of_class, of_plain, of_tree, of_trees, of_pairs, of_sealed, of_entries}
use Rattle.format.specs.Holds.{can_hold}
use Rattle.meaning.proofs.Size.{holds, held_below}
use Rattle.meaning.proofs.Words.{dynamic_of, trait_below}
use Rattle.meaning.proofs.Own.{size-read, trait_read}
use Rattle.meaning.proofs.Holds.{Fits, Same, limit, Any, Good, Goes, goes-ret, goes_bind, goes-seq, goes-free, goes_end}
use Rattle.meaning.proofs.Holds.{goes_last, goes-byte, goes-lost, goes_any, goes-cursor}
use Rattle.meaning.proofs.Enough.{goes-closed, goes-numbered, goes-integer, goes-date, goes-bodied, goes-class, goes_type, goes-flagged}
use Rattle.meaning.proofs.Enough.{goes-counted, goes-key-end, goes-grown, goes-marker, goes-judged, goes-entered, goes-named, goes_trait}
use Rattle.meaning.proofs.Enough.{goes-sealed-key, goes-starred}
use Rattle.meaning.proofs.Taken.{goes-word, goes_number, goes-filled, goes-chars-of, goes-room, goes-text}

-- the same bytes, in other brackets
regroup : {A : Type 0} {P : A → Type 0} {g : Reader A} {n : Room} {cs : List ℕ} (bs : List ℕ) → bs ≡ cs → Goes P g bs n → Goes P g cs n
regroup bs e h = rw e at h

text-goes : (t : List ℕ) → length t < 2 ^ 28 → Goes (λ (x : Span). x.size ≡ length t) (text r.plain) (text_bytes t) (of_text t)
text-goes t h = goes-text r.plain (λ x. goes-ret tt) t h

-- ---- values that hold no others

goes-marked : {bs : List ℕ} {y : Room} (key : Key) (left b : ℕ) (x : Room) → Same (a_row and x) y
    → ((row : ℕ) → Goes Any (marked (value left) row (kind_of b)) bs x) → Goes Any (value (suc left) key) (b ∷ bs) y
unfolding value
goes-marked key left b x i h = goes-free _ (goes-byte b) (λ y p. rw p (goes-seq a_row x i _ (goes-marker key left b) (λ row q. h row)))

module _ (v : Values) (row : ℕ) where
  goes-sized : {bs : List ℕ} {x : Room} (body : Body) (n : ℕ) → n < 2 ^ 28 → Goes Any (new_of v row body n) bs x
      → Goes Any (marked v row (k.sized body)) (size_bytes n ++ bs) (room 0 0 0 1 0 0 and x)
  unfolding marked sized_of
  goes-sized body n l h =
      goes-free _ (goes-word (n * 2 + 1) (omega arith)) (λ y p. rw (p, size-read n) (goes_bind _ (goes-entered row) (λ a q. h)))

  goes-xml : (t : List ℕ) → Goes Any (new_of v row k.xml (length t)) t (room 0 (length t) 0 0 0 0)
  unfolding new_of
  goes-xml t =
      goes-seq (room 0 (length t) 0 0 0 0) nothing (omega arith) _ (goes-room row (length t))
      (λ x p. goes_last _ (goes-chars-of x (length t) t refl) (λ valid q. goes-free _ (goes-judged valid) (λ a z. goes-closed row)))

  goes-bytes : (t : List ℕ) → Goes Any (new_of v row k.bytes (length t)) t (room 0 (length t) 0 0 0 0)
  unfolding new_of
  goes-bytes t =
      goes-seq (room 0 (length t) 0 0 0 0) nothing (omega arith) _ (goes-room row (length t))
      (λ x p. goes_last _ (goes-filled (λ left. ret tt) (λ left. goes-ret tt) x (length t) t refl) (λ a q. goes-closed row))

  goes-raw : (width : Width) (flag : ℕ) (t : List ℕ) (h : IsRaw (width_of width) t)
      → Goes Any (new_of v row (k.raw width) h.entries) (flag ∷ t) (room 0 (length t) 0 0 0 0)
  unfolding new_of
  goes-raw width flag t h =
      rw h.size
      (goes-seq (room 0 (h.entries * width_of width) 0 0 0 0) nothing (omega arith) _ (goes-room row (h.entries * width_of width))
      (λ x p. goes-free _ (goes-byte flag) (λ b q. goes_last _ (goes-free _ (goes-flagged row (k.fixed b))
      (λ a z. goes-filled (λ left. by (k.on_rows (k.grown row width x left))) (λ left. goes-grown row width x left) x x.size t (h.size ∙ sym p)))
      (λ a z. goes-closed row))))

  goes-eight : (n : ℕ) → Goes Any (number 7 0) (bytes_of 8 n) nothing
  goes-eight n = goes_number 7 0 (bytes_of 8 n) (bytes-length 8 n)

-- an object's marker and size word, and what follows them
object-goes : {bs : List ℕ} {y : Room} (key : Key) (left b : ℕ) (body : Body) (n : ℕ) (x : Room) → Same (an_object 0 and x) y → n < 2 ^ 28
    → kind_of b ≡ k.sized body → ((row : ℕ) → Goes Any (new_of (value left) row body n) bs x)
    → Goes Any (value (suc left) key) (b ∷ (size_bytes n ++ bs)) y
object-goes key left b body n x i l e h =
    goes-marked key left b (room 0 0 0 1 0 0 and x) (omega arith) (λ row. rw e (goes-sized (value left) row body n l (h row)))

date-goes : (bits left : ℕ) (key : Key) → Goes Any (value (suc left) key) (0x08 ∷ 0x01 ∷ bytes_of 8 bits) (an_object 0)
unfolding kind_of new_of w.u29 w.more_of w.groups
date-goes bits left key =
    object-goes key left 0x08 k.date 0 nothing (omega arith) (lit< tt) refl
    (λ row. goes_last _ (goes-eight (value left) row bits) (λ x p. goes-date row x))

plain-goes : (p : Plain) → WritablePlain p → (left : ℕ) (key : Key) → Goes Any (value (suc left) key) (encode_plain p) (of_plain p)
unfolding encode_plain kind_of marked of_plain
plain-goes undefined h left key = goes-marked key left 0x00 nothing (omega arith) (λ row. goes-ret tt)
plain-goes null h left key = goes-marked key left 0x01 nothing (omega arith) (λ row. goes-ret tt)
plain-goes (boolean false) h left key = goes-marked key left 0x02 nothing (omega arith) (λ row. goes-ret tt)
plain-goes (boolean true) h left key = goes-marked key left 0x03 nothing (omega arith) (λ row. goes-ret tt)
plain-goes (integer v) h left key =
    goes-marked key left 0x04 nothing (omega arith) (λ row. goes_last _ (goes-word (bits_at 28 v) (bits_lt 28 v h)) (λ x p. goes-integer row x))
plain-goes (double bits) h left key =
    goes-marked key left 0x05 nothing (omega arith) (λ row. goes_last _ (goes-eight (value left) row bits) (λ x p. goes-numbered row x))
plain-goes (string t) h left key =
    goes-marked key left 0x06 (of_text t) (omega arith)
    (λ row. goes_last _ (goes-text (λ x. by (k.on_rows (k.bodied row x))) (goes-bodied row) t h.short)
    (λ x p. goes-free _ (goes-bodied row x) (λ a q. goes-closed row)))
plain-goes (xml_document t) h left key =
    object-goes key left 0x07 k.xml (length t) (room 0 (length t) 0 0 0 0) (omega arith) h.short refl (λ row. goes-xml (value left) row t)
plain-goes (date bits) h left key = date-goes bits left key
plain-goes (xml t) h left key =
    object-goes key left 0x0B k.xml (length t) (room 0 (length t) 0 0 0 0) (omega arith) h.short refl (λ row. goes-xml (value left) row t)
plain-goes (byte_array t) h left key =
    object-goes key left 0x0C k.bytes (length t) (room 0 (length t) 0 0 0 0) (omega arith) h refl (λ row. goes-bytes (value left) row t)
plain-goes (int_vector fixed t) h left key =
    let e : length t / 4 ≡ h.entries = omega (arith, h.size) in
    rw e (object-goes key left 0x0D (k.raw k.four) h.entries (room 0 (length t) 0 0 0 0) (omega arith) h.short refl
    (λ row. goes-raw (value left) row k.four (flag_byte fixed) t h))
plain-goes (uint_vector fixed t) h left key =
    let e : length t / 4 ≡ h.entries = omega (arith, h.size) in
    rw e (object-goes key left 0x0E (k.raw k.four) h.entries (room 0 (length t) 0 0 0 0) (omega arith) h.short refl
    (λ row. goes-raw (value left) row k.four (flag_byte fixed) t h))
plain-goes (double_vector fixed t) h left key =
    let e : length t / 8 ≡ h.entries = omega (arith, h.size) in
    rw e (object-goes key left 0x0F (k.raw k.eight) h.entries (room 0 (length t) 0 0 0 0) (omega arith) h.short refl
    (λ row. goes-raw (value left) row k.eight (flag_byte fixed) t h))

-- ---- entries of a value

module _ (row : ℕ) where
  one_entry : {xs ys : List ℕ} (one : ℕ → Reader Unit) (col n done : ℕ) (a b y : Room) → Same (a and b) y → Goes Any (one done) xs a
      → Goes Any (entries one row col n (suc done)) ys b → Goes Any (entries one row col (suc n) done) (xs ++ ys) y
  unfolding entries
  one_entry one col n done a b y i h l = goes-seq a b i _ (goes_last _ h (λ x p. goes-counted row col done)) (λ x p. l)

  module _ (v : Values) (col : ℕ) where
    no_room : {bs : List ℕ} {y : Room} (done : ℕ) → Goes Any (pairs_by v row col zero done) bs y
    unfolding pairs_by
    no_room done = goes-lost

    -- a pair by the size of its key
    by_size : {bs : List ℕ} {y : Room} (done : ℕ) (more : Reader Unit) (x : Span) (n : ℕ) → x.size ≡ n → Goes Any (r.pair v row col done more x n) bs y
        → Goes Any (r.pair v row col done more x x.size) bs y
    by_size {bs} {y} done more x n e h = subst (λ (m : ℕ). Goes Any (r.pair v row col done more x m) bs y) (sym e) h

    no-pair : (most done : ℕ) → Goes Any (pairs_by v row col (suc most) done) (0x01 ∷ []) nothing
    unfolding pairs_by r.pair w.u29 w.more_of w.groups of_text
    no-pair most done = goes_last _ (text-goes [] (lit< tt)) (λ x p. by_size done (pairs_by v row col most (suc done)) x 0 p (goes-ret tt))

    filled-pair : {xs ys : List ℕ} (done : ℕ) (more : Reader Unit) (x : Span) (n : ℕ) (a b y : Room) → Same (a and b) y → 0 < n
        → ((key : Key) → Goes Any (v key) xs a) → Goes Any more ys b → Goes Any (r.pair v row col done more x n) (xs ++ ys) y
    unfolding r.pair
    filled-pair done more x zero a b y i l h g = absurd (omega arith)
    filled-pair done more x (suc n) a b y i l h g = goes-seq a b i _ (goes_last _ (h (key_of x)) (λ z p. goes-counted row col done)) (λ z p. g)

    one-pair : {xs ys : List ℕ} (most done : ℕ) (t : List ℕ) (a b : Room) → IsKey t → ((key : Key) → Goes Any (v key) xs a)
        → Goes Any (pairs_by v row col most (suc done)) ys b → Goes Any (pairs_by v row col (suc most) done) (text_bytes t ++ (xs ++ ys)) (of_text t and a and b)
    unfolding pairs_by
    one-pair most done t a b k h g =
        goes-seq (of_text t) (a and b) (omega arith) _ (text-goes t k.text.short)
        (λ x p. by_size done (pairs_by v row col most (suc done)) x (length t) p
        (filled-pair done (pairs_by v row col most (suc done)) x (length t) a b (a and b) (omega arith) k.filled h g))

-- a key of a dictionary and its value
goes-couple : {xs ys : List ℕ} {a b : Room} (v : Values) (row done : ℕ) → Goes Any (v no_key) xs a → Goes Any (v no_key) ys b
    → Goes Any (couple v row done) (xs ++ ys) (a and b)
unfolding couple
goes-couple v row done h g = goes_bind _ (goes_last _ h (λ x p. goes-key-end row done)) (λ x p. g)

-- what a trait's names take, and what the values of sealed members take
abbrev names_room : Pairs → Room
names_room no_pairs = nothing
names_room (pair x t ps) = room 0 0 0 0 0 1 and of_text x and names_room ps

abbrev values_room : Pairs → Room
values_room no_pairs = nothing
values_room (pair x t ps) = of_tree t and values_room ps

members_need : (ps : Pairs) → Same (names_room ps and values_room ps) (of_sealed ps)
unfolding of_sealed
members_need no_pairs = omega arith
members_need (pair x t ps) = let h = members_need ps in omega arith

-- a trait and the members that it has
abbrev inlined_room : Pairs → Pairs → Room
inlined_room xs ys = (names_room xs and room 0 0 0 0 1 0) and (values_room xs and of_pairs ys)

names-go : (ps : Pairs) → WritableMembers ps → Goes Any (names (count_pairs ps)) (name_bytes ps) (names_room ps)
unfolding names count_pairs name_bytes
names-go no_pairs h = goes-ret tt
names-go (pair x t ps) h =
    goes-seq (of_text x) (room 0 0 0 0 0 1 and names_room ps) (omega arith) _ (text-goes x h.0.short)
    (λ s p. goes-seq (room 0 0 0 0 0 1) (names_room ps) (omega arith) _ (goes-named s) (λ a q. names-go ps h.2))

-- dynamic members, if there are any
dynamics-go : (v : Values) (row : ℕ) (ys : Pairs) → Goes Any (pairs v row col_count2 0) (encode_pairs ys ++ 0x01 ∷ []) (of_pairs ys)
    → Goes Any (dynamics v row (dynamic_of ys)) (encode_dynamic ys) (of_pairs ys)
unfolding dynamics encode_pairs encode_dynamic of_pairs
dynamics-go v row no_pairs h = goes-ret tt
dynamics-go v row (pair x t ps) h = h

class-goes : {P : List ℕ → Type 0} → ((t : List ℕ) → P t → IsText t) → (default : List ℕ) → length default < 2 ^ 28
    → (class : Option (List ℕ)) → IfGiven P class → Goes Any (text r.plain) (class_bytes default class) (of_class default class)
unfolding of_class
class-goes p default h none g = goes_any (text-goes default h)
class-goes p default h (some t) g = goes_any (text-goes t (p t g).short)

-- ---- the values that hold others

module _ (left : ℕ) (key : Key) where
  array-goes : (xs : Pairs) (ts : Trees) → count ts < 2 ^ 28
      → ((row : ℕ) → Goes Any (pairs (value left) row col_count 0) (encode_pairs xs ++ 0x01 ∷ []) (of_pairs xs))
      → ((row : ℕ) → Goes Any (entries (λ done. value left no_key) row col_count2 (count ts) 0) (encode_trees ts) (of_trees ts))
      → Goes Any (value (suc left) key) (encode (array xs ts)) (of_tree (array xs ts))
  unfolding encode array_head kind_of new_of of_tree
  array-goes xs ts l p q =
      regroup (0x09 ∷ (size_bytes (count ts) ++ ((encode_pairs xs ++ 0x01 ∷ []) ++ encode_trees ts))) (simp append_assoc)
      (object-goes key left 0x09 k.array (count ts) (of_pairs xs and of_trees ts) (omega arith) l refl
      (λ row. goes_last _ (goes_bind _ (p row) (λ a z. q row)) (λ a z. goes-closed row)))

  vector-goes : (fixed : Bool) (class : Option (List ℕ)) (ts : Trees) → IfGiven IsType class → count ts < 2 ^ 28
      → ((row : ℕ) → Goes Any (entries (λ done. value left no_key) row col_count (count ts) 0) (encode_trees ts) (of_trees ts))
      → Goes Any (value (suc left) key) (encode (object_vector fixed class ts)) (of_tree (object_vector fixed class ts))
  unfolding encode vector_head kind_of new_of of_tree
  vector-goes fixed class ts g l q =
      regroup (0x10 ∷ (size_bytes (count ts) ++ flag_byte fixed ∷ (class_bytes (0x2A ∷ []) class ++ encode_trees ts))) (simp append_assoc)
      (object-goes key left 0x10 k.objects (count ts) (of_class (0x2A ∷ []) class and of_trees ts) (omega arith) l refl
      (λ row. goes-free _ (goes-byte (flag_byte fixed)) (λ b z. goes_bind _
      (goes-free _ (goes-flagged row (k.fixed b)) (λ a y. class-goes (λ t h. h.text) (0x2A ∷ []) (lit< tt) class g))
      (λ x y. goes-free _ (goes-starred x) (λ star a. goes_last _ (goes-free _ (goes_type row star x) (λ c d. q row)) (λ c d. goes-closed row))))))

  dictionary-goes : (weak : Bool) (es : Entries) → count_entries es < 2 ^ 28
      → ((row : ℕ) → Goes Any (entries (couple (value left) row) row col_count (count_entries es) 0)
      (encode_entries es) (of_entries es))
      → Goes Any (value (suc left) key) (encode (dictionary weak es)) (of_tree (dictionary weak es))
  unfolding encode dictionary_head kind_of new_of of_tree
  dictionary-goes weak es l q =
      regroup (0x11 ∷ (size_bytes (count_entries es) ++ flag_byte weak ∷ encode_entries es)) (simp append_assoc)
      (object-goes key left 0x11 k.dictionary (count_entries es) (of_entries es) (omega arith) l refl
      (λ row. goes-free _ (goes-byte (flag_byte weak)) (λ b z. goes_last _
      (goes-free _ (goes-flagged row (k.weak b)) (λ a y. q row)) (λ a y. goes-closed row))))

  -- what reads the values of sealed members, by the keys of a trait's names
  abbrev sealed_of : Trait → ℕ → Reader Unit
  sealed_of t done = by (looking (λ m. sealed_key (t.first + done) m.names)) >>= value left

  inlined-goes : (row : ℕ) (xs ys : Pairs) (t : Trait) → WritableMembers xs → t.count ≡ count_pairs xs → t.dynamic ≡ dynamic_of ys
      → Goes Any (entries (sealed_of t) row col_count (count_pairs xs) 0) (encode_values xs) (values_room xs)
      → Goes Any (pairs (value left) row col_count2 0) (encode_pairs ys ++ 0x01 ∷ []) (of_pairs ys)
      → Goes Any (inlined (value left) row t) (name_bytes xs ++ (encode_values xs ++ encode_dynamic ys)) (inlined_room xs ys)
  unfolding inlined members
  inlined-goes row xs ys t h n d p q =
      goes_bind _ (goes_end (names_room xs) (room 0 0 0 0 1 0) (omega arith) _ (goes-free _ (goes-class row t) (λ a z. named)) (λ a z. goes_trait t))
      (λ a z. goes_last _ (goes_bind _ sealed (λ b y. dynamic)) (λ b y. goes-closed row))
    where
      named : Goes Any (names t.count) (name_bytes xs) (names_room xs)
      named = subst (λ (i : ℕ). Goes Any (names i) (name_bytes xs) (names_room xs)) (sym n) (names-go xs h)

      sealed : Goes Any (entries (sealed_of t) row col_count t.count 0) (encode_values xs) (values_room xs)
      sealed = subst (λ (i : ℕ). Goes Any (entries (sealed_of t) row col_count i 0) (encode_values xs) (values_room xs)) (sym n) p

      dynamic : Goes Any (dynamics (value left) row t.dynamic) (encode_dynamic ys) (of_pairs ys)
      dynamic = subst (λ (i : ℕ). Goes Any (dynamics (value left) row i) (encode_dynamic ys) (of_pairs ys)) (sym d) (dynamics-go (value left) row ys q)

  object-of-goes : (class : Option (List ℕ)) (xs ys : Pairs) → IfGiven IsKey class → WritableMembers xs → count_pairs xs < 2 ^ 25
      → ((row : ℕ) (t : Trait) → Goes Any (entries (sealed_of t) row col_count (count_pairs xs) 0) (encode_values xs) (values_room xs))
      → ((row : ℕ) → Goes Any (pairs (value left) row col_count2 0) (encode_pairs ys ++ 0x01 ∷ []) (of_pairs ys))
      → Goes Any (value (suc left) key) (encode (object class xs ys)) (of_tree (object class xs ys))
  unfolding encode object_head kind_of marked object_of of_tree
  object-of-goes class xs ys g h l p q =
      let m = members_need xs in
      regroup (0x0A ∷ (w.u29 (trait_word xs ys) ++ (class_bytes [] class ++ (name_bytes xs ++ (encode_values xs ++ encode_dynamic ys))))) (simp append_assoc)
      (goes-marked key left 0x0A ((room 0 0 0 1 0 0 and of_class [] class) and inlined_room xs ys) (omega arith) (λ row. goes-free _ (goes-word (trait_word xs ys) (trait_below xs ys l))
      (λ x e. rw (e, trait_read xs ys)
      (goes_bind _ (goes_bind _ (goes-entered row) (λ a z. class-goes (λ t h. h.text) [] (lit< tt) class g))
      (λ s z. goes-cursor (λ c. inlined (value left) row (k.trait_of s (count_pairs xs) (dynamic_of ys) c))
      (λ c. inlined-goes row xs ys (k.trait_of s (count_pairs xs) (dynamic_of ys) c) h refl refl
      (p row (k.trait_of s (count_pairs xs) (dynamic_of ys) c)) (q row)))))))

-- ---- every tree

-- pairs, if they go with any fuel
pairs-go : (v : Values) (row col : ℕ) (bs : List ℕ) (y : Room) → ((most : ℕ) → Goes Any (pairs_by v row col most 0) bs y) → Goes Any (pairs v row col 0) bs y
unfolding pairs
pairs-go v row col bs y h =
    record {
      goes = λ m c rest f. (h (suc (length (bs ++ rest)))).goes m c rest f;
      exact = λ m c rest. (h (suc (length (bs ++ rest)))).exact m c rest;
    }

mutual
  unfolding entries count count_pairs count_entries encode_trees encode_pairs encode_values encode_entries encode of_tree of_trees of_pairs of_entries
      depth depth_trees depth_pairs depth_entries

  pub tree-goes : (t : Tree) → Writable t → (left : ℕ) → depth t ≤ left → (key : Key) → Goes Any (value left key) (encode t) (of_tree t)
  tree-goes (plain p) h zero l key = absurd (omega arith)
  tree-goes (plain p) h (suc left) l key = plain-goes p h left key
  tree-goes (array xs ts) h zero l key = absurd (omega arith)
  tree-goes (array xs ts) h (suc left) l key =
      array-goes left key xs ts h.2 (λ row. pairs-go (value left) row col_count (encode_pairs xs ++ 0x01 ∷ []) (of_pairs xs)
      (λ most. pairs-by xs h.0 left (omega arith) row col_count most 0))
      (λ row. trees-go ts h.1 left (omega arith) row col_count2 0)
  tree-goes (object class xs ys) h zero l key = absurd (omega arith)
  tree-goes (object class xs ys) h (suc left) l key =
      object-of-goes left key class xs ys h.0 h.1 h.3 (λ row t. members-go xs h.1 left (omega arith) key row t 0)
      (λ row. pairs-go (value left) row col_count2 (encode_pairs ys ++ 0x01 ∷ []) (of_pairs ys)
      (λ most. pairs-by ys h.2 left (omega arith) row col_count2 most 0))
  tree-goes (object_vector fixed class ts) h zero l key = absurd (omega arith)
  tree-goes (object_vector fixed class ts) h (suc left) l key =
      vector-goes left key fixed class ts h.0 h.2 (λ row. trees-go ts h.1 left (omega arith) row col_count 0)
  tree-goes (dictionary weak es) h zero l key = absurd (omega arith)
  tree-goes (dictionary weak es) h (suc left) l key =
      dictionary-goes left key weak es h.1 (λ row. entries-go es h.0 left (omega arith) row col_count 0)

  trees-go : (ts : Trees) → WritableTrees ts → (left : ℕ) → depth_trees ts ≤ left → (row col done : ℕ)
      → Goes Any (entries (λ done. value left no_key) row col (count ts) done) (encode_trees ts) (of_trees ts)
  trees-go nil h left l row col done = goes-ret tt
  trees-go (cons t ts) h left l row col done =
      one_entry row (λ done. value left no_key) col (count ts) done (of_tree t) (of_trees ts) (of_tree t and of_trees ts) (omega arith)
      (tree-goes t h.0 left (omega arith) no_key) (trees-go ts h.1 left (omega arith) row col (suc done))

  pairs-by : (ps : Pairs) → WritablePairs ps → (left : ℕ) → depth_pairs ps ≤ left → (row col most done : ℕ)
      → Goes Any (pairs_by (value left) row col most done) (encode_pairs ps ++ 0x01 ∷ []) (of_pairs ps)
  pairs-by no_pairs h left l row col zero done = no_room row (value left) col done
  pairs-by no_pairs h left l row col (suc most) done = no-pair row (value left) col most done
  pairs-by (pair x t ps) h left l row col zero done = no_room row (value left) col done
  pairs-by (pair x t ps) h left l row col (suc most) done =
      regroup (text_bytes x ++ (encode t ++ (encode_pairs ps ++ 0x01 ∷ []))) (simp append_assoc)
      (one-pair row (value left) col most done x (of_tree t) (of_pairs ps) h.0 (λ key. tree-goes t h.1 left (omega arith) key)
      (pairs-by ps h.2 left (omega arith) row col most (suc done)))

  members-go : (ps : Pairs) → WritableMembers ps → (left : ℕ) → depth_pairs ps ≤ left → (key : Key) (row : ℕ) (t : Trait) (done : ℕ)
      → Goes Any (entries (sealed_of left key t) row col_count (count_pairs ps) done) (encode_values ps) (values_room ps)
  members-go no_pairs h left l key row t done = goes-ret tt
  members-go (pair x u ps) h left l key row t done =
      one_entry row (sealed_of left key t) col_count (count_pairs ps) done (of_tree u) (values_room ps) (of_tree u and values_room ps) (omega arith)
      (goes-free _ (goes-sealed-key (t.first + done)) (λ i p. tree-goes u h.1 left (omega arith) i))
      (members-go ps h.2 left (omega arith) key row t (suc done))

  entries-go : (es : Entries) → WritableEntries es → (left : ℕ) → depth_entries es ≤ left → (row col done : ℕ)
      → Goes Any (entries (couple (value left) row) row col (count_entries es) done) (encode_entries es) (of_entries es)
  entries-go no_entries h left l row col done = goes-ret tt
  entries-go (entry a b es) h left l row col done =
      one_entry row (couple (value left) row) col (count_entries es) done (of_tree a and of_tree b) (of_entries es)
      (of_tree a and of_tree b and of_entries es) (omega arith)
      (goes-couple (value left) row done (tree-goes a h.0 left (omega arith) no_key) (tree-goes b h.1 left (omega arith) no_key))
      (entries-go es h.2 left (omega arith) row col (suc done))

-- ---- the whole reading

-- an end that is not for want of room: neither 1, 9, 10 nor 11
abbrev pub Unlimited : Ended → Type 0
Unlimited (finished c m) = Unit {0}
Unlimited (refused number told place m) = limit number ≡ false

module _ (t : Tree) (m : Memory) (can : can_hold m t ≡ true) (fault : fault_of m ≡ 0) where
  lengths : (l : List ℕ) → length (zeros l) ≡ length l
  lengths l = length-replicate (length l) 0

  fits : Fits (length (encode t)) (of_tree t) (zeroed m) fresh
  unfolding zeroed
  fits =
      let h = holds m t can in
      omega (
        arith,
        lengths m.rows,
        lengths m.store,
        lengths m.strings,
        lengths m.objects,
        lengths m.traits,
        lengths m.names,
        held_below m t fault can,
      )

  pub reading_unlimited : Writable t → depth t ≤ open_limit → (rest : List ℕ) → Unlimited (reading m (encode t ++ rest))
  unfolding reading ended
  reading_unlimited g d rest =
      rw fault (end (value open_limit no_key (zeroed m) fresh (encode t ++ rest)) ((tree-goes t g open_limit d no_key).goes (zeroed m) fresh rest fits))
    where
      end : (r : Result Unit) → Good Any (length (encode t)) (of_tree t) (zeroed m) fresh rest r → Unlimited (ended r)
      end (ok a m' c bs) k = tt
      end (bad number told place m') k = k
