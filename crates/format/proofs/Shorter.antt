-- A reading never gives back bytes, and a text takes at least one: so pairs are read one after the other, whatever the fuel that bounds them.
use Rattle.std.proofs.Common.{Option, Some, None}
use mathlib.Core.Path.{◌≡◌, refl}
use mathlib.Core.List.{List, [], ◌∷◌}
use Prim.Native.Nat.{ℕ, zero, suc, ◌<◌, ◌≤◌}
use native.Mathlib.Omega.{arith}
use lib.Dec.{leb}
use lib.ListN.{length}
use Rattle.rows.specs.declared.Cursor.{Cursor}
use Rattle.rows.specs.declared.Span.{Span}
use Rattle.rows.specs.declared.Key.{Key}
use Rattle.rows.specs.declared.Trait.{Trait}
use Rattle.rows.specs.Memory.{Memory, message_limit, col_count2, key_of}
use Rattle.wire.specs.declared.Part.{Part}
use Rattle.wire.specs.declared.Part.TheVariants.{More, Whole}
use Rattle.wire.specs.declared.Size.{Size}
use Rattle.wire.specs.declared.Size.TheVariants.{Old, New}
use Rattle.wire.specs.declared.Shape.{Shape}
use Rattle.wire.specs.declared.Shape.TheVariants.{Object, Known, External, Inline}
use Rattle.format.specs.Decide.{Out, stop, give, on_rows, marker, counted, kind_of, Body, xml, date, array, bytes, raw, objects, dictionary, Kind, leaf}
use Rattle.format.specs.Decide.{integer, double, string, object, sized}
use Rattle.format.specs.Reading.{ok, bad, bind, ◌>>=◌, ◌>>◌, Result, Reader, decided, by, byte, on_part, u29, number, chars, fill, text_of, text, plain}
use Rattle.format.specs.Reading.{Values, entries, pair, pairs_by, pairs, couple, names, dynamics, members, inlined, object_of, room, chars_of, filled}
use Rattle.format.specs.Reading.{new_of, sized_of, marked, value}
use Rattle.format.proofs.Tests.{on_bool, clash}

-- ---- what a reader leaves

-- a result leaves fewer than n bytes
pub data Leaves {A : Type 0} (n : ℕ) : Result A → Type 0 where
  leaves : {a : A} {m : Memory} {c : Cursor} {bs : List ℕ} → length bs < n → Leaves n (ok a m c bs)
  stops : {number told place : ℕ} {m : Memory} → Leaves n (bad number told place m)

-- a reader of fewer than n bytes leaves fewer than n: it gives none back
abbrev pub Within : {A : Type 0} → ℕ → Reader A → Type 0
Within n f = (m : Memory) (c : Cursor) (bs : List ℕ) → length bs < n → Leaves n (f m c bs)

-- a reader of at most n bytes leaves fewer than n: it takes at least one
abbrev pub Below : {A : Type 0} → ℕ → Reader A → Type 0
Below n f = (m : Memory) (c : Cursor) (bs : List ℕ) → length bs ≤ n → Leaves n (f m c bs)

module _ {n : ℕ} where
  -- one after the other
  leaves-bind : {A B : Type 0} {f : A → Reader B} {v : Result A} → Leaves n v → ((a : A) → Within n (f a)) → Leaves n (bind v f)
  leaves-bind (leaves l) h = h _ _ _ _ l
  leaves-bind stops h = stops

  -- a decision takes none
  leaves_by : {A : Type 0} (o : Out Memory A) (m : Memory) (bs : List ℕ) → length bs < n → Leaves n (decided o m bs)
  leaves_by (stop number told place) m bs l = stops
  leaves_by (give a k c) m bs l = leaves l

  ruleset leaving = (leaves-bind, leaves_by, leaves)

  -- ---- numbers, words and texts

  pub byte-below : Below n byte
  unfolding byte
  byte-below m c [] l = stops
  byte-below m c (b ∷ bs) l = on_bool (leb message_limit c.at) (λ e. rw e stops) (λ e. let q : length bs < n = omega arith in rw e (leaves q))

  byte-within : Within n byte
  byte-within m c bs l = byte-below m c bs (omega arith)

  -- after a byte of a number
  part-within : {more : ℕ → Reader ℕ} → ((i : ℕ) → Within n (more i)) → (p : Option Part) → Within n (on_part more p)
  part-within h (Some (More i)) m c bs l = h i m c bs l
  part-within h (Some (Whole i)) m c bs l = leaves l
  part-within h None m c bs l = stops

  u29-within : (left i : ℕ) → Within n (u29 left i)
  unfolding u29
  u29-within zero i m c bs l = search (leaving, byte-within, part-within)
  u29-within (suc left) i m c bs l = search (leaving, byte-within, part-within, u29-within left)

  pub u29-below : (left i : ℕ) → Below n (u29 left i)
  unfolding u29
  u29-below zero i m c bs l = search (leaving, byte-below, part-within)
  u29-below (suc left) i m c bs l = search (leaving, byte-below, part-within, u29-within left)

  number-within : (left i : ℕ) → Within n (number left i)
  unfolding number
  number-within zero i m c bs l = search (leaving, byte-within, part-within)
  number-within (suc left) i m c bs l = search (leaving, byte-within, part-within, number-within left)

  chars-within : (s : Span) (i t : ℕ) → Within n (chars s i t)
  unfolding chars
  chars-within s zero t m c bs l = search (leaving, byte-within)
  chars-within s (suc i) t m c bs l = search (leaving, byte-within, chars-within s i)

  fill-within : {grow : ℕ → Reader Unit} → ((left : ℕ) → Within n (grow left)) → (s : Span) (i : ℕ) → Within n (fill grow s i)
  unfolding fill
  fill-within h s zero m c bs l = search (leaving, byte-within, h)
  fill-within h s (suc i) m c bs l = search (leaving, byte-within, h, fill-within h s i)

  text-of-within : {at : Span → Reader Unit} → ((s : Span) → Within n (at s)) → (z : Size) → Within n (text_of at z)
  unfolding text_of
  text-of-within h (Old i) m c bs l = search leaving
  text-of-within h (New zero) m c bs l = leaves l
  text-of-within h (New (suc i)) m c bs l = search (leaving, h, chars-within) depth 8

  text-within : {at : Span → Reader Unit} → ((s : Span) → Within n (at s)) → Within n (text at)
  unfolding text
  text-within h m c bs l = search (leaving, u29-within, text-of-within, h)

  plain-within : Within n (text plain)
  plain-within m c bs l = text-within (λ s m c bs l. leaves l) m c bs l

  pub plain-below : Below n (text plain)
  unfolding text
  plain-below m c bs l = search (leaving, u29-below, text-of-within)

  -- ---- entries, objects and vectors

  entries-within : {one : ℕ → Reader Unit} → ((done : ℕ) → Within n (one done)) → (row col i done : ℕ) → Within n (entries one row col i done)
  unfolding entries
  entries-within h row col zero done m c bs l = leaves l
  entries-within h row col (suc i) done m c bs l = search (leaving, h, entries-within h row col i (suc done))

  names-within : (i : ℕ) → Within n (names i)
  unfolding names
  names-within zero m c bs l = leaves l
  names-within (suc i) m c bs l = search (leaving, plain-within, names-within i)

  room_within : (row i : ℕ) → Within n (room row i)
  unfolding room
  room_within row zero m c bs l = leaves l
  room_within row (suc i) m c bs l = search leaving

  chars-of-within : (s : Span) (i : ℕ) → Within n (chars_of s i)
  unfolding chars_of
  chars-of-within s zero m c bs l = leaves l
  chars-of-within s (suc i) m c bs l = chars-within s i 0 m c bs l

  filled_within : {grow : ℕ → Reader Unit} → ((left : ℕ) → Within n (grow left)) → (s : Span) (i : ℕ) → Within n (filled grow s i)
  unfolding filled
  filled_within h s zero m c bs l = leaves l
  filled_within h s (suc i) m c bs l = fill-within h s i m c bs l

  module _ {v : Values} (h : (k : Key) → Within n (v k)) where
    pair-within : (row col done : ℕ) {more : Reader Unit} → Within n more → (s : Span) (i : ℕ) → Within n (pair v row col done more s i)
    unfolding pair
    pair-within row col done e s zero m c bs l = leaves l
    pair-within row col done e s (suc i) m c bs l = search (leaving, h, e)

    pairs-by-within : (row col f done : ℕ) → Within n (pairs_by v row col f done)
    unfolding pairs_by
    pairs-by-within row col zero done m c bs l = stops
    pairs-by-within row col (suc f) done m c bs l = search (leaving, plain-within, pair-within, pairs-by-within row col f (suc done))

    pub pairs-within : (row col done : ℕ) → Within n (pairs v row col done)
    unfolding pairs
    pairs-within row col done m c bs l = pairs-by-within row col (suc (length bs)) done m c bs l

    couple-within : (row done : ℕ) → Within n (couple v row done)
    unfolding couple
    couple-within row done m c bs l = search (leaving, h)

    dynamics-within : (row y : ℕ) → Within n (dynamics v row y)
    unfolding dynamics
    dynamics-within row zero m c bs l = leaves l
    dynamics-within row (suc y) m c bs l = pairs-within row col_count2 0 m c bs l

    members-within : (row : ℕ) (t : Trait) → Within n (members v row t)
    unfolding members
    members-within row t m c bs l = search (leaving, h, entries-within, dynamics-within) depth 8

    inlined-within : (row : ℕ) (t : Trait) → Within n (inlined v row t)
    unfolding inlined
    inlined-within row t m c bs l = search (leaving, names-within, members-within)

    object-within : (row : ℕ) (z : Shape) → Within n (object_of v row z)
    unfolding object_of
    object-within row (Object i) m c bs l = search leaving
    object-within row (Known i) m c bs l = search (leaving, members-within)
    object-within row External m c bs l = search (leaving, plain-within)
    object-within row (Inline i dynamic) m c bs l = search (leaving, plain-within, inlined-within)

    new-within : (row : ℕ) (body : Body) (i : ℕ) → Within n (new_of v row body i)
    unfolding new_of
    new-within row xml i m c bs l = search (leaving, room_within, chars-of-within)
    new-within row date i m c bs l = search (leaving, number-within)
    new-within row array i m c bs l = search (leaving, pairs-within, entries-within, h)
    new-within row bytes i m c bs l = search (leaving, room_within, filled_within)
    new-within row (raw w) i m c bs l = search (leaving, room_within, byte-within, filled_within) depth 8
    new-within row objects i m c bs l = search (leaving, byte-within, plain-within, entries-within, h) depth 8
    new-within row dictionary i m c bs l = search (leaving, byte-within, entries-within, couple-within) depth 8

    sized-within : (row : ℕ) (body : Body) (z : Size) → Within n (sized_of v row body z)
    unfolding sized_of
    sized-within row body (Old i) m c bs l = search leaving
    sized-within row body (New i) m c bs l = search (leaving, new-within)

    marked-within : (row : ℕ) (z : Kind) → Within n (marked v row z)
    unfolding marked
    marked-within row leaf m c bs l = leaves l
    marked-within row integer m c bs l = search (leaving, u29-within)
    marked-within row double m c bs l = search (leaving, number-within)
    marked-within row string m c bs l = search (leaving, text-within)
    marked-within row object m c bs l = search (leaving, u29-within, object-within)
    marked-within row (sized body) m c bs l = search (leaving, u29-within, sized-within)

  -- what follows a value's first byte
  opened-within : {v : Values} → ((k : Key) → Within n (v k)) → (k : Key) (left b : ℕ)
      → Within n (by (on_rows (marker k left b)) >>= (λ row. marked v row (kind_of b)))
  opened-within h k left b m c bs l = leaves-bind (leaves_by (on_rows (marker k left b) m c) m bs l) (λ row. marked-within h row (kind_of b))

  pub value-within : (left : ℕ) (k : Key) → Within n (value left k)
  unfolding value
  value-within zero k m c bs l = search (leaving, byte-within)
  value-within (suc left) k m c bs l = leaves-bind (byte-within m c bs l) (opened-within (value-within left) k (suc left))

  pub value-below : (left : ℕ) (k : Key) → Below n (value left k)
  unfolding value
  value-below zero k m c bs l = search (leaving, byte-below)
  value-below (suc left) k m c bs l = leaves-bind (byte-below m c bs l) (opened-within (value-within left) k (suc left))

-- ---- so there are fewer bytes after them

-- what is left, of a result that is known
left-of : {A : Type 0} (n : ℕ) (r : Result A) → Leaves n r → {a : A} {m : Memory} {c : Cursor} (bs : List ℕ) → r ≡ ok a m c bs → length bs < n
left-of n (ok a m c l) (leaves h) bs e = let q : l ≡ bs = cc in rw q at h
left-of n (bad number told place m) h bs e = clash cc

-- a text takes at least one
pub text_shorter : (m : Memory) (c : Cursor) (bs : List ℕ) {s : Span} {m' : Memory} {c' : Cursor} (bs' : List ℕ) → text plain m c bs ≡ ok s m' c' bs'
    → length bs' < length bs
text_shorter m c bs bs' e = left-of (length bs) (text plain m c bs) (plain-below m c bs (omega arith)) bs' e

-- and a value
pub value_shorter : (left : ℕ) (k : Key) (m : Memory) (c : Cursor) (bs : List ℕ) {x : Unit} {m' : Memory} {c' : Cursor} (bs' : List ℕ)
    → value left k m c bs ≡ ok x m' c' bs' → length bs' < length bs
value_shorter left k m c bs bs' e = left-of (length bs) (value left k m c bs) (value-below left k m c bs (omega arith)) bs' e

-- ---- two readers are the same on fewer than n bytes

abbrev Same : {A : Type 0} → ℕ → Reader A → Reader A → Type 0
Same n f g = (m : Memory) (c : Cursor) (bs : List ℕ) → length bs < n → f m c bs ≡ g m c bs

-- what a result leaves is read the same
bind-same : {A B : Type 0} (n : ℕ) (r : Result A) (f g : A → Reader B) → Leaves n r → ((a : A) → Same n (f a) (g a)) → bind r f ≡ bind r g
bind-same n (ok a m c bs) f g (leaves l) h = h a m c bs l
bind-same n (bad number told place m) f g l h = refl

-- ---- pairs, one after the other

module _ {v : Values} (h : (n : ℕ) (k : Key) → Within n (v k)) (row col : ℕ) where
  pair_same : (n done : ℕ) (x y : Reader Unit) → Same n x y → (s : Span) (i : ℕ) → Same n (pair v row col done x s i) (pair v row col done y s i)
  unfolding pair
  pair_same n done x y e s zero m c bs l = refl
  pair_same n done x y e s (suc i) m c bs l =
      bind-same n ((v (key_of s) >> by (on_rows (counted row col done))) m c bs) (λ x'. x) (λ x'. y) (search (leaving, h)) (λ x'. e)

  -- with any two fuels that are no less than the bytes
  pairs-by-same : (f g n done : ℕ) → n ≤ f → n ≤ g → Same n (pairs_by v row col f done) (pairs_by v row col g done)
  unfolding pairs_by
  pairs-by-same zero g n done p q m c bs l = absurd (omega arith)
  pairs-by-same (suc f) zero n done p q m c bs l = absurd (omega arith)
  pairs-by-same (suc f) (suc g) n done p q m c bs l =
      bind-same (length bs) (text plain m c bs) _ _ (plain-below m c bs (omega arith))
      (λ s. pair_same (length bs) done _ _ (pairs-by-same f g (length bs) (suc done) (omega arith) (omega arith)) s s.size)

  -- the fuel doesn't matter
  pub pairs_fuel : (f done : ℕ) (m : Memory) (c : Cursor) (bs : List ℕ) → length bs < f → pairs_by v row col f done m c bs ≡ pairs v row col done m c bs
  unfolding pairs
  pairs_fuel f done m c bs l = pairs-by-same f (suc (length bs)) (suc (length bs)) done l (omega arith) m c bs (omega arith)

  -- a key, and then, unless it is empty, its value and the other pairs
  pub pairs_next : (done : ℕ) (m : Memory) (c : Cursor) (bs : List ℕ)
      → pairs v row col done m c bs ≡ bind (text plain m c bs) (λ s. pair v row col done (pairs v row col (suc done)) s s.size)
  pairs_next done m c bs = (unfold pairs in unfold pairs_by in
      bind-same (length bs) (text plain m c bs) _ _ (plain-below m c bs (omega arith))
      (λ s. pair_same (length bs) done (pairs_by v row col (length bs) (suc done)) (pairs v row col (suc done))
      (pairs_fuel (length bs) (suc done)) s s.size))

-- where so many values may still open
pub value-pairs : (left row col done : ℕ) (m : Memory) (c : Cursor) (bs : List ℕ)
    → pairs (value left) row col done m c bs
    ≡ bind (text plain m c bs) (λ s. pair (value left) row col done (pairs (value left) row col (suc done)) s s.size)
value-pairs left row col done m c bs = pairs_next (λ n k. value-within left k) row col done m c bs
