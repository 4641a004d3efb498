-- More depth changes nothing but refusal 9: a reading that may open more values ends as one that may open fewer, unless that one was refused with 9.
use mathlib.Core.Path.{◌≡◌, refl}
use mathlib.Core.Bool.{Bool, true, false, cond}
use mathlib.Core.List.{List}
use Prim.Native.Nat.{ℕ, zero, suc, ◌≤◌}
use native.Mathlib.Omega.{arith}
use lib.Dec.{eqb-suc-zero}
use Rattle.rows.specs.declared.Cursor.{Cursor}
use Rattle.rows.specs.declared.Span.{Span}
use Rattle.rows.specs.declared.Key.{Key}
use Rattle.rows.specs.declared.Trait.{Trait}
use Rattle.rows.specs.Memory.{Memory, fresh, zeroed, fault_of, open_limit, no_key}
use Rattle.wire.specs.declared.Size.{Size}
use Rattle.wire.specs.declared.Size.TheVariants.{Old, New}
use Rattle.wire.specs.declared.Shape.{Shape}
use Rattle.wire.specs.declared.Shape.TheVariants.{Object, Known, External, Inline}
use Rattle.format.specs.Decide.{Out, stop, lift, on_rows, marker, kind_of}
use Rattle.format.specs.Decide.{Body, xml, date, array, bytes, raw, objects, dictionary, Kind, leaf, integer, double, string, object, sized}
use Rattle.format.specs.Reading.{Result, ok, bad, bind, ◌>>=◌, byte, Reader, Values, by, decided, entries, pair, pairs_by, pairs, couple, dynamics, members}
use Rattle.format.specs.Reading.{inlined, object_of, new_of, sized_of, marked, value, Ended, ended, unless_fault, reading}
pub use Rattle.format.specs.Claims.{Shallow}

-- ---- results of which the second had no less depth

-- they are the same, or the first is a refusal for depth
pub data Less {A : Type 0} : Result A → Result A → Type 0 where
  same : {r : Result A} → Less r r
  deep : {told place : ℕ} {m : Memory} {r : Result A} → Less (bad 9 told place m) r

-- wherever they begin
abbrev pub Under : {A : Type 0} → Reader A → Reader A → Type 0
Under f g = (m : Memory) (c : Cursor) (bs : List ℕ) → Less (f m c bs) (g m c bs)

module _ {A B : Type 0} {f g : A → Reader B} where
  -- one after the other
  pub less-bind : {v w : Result A} → Less v w → ((a : A) → Under (f a) (g a)) → Less (bind v f) (bind w g)
  less-bind (same {r = ok a m c bs}) k = k a m c bs
  less-bind (same {r = bad n told place m}) k = same
  less-bind deep k = deep

ruleset lesser = (same, less-bind)

-- ---- loops

less-entries : {one two : ℕ → Reader Unit} → ((done : ℕ) → Under (one done) (two done)) → (row col n done : ℕ)
    → Under (entries one row col n done) (entries two row col n done)
unfolding entries
less-entries h row col zero done m c bs = same
less-entries h row col (suc n) done m c bs = search (lesser, h, less-entries h row col n (suc done))

module _ {v w : Values} (h : (k : Key) → Under (v k) (w k)) where
  less-pair : (row col done : ℕ) {x y : Reader Unit} → Under x y → (s : Span) (n : ℕ) → Under (pair v row col done x s n) (pair w row col done y s n)
  unfolding pair
  less-pair row col done l s zero m c bs = same
  less-pair row col done l s (suc n) m c bs = search (lesser, h, l)

  less-pairs-by : (row col f done : ℕ) → Under (pairs_by v row col f done) (pairs_by w row col f done)
  unfolding pairs_by
  less-pairs-by row col zero done m c bs = same
  less-pairs-by row col (suc f) done m c bs = search (lesser, less-pair, less-pairs-by row col f (suc done))

  less-pairs : (row col done : ℕ) → Under (pairs v row col done) (pairs w row col done)
  unfolding pairs
  less-pairs row col done m c bs = less-pairs-by row col _ done m c bs

  less-couple : (row done : ℕ) → Under (couple v row done) (couple w row done)
  unfolding couple
  less-couple row done m c bs = search (lesser, h)

  less-dynamics : (row n : ℕ) → Under (dynamics v row n) (dynamics w row n)
  unfolding dynamics
  less-dynamics row zero m c bs = same
  less-dynamics row (suc n) m c bs = less-pairs _ _ _ m c bs

  less-members : (row : ℕ) (t : Trait) → Under (members v row t) (members w row t)
  unfolding members
  less-members row t m c bs = search (lesser, h, less-entries, less-dynamics)

  less-inlined : (row : ℕ) (t : Trait) → Under (inlined v row t) (inlined w row t)
  unfolding inlined
  less-inlined row t m c bs = search (lesser, less-members)

  less-object : (row : ℕ) (z : Shape) → Under (object_of v row z) (object_of w row z)
  unfolding object_of
  less-object row (Object i) m c bs = same
  less-object row (Known i) m c bs = search (lesser, less-members)
  less-object row External m c bs = same
  less-object row (Inline n y) m c bs = search (lesser, less-inlined)

  less-new : (row : ℕ) (body : Body) (n : ℕ) → Under (new_of v row body n) (new_of w row body n)
  unfolding new_of
  less-new row xml n m c bs = same
  less-new row date n m c bs = same
  less-new row array n m c bs = search (lesser, h, less-pairs, less-entries)
  less-new row bytes n m c bs = same
  less-new row (raw k) n m c bs = same
  less-new row objects n m c bs = search (lesser, h, less-entries) depth 8
  less-new row dictionary n m c bs = search (lesser, less-entries, less-couple) depth 8

  less-sized : (row : ℕ) (body : Body) (z : Size) → Under (sized_of v row body z) (sized_of w row body z)
  unfolding sized_of
  less-sized row body (Old i) m c bs = same
  less-sized row body (New n) m c bs = search (lesser, less-new)

  less-marked : (row : ℕ) (k : Kind) → Under (marked v row k) (marked w row k)
  unfolding marked
  less-marked row leaf m c bs = same
  less-marked row integer m c bs = same
  less-marked row double m c bs = same
  less-marked row string m c bs = same
  less-marked row object m c bs = search (lesser, less-object)
  less-marked row (sized body) m c bs = search (lesser, less-sized)

-- ---- values

-- where a value may open, it matters not how many
less-opened : (k : Key) (left more b : ℕ) → Under (by (on_rows (marker k (suc left) b))) (by (on_rows (marker k (suc more) b)))
unfolding marker
less-opened k left more b m c bs = rw (eqb-suc-zero left, eqb-suc-zero more) same

module _ {A : Type 0} (f g : ℕ → Reader A) where
  -- a test refuses both, or both go on
  less-test : (to : List ℕ → Memory) (m : Memory) (bs : List ℕ) (t : Bool) (n told place : ℕ) (x y : Out (List ℕ) ℕ)
      → Less (bind (decided (lift to x) m bs) f) (bind (decided (lift to y) m bs) g)
      → Less (bind (decided (lift to (cond t (stop n told place) x)) m bs) f) (bind (decided (lift to (cond t (stop n told place) y)) m bs) g)
  less-test to m bs true n told place x y l = same
  less-test to m bs false n told place x y l = l

  -- where none may open, a marker is refused as it would be elsewhere, or with 9
  less-shut : (k : Key) (left b : ℕ) (m : Memory) (c : Cursor) (bs : List ℕ)
      → Less (bind (by (on_rows (marker k zero b)) m c bs) f) (bind (by (on_rows (marker k left b)) m c bs) g)
  unfolding marker
  less-shut k left b m c bs = search (less-test, deep)

-- what follows a value's first byte
less-value : {v w : Values} → ((k : Key) → Under (v k) (w k)) → (k : Key) (left more b : ℕ)
    → Under (by (on_rows (marker k (suc left) b)) >>= (λ row. marked v row (kind_of b))) (by (on_rows (marker k (suc more) b)) >>= (λ row. marked w row (kind_of b)))
less-value h k left more b m c bs = less-bind (less-opened k left more b m c bs) (λ row. less-marked h row (kind_of b))

pub deeper : (left more : ℕ) → left ≤ more → (k : Key) → Under (value left k) (value more k)
unfolding value
deeper zero zero h k m c bs = same
deeper zero (suc more) h k m c bs = search (same, less-shut, less-bind)
deeper (suc left) zero h k m c bs = absurd (omega arith)
deeper (suc left) (suc more) h k m c bs = less-bind {v = byte m c bs} same (less-value (deeper left more (omega arith)) k left more)

-- ---- a message

ended-less : {v w : Result Unit} → Less v w → Shallow (ended v) → ended w ≡ ended v
unfolding ended
ended-less same h = refl
ended-less deep h = absurd (h _ _ _ refl)

unless-less : (n : ℕ) (m : Memory) (d e : Ended) → (Shallow d → e ≡ d) → Shallow (unless_fault n m d) → unless_fault n m e ≡ unless_fault n m d
unless-less zero m d e f h = f h
unless-less (suc loan) m d e f h = refl

-- a reading not refused with 9 would end the same with any greater depth
pub deeper-reading : (left : ℕ) → open_limit ≤ left → (m : Memory) (bs : List ℕ) → Shallow (reading m bs)
    → unless_fault (fault_of m) m (ended (value left no_key (zeroed m) fresh bs)) ≡ reading m bs
unfolding reading
deeper-reading left more m bs h = unless-less (fault_of m) m _ _ (ended-less (deeper open_limit left more no_key (zeroed m) fresh bs)) h
