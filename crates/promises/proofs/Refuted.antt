-- Wrong programs, each with the theorem that it breaks. A program stands as a parameter, with the theorem as Demands states it of ours: where it holds, the program
-- doesn't do the wrong thing. Each is then said of our own, by the theorem itself.
use mathlib.Core.Path.{◌≡◌, refl, sym, ap, ◌∙◌}
use mathlib.Core.Bool.{Bool, true, ◌&&◌}
use mathlib.Core.Logic.{◌≢◌}
use mathlib.Core.List.{List, [], ◌∷◌, ◌++◌}
use Prim.Native.Nat.{ℕ, zero, suc, ◌+◌, ◌*◌, ◌^◌, ◌≤◌, ◌<◌}
use native.Mathlib.Omega.{arith}
use native.Mathlib.Nat.{le_refl}
use lib.Dec.{lit≤, ltb}
use borrow.Author.Tests.{ltb-true}
use lib.ListN.{length, replicate, take, get_or}
use Rattle.rows.specs.declared.Cursor.{Cursor}
use Rattle.rows.specs.Memory as r
use Rattle.rows.specs.Memory.{Memory, memory, zeroed, fault_of, message_limit, open_limit, row_width, trait_width, span_width, loan_traits}
use Rattle.rows.specs.Kinds.{kind_int_vector}
use Rattle.wire.specs.U29 as u
use Rattle.wire.specs.Octets.{Bytes}
use Rattle.utf8.specs.Grammar as g
use Rattle.format.specs.Refusals as no
use Rattle.format.specs.declared.Answer.{Answer}
use Rattle.format.specs.declared.Answer.TheVariants.{Waiting, Refused}
use Rattle.format.specs.declared.Frame.{Frame}
use Rattle.format.specs.Reading.{Ended, ResultOf, finished, refused, ok, reading}
use Rattle.format.specs.Step.{Mode, wait, none}
use Rattle.format.specs.Numbers.{Numbers, state_of}
use Rattle.format.specs.Answers.{Fed, fed, feed_call, Read, read_call, Output, output, write_call}
use Rattle.format.specs.Standard as t
use Rattle.format.specs.Standard.{Tables, Tree, standard}
use Rattle.format.specs.Holds as h
use Rattle.format.specs.Holds.{can_hold}
use Rattle.format.specs.Endings as e
use Rattle.format.specs.Endings.{depth}
use Rattle.format.specs.Together.{Together}
use Rattle.format.specs.Strays.{Strays}
use Rattle.format.specs.Byte.{RefusedBy}
use Rattle.format.specs.Byte as byte
use Rattle.format.specs.Claims.{answer_in, read_answer, place_in, lost_numbers, Going, FeedSays, ReadSays, Refuses, Feeds, Returns, NoShorter, widened, beyond, extra}
use Rattle.format.specs.Claims as claims
use Rattle.format.specs.Claims.{Wide}
use Rattle.format.specs.Unfold as v
use Rattle.format.specs.RowTest as f
use Rattle.format.specs.Writing as w
use Rattle.format.specs.Answers as a
use Rattle.format.specs.Unfold.{unfolded}
use Rattle.std.specs.Prelude.{Ok}
use Rattle.format.specs.Orders.{Order}
use Rattle.format.specs.Limits.{Accord}
use Rattle.format.specs.Limits as limits
use Rattle.format.proofs.Tests.{both, clash}
use Rattle.promises.proofs.Demands as demands

-- six rows, so many bytes of the store, and a few entries of the other loans
abbrev lent : ℕ → Memory
lent n = memory (replicate (6 * row_width) 0) (replicate n 0) (replicate (2 * span_width) 0) (replicate 4 0) (replicate (3 * trait_width) 0) (replicate (2 * span_width) 0)

-- ---- readings

-- an array of two objects, the second by the first one's trait; one of three, the last by the second one's, which has a name; and a string
abbrev twins : List ℕ
twins = 0x09 ∷ 0x05 ∷ 0x01 ∷ 0x0A ∷ 0x03 ∷ 0x01 ∷ 0x0A ∷ 0x01 ∷ []

abbrev second : List ℕ
second = 0x09 ∷ 0x07 ∷ 0x01 ∷ 0x0A ∷ 0x03 ∷ 0x01 ∷ 0x0A ∷ 0x13 ∷ 0x01 ∷ 0x03 ∷ 0x61 ∷ 0x01 ∷ 0x0A ∷ 0x05 ∷ 0x01 ∷ []

abbrev letter : List ℕ
letter = 0x06 ∷ 0x03 ∷ 0x61 ∷ []

-- numbers that are below a bound, by a test
abbrev are_below : ℕ → List ℕ → Bool
are_below k [] = ltb 0 k
are_below k (b ∷ s) = ltb b k && are_below k s

below : (k : ℕ) (s : List ℕ) → are_below k s ≡ true → (i : ℕ) → get_or s i 0 < k
below k [] e i = ltb-true 0 k e
below k (b ∷ s) e zero = ltb-true b k (both (ltb b k) (are_below k s) e).0
below k (b ∷ s) e (suc i) = below k s (both (ltb b k) (are_below k s) e).1 i

-- what the standard says of bytes that loans can hold
record Held (m : Memory) (bytes : List ℕ) (taken : ℕ) : Type 0 where
  tree : Tree
  tables : Tables
  rest : List ℕ
  bits : Bytes bytes
  clean : fault_of m ≡ 0
  reads : standard bytes ≡ ok tree tables taken rest
  holds : can_hold m tree ≡ true
  shallow : depth tree ≤ open_limit
  short : taken ≤ message_limit

-- each of the three
held : Held (lent 1) twins 8 × Held (lent 2) second 15 × Held (lent 1) letter 3
unfolding u.u29 r.loan_fault r.message_limit r.open_limit t.byte t.bytes t.word t.chars t.kept_text t.size_says t.object_says t.follows t.text_of t.text t.opened t.shut
    t.finished_object t.object_at t.names t.new_traits t.class_given t.trees t.sealed t.pairs_from t.pairs t.dynamics t.members t.object_of t.new_of t.sized_of t.marked t.value
    t.standard g.valid_text g.follow h.can_hold h.of_tree h.of_trees h.of_pairs h.of_sealed h.of_plain h.of_class h.of_text e.depth e.depth_trees e.depth_pairs
held = (
  record { tree = _; tables = _; rest = _; bits = below (2 ^ 8) twins refl; clean = refl; reads = refl; holds = refl; shallow = lit≤ tt; short = lit≤ tt },
  record { tree = _; tables = _; rest = _; bits = below (2 ^ 8) second refl; clean = refl; reads = refl; holds = refl; shallow = lit≤ tt; short = lit≤ tt },
  record { tree = _; tables = _; rest = _; bits = below (2 ^ 8) letter refl; clean = refl; reads = refl; holds = refl; shallow = lit≤ tt; short = lit≤ tt },
)

-- every trait reference refused with 10, loan 5: what the loans can hold is read
module _ (reads : Memory → List ℕ → Ended)
    (enough : (m : Memory) (bytes : List ℕ) → Bytes bytes → fault_of m ≡ 0 → (t : Tree) (s : Tables) (p : ℕ) (rest : List ℕ) → standard bytes ≡ ok t s p rest
    → can_hold m t ≡ true → depth t ≤ open_limit → p ≤ message_limit → Returns (reads m bytes) p t) where
  enough-held : (m : Memory) (bytes : List ℕ) (taken : ℕ) → (h : Held m bytes taken) → Returns (reads m bytes) taken (h).tree
  enough-held m bytes taken h = enough m bytes (h).bits (h).clean (h).tree (h).tables taken (h).rest (h).reads (h).holds (h).shallow (h).short

  pub trait_reference-refused : (place : ℕ) (k : Memory) → reads (lent 1) twins ≢ refused no.no_room loan_traits place k
  trait_reference-refused place k e = let q = (enough-held (lent 1) twins 8 held.0).finishes in clash cc

  -- 10 for the store that tells loan 5: with more of the store, and no more traits, it would be refused still
  module _ (same-room : (m m' : Memory) (bytes : List ℕ) → Bytes bytes → fault_of m ≡ 0 → fault_of m' ≡ 0 → NoShorter m m' → (loan place : ℕ) (m₁ : Memory)
      → reads m bytes ≡ refused no.no_room loan place m₁ → extra (beyond m m') loan ≡ 0 → reads m' bytes ≡ widened (beyond m m') (reads m bytes)) where
    pub store-refusal-tells-traits : (place : ℕ) (k : Memory) → reads (lent 0) letter ≢ refused no.no_room loan_traits place k
    unfolding r.loan_fault
    store-refusal-tells-traits place k e =
        let h = held.2 in
        let w : NoShorter (lent 0) (lent 1) =
        record { rows = le_refl _; store = lit≤ tt; strings = le_refl _; objects = le_refl _; traits = le_refl _; names = le_refl _ } in
        let q = (enough-held (lent 1) letter 3 h).finishes in
        let f = same-room (lent 0) (lent 1) letter (h).bits refl (h).clean w loan_traits place k e refl in
        clash cc

-- a trait index by eight: the second trait is the first then, which has no name, and a byte is left
module _ (reads : Memory → List ℕ → Ended) (means : (m : Memory) (bytes : List ℕ) → Bytes bytes → fault_of m ≡ 0 → Accord m bytes (reads m bytes) (standard bytes)) where
  pub trait_index_by-eight : (c : Cursor) (k : Memory) → reads (lent 2) second ≡ finished c k → c.at ≢ 14
  trait_index_by-eight c k e q =
      let h = held.1 in
      of (reads (lent 2) second) (standard second) (means (lent 2) second (h).bits (h).clean) e (h).reads
    where
      of : (x : Ended) (y : ResultOf Tables ℕ Tree) → Accord (lent 2) second x y → x ≡ finished c k → y ≡ ok held.1.tree held.1.tables 15 held.1.rest → ⊥
      of x y (limits.reads {c = d} a b f g h) i j = let n : d ≡ c = cc in let o : d.at ≡ 15 = cc in absurd (omega (arith, ap (λ (z : Cursor). z.at) n, o, q))
      of x y (limits.refuses a b) i j = clash cc
      of x y (limits.limited l) i j = clash cc

-- 11 that tells 7 at place 0: no answer of a read says so
module _ (reads : Memory → List ℕ → Read) (named : (m : Memory) (bytes : List ℕ) → Bytes bytes → ReadSays (length bytes) (read_answer (reads m bytes))) where
  pub limit-tells_seven : (m : Memory) (bytes : List ℕ) → Bytes bytes → (k : ℕ) → read_answer (reads m bytes) ≢ Refused no.too_long 7 0 k
  unfolding no.sayable
  limit-tells_seven m bytes o k e = let h : ReadSays (length bytes) (Refused no.too_long 7 0 k) = rw e at (named m bytes o) in (h).0

-- ---- feeds

-- 12 that tells 9 at place 9
module _ (feeds : Numbers → Memory → List ℕ → Fed) (named : (state : Numbers) (m : Memory) (part : List ℕ) → FeedSays (length part) (answer_in (feeds state m part))) where
  pub lost-tells_nine : (state : Numbers) (m : Memory) (part : List ℕ) (k : ℕ) → answer_in (feeds state m part) ≢ Refused no.lost 9 9 k
  unfolding no.sayable
  lost-tells_nine state m part k e = let h : FeedSays (length part) (Refused no.lost 9 9 k) = rw e at (named state m part) in (h).0

-- a state never begun that answers waiting to an empty piece
module _ (feeds : Numbers → Memory → List ℕ → Fed)
    (says : (state : Numbers) (m : Memory) → state_of state m ≡ none m → feeds state m [] ≡ fed (Refused no.lost 0 0 0) state m) where
  pub unbegun-waits : (state : Numbers) (m : Memory) → state_of state m ≡ none m → (k : ℕ) → answer_in (feeds state m []) ≢ Waiting k
  unbegun-waits state m e k w = let q = ap answer_in (says state m e) in clash cc

-- a state that doesn't hold together, swallows its byte and waits on
module _ (feeds : Numbers → Memory → List ℕ → Fed)
    (apart : (state : Numbers) (m : Memory) (b : ℕ) (bs : List ℕ) (x : Mode) (ts : List Frame) (c : Cursor) → state_of state m ≡ wait x ts c m
    → (Together state.head.lent x ts c m → ⊥) → feeds state m (b ∷ bs) ≡ fed (Refused no.lost 0 0 0) (lost_numbers state) (zeroed m)) where
  pub unsound-state-waits-on : (state : Numbers) (m : Memory) (b : ℕ) (bs : List ℕ) (x : Mode) (ts : List Frame) (c : Cursor) → state_of state m ≡ wait x ts c m
      → (Together state.head.lent x ts c m → ⊥) → (k : ℕ) → answer_in (feeds state m (b ∷ bs)) ≢ Waiting k
  unsound-state-waits-on state m b bs x ts c e h k w = let q = ap answer_in (apart state m b bs x ts c e h) in clash cc

-- a step that goes on by an entry, a name or a frame out of range
module _ (feeds : Numbers → Memory → List ℕ → Fed)
    (strays : (state : Numbers) (m : Memory) (b : ℕ) (bs : List ℕ) (x : Mode) (ts : List Frame) (c : Cursor) → state_of state m ≡ wait x ts c m
    → Together state.head.lent x ts c m → c.at < message_limit → Strays b x ts c m
    → feeds state m (b ∷ bs) ≡ fed (Refused no.lost 0 0 0) (lost_numbers state) (zeroed m)) where
  pub stray-waits-on : (state : Numbers) (m : Memory) (b : ℕ) (bs : List ℕ) (x : Mode) (ts : List Frame) (c : Cursor) → state_of state m ≡ wait x ts c m
      → Together state.head.lent x ts c m → c.at < message_limit → Strays b x ts c m → (k : ℕ) → answer_in (feeds state m (b ∷ bs)) ≢ Waiting k
  stray-waits-on state m b bs x ts c e h l s k w = let q = ap answer_in (strays state m b bs x ts c e h l s) in clash cc

-- a byte's refusal has its place
byte_at : (b q n told place : ℕ) → RefusedBy b q n told place → n ≢ no.lost → place ≡ q
byte_at b q n told place (byte.unknown h e) l = e
byte_at b q n told place (byte.absent e) l = e
byte_at b q n told place (byte.unfinished e) l = e
byte_at b q n told place (byte.external e) l = e
byte_at b q n told place (byte.undated e) l = e
byte_at b q n told place (byte.invalid e) l = e
byte_at b q n told place (byte.deep e) l = e
byte_at b q n told place (byte.full h e) l = e
byte_at b q n told place byte.astrays l = absurd (l refl)

refused-at : (part : List ℕ) (q n told place : ℕ) → Refuses part q n told place → n ≢ no.lost → n ≢ no.too_long → place ≡ q
refused-at part q n told place (claims.byte b o h i) l f = byte_at b q n told place h l
refused-at part q n told place (claims.past h i) l f = absurd (f refl)
refused-at part q n told place (claims.stray h) l f = absurd (l refl)

-- 9 and 10 that take no byte, though their place counts it
module _ (feeds : Numbers → Memory → List ℕ → Fed)
    (places : (state : Numbers) (m : Memory) (b : ℕ) (bs : List ℕ) → Going (state_of state m) → Feeds (place_in (state_of state m)) (b ∷ bs) (answer_in (feeds state m (b ∷ bs)))) where
  pub limit-takes-no-byte : (state : Numbers) (m : Memory) (b : ℕ) (bs : List ℕ) → Going (state_of state m) → (n told : ℕ) → n ≢ no.lost → n ≢ no.too_long
      → answer_in (feeds state m (b ∷ bs)) ≢ Refused n told (suc (place_in (state_of state m))) 0
  limit-takes-no-byte state m b bs going n told l f e = of (answer_in (feeds state m (b ∷ bs))) (places state m b bs going) e
    where
      p : ℕ
      p = place_in (state_of state m)

      of : (a : Answer) → Feeds p (b ∷ bs) a → a ≡ Refused n told (suc p) 0 → ⊥
      of a (claims.awaits h) e = clash cc
      of a (claims.completes h) e = clash cc
      of a (claims.rejects {n = i} {told = j} {place = place} {k = k} h x) e =
          let z : k ≡ 0 = cc in
          let q : place ≡ suc p = cc in
          let v : i ≡ n = cc in
          absurd (omega (arith, refused-at (b ∷ bs) (p + k) i j place x (λ o. l (sym v ∙ o)) (λ o. f (sym v ∙ o))))

-- ---- orders: what Demands says of `Order` is said here of `Sends`, of any writer

-- a table that a writer accepts, and the bytes that it reports
pub record Sends (writes : List ℕ → List ℕ → List ℕ → Output) (R B bytes : List ℕ) : Type 0 where
  out : List ℕ
  out_after : List ℕ
  size : ℕ
  wide : Wide R
  octets : Bytes B
  accepted : writes R B out ≡ output (Ok size) out_after
  reports : take size out_after ≡ bytes

-- an int vector of nothing, fixed or not
abbrev vector : ℕ → List ℕ
vector flag = kind_int_vector ∷ 0 ∷ 0 ∷ 0 ∷ 0 ∷ 0 ∷ 0 ∷ flag ∷ 0 ∷ 0 ∷ 0 ∷ 1 ∷ []

-- ours writes both
sent : Sends write_call (vector 1) [] (0x0D ∷ 0x01 ∷ 0x01 ∷ []) × Sends write_call (vector 0) [] (0x0D ∷ 0x01 ∷ 0x00 ∷ [])
unfolding u.u29 u.more_of u.groups g.valid_text g.follow r.loan_fault r.open_limit r.col t.encode_plain v.home v.part v.node v.tree_at v.unfolded f.span_fits f.mark_fits f.columns_fit f.value_fits f.children f.closes
    f.gives f.parent_in f.number_in f.given f.well_formed f.number_writable f.body_writable f.key_writable f.writable f.test_from f.tested w.◌then◌ w.these w.stream_bytes w.is_deep
    w.emit_in w.emit w.settle w.writing a.write_call
sent = (
  record { out = replicate 3 7; out_after = 0x0D ∷ 0x01 ∷ 0x01 ∷ []; size = 3; wide = below (2 ^ 64) (vector 1) refl; octets = below (2 ^ 8) [] refl; accepted = refl; reports = refl },
  record { out = replicate 3 7; out_after = 0x0D ∷ 0x01 ∷ 0x00 ∷ []; size = 3; wide = below (2 ^ 64) (vector 0) refl; octets = below (2 ^ 8) [] refl; accepted = refl; reports = refl },
)

-- the flag of a vector that isn't written: two trees, one list of bytes
module _ (writes : List ℕ → List ℕ → List ℕ → Output)
    (same-tree : (R B R' B' bytes : List ℕ) → Sends writes R B bytes → Sends writes R' B' bytes → unfolded R B 0 ≡ unfolded R' B' 0) where
  pub fixed-flag-not-written : (bytes : List ℕ) → Sends writes (vector 1) [] bytes → Sends writes (vector 0) [] bytes → ⊥
  unfolding v.unfolded v.tree_at v.node v.home v.part r.col
  fixed-flag-not-written bytes o p = let q = same-tree (vector 1) [] (vector 0) [] bytes o p in clash cc

-- an order that begins another: an object without the empty key behind its dynamic members, or null written as nothing
module _ (writes : List ℕ → List ℕ → List ℕ → Output)
    (no_beginning : (R B R' B' bytes x : List ℕ) → Sends writes R B bytes → Sends writes R' B' (bytes ++ x) → x ≡ []) where
  pub order-ends_early : (R B R' B' bytes : List ℕ) (b : ℕ) (more : List ℕ) → Sends writes R B bytes → Sends writes R' B' (bytes ++ (b ∷ more)) → ⊥
  order-ends_early R B R' B' bytes b more o p = let q = no_beginning R B R' B' bytes (b ∷ more) o p in clash cc

-- a reader that wants the end behind its value
module _ (reads : Memory → List ℕ → Ended)
    (more-behind : (m : Memory) (bytes : List ℕ) (c : Cursor) (m' : Memory) → reads m bytes ≡ finished c m' → (rest : List ℕ) → reads m (bytes ++ rest) ≡ finished c m') where
  pub reader_wants_the_end : (m : Memory) (bytes : List ℕ) (c : Cursor) (m' : Memory) → reads m bytes ≡ finished c m' → (b : ℕ) (more : List ℕ) (n told place : ℕ) (k : Memory)
      → reads m (bytes ++ (b ∷ more)) ≢ refused n told place k
  reader_wants_the_end m bytes c m' e b more n told place k q = let h = more-behind m bytes c m' e (b ∷ more) in clash cc

-- ---- ours: what is asked above of a program is what Demands says of it

abbrev order : (R B bytes : List ℕ) → Sends write_call R B bytes → Order
order R B bytes w =
    record { rows = R; store = B; out = (w).out; out_after = (w).out_after; size = (w).size; wide = (w).wide; octets = (w).octets; accepted = (w).accepted }

ours : Unit {0}
ours =
    let a = trait_reference-refused reading demands.enough in
    let b = store-refusal-tells-traits reading demands.enough demands.same-room in
    let c = trait_index_by-eight reading demands.reading_means in
    let d = limit-tells_seven read_call demands.read_named in
    let e = lost-tells_nine feed_call demands.feed-named in
    let f = unbegun-waits feed_call demands.unbegun-says in
    let g = unsound-state-waits-on feed_call demands.apart-lost in
    let h = stray-waits-on feed_call demands.strays-lost in
    let i = limit-takes-no-byte feed_call demands.feed-places in
    let j = fixed-flag-not-written write_call (λ R B R' B' bytes o p. demands.same-tree (order R B bytes o) (order R' B' bytes p) (o.reports ∙ sym p.reports)) in
    let k = order-ends_early write_call
    (λ R B R' B' bytes x o p. demands.no_beginning (order R B bytes o) (order R' B' (bytes ++ x) p) x (ap (λ (l : List ℕ). l ++ x) o.reports ∙ sym p.reports)) in
    let l = reader_wants_the_end reading demands.more-behind in
    tt
