-- A message of the standard's that loans can hold unfolded has no more bytes than the limit, long forms and all.
use mathlib.Core.Path.{◌≡◌}
use mathlib.Core.Bool.{Bool, true, false, cond, not}
use mathlib.Core.List.{List, [], ◌∷◌}
use mathlib.Core.Option.{Option, none, some}
use Prim.Native.Nat.{ℕ, zero, suc, ◌+◌, ◌*◌, ◌-◌, ◌^◌, ◌≤◌}
use native.Mathlib.Omega.{arith}
use lib.Dec.{ltb, eqb, eqb-suc-zero}
use lib.ListN.{length, get_or}
use Rattle.rows.specs.Memory.{Memory, fault_of, message_limit}
use Rattle.wire.specs.declared.Size.{Size}
use Rattle.wire.specs.declared.Size.TheVariants.{Old, New}
use Rattle.wire.specs.declared.Shape.{Shape}
use Rattle.wire.specs.declared.Shape.TheVariants.{Object, Known, External, Inline}
use Rattle.format.specs.Standard.{kept_text, class_given, size_says, object_says, follows}
use Rattle.wire.specs.Big.{number_of}
use Rattle.wire.specs.Date.{refused_date}
use Rattle.utf8.specs.Grammar.{valid_text}
use Rattle.format.specs.Decide as k
use Rattle.format.specs.Decide.{Kind, Body, width_of}
use Rattle.format.specs.Reading as our
use Rattle.format.specs.Reading.{ResultOf, ok, bad, bind, ◌>>=◌, ret}
use Rattle.format.specs.Standard.{Tree, plain, date, object, Traits, Tables, Std, fail, lookup, change, byte, bytes}
use Rattle.format.specs.Standard.{word, chars, text_of, text, opened, shut, finished_object, object_at, names, new_traits, trees, sealed, pairs_from, pairs}
use Rattle.format.specs.Standard.{dynamics, entries, members, object_of, new_of, sized_of, marked, value, standard, no_tables, starred, leaf_of}
use Rattle.format.specs.Holds.{Room, ◌and◌, of_text, of_class, of_plain, of_tree, of_trees, of_pairs, of_sealed, of_entries, can_hold}
use Rattle.format.proofs.Loans.{lent}
use Rattle.meaning.proofs.Size.{holds}
use Rattle.meaning.proofs.Holds.{Within}
use Rattle.promises.proofs.Fares.{All, Gives, no_traits}
use Rattle.promises.proofs.Spends.{bytes-long}
use Rattle.promises.proofs.Afford.{sealed-gives, pays-value, names_cost, values_cost, tree-row, given-room, starred-room, xml-room, vector-room}
use Rattle.format.specs.Refusals as refusals

-- the bytes that room can be written in, at most
abbrev pub heft : Room → ℕ
heft r = r.rows * 9 + r.objects * 4 + r.store + r.strings * 4 + r.names * 4

-- from place q on, after `a` bytes, no more than N says of the result
abbrev pub Short : {B : Type 0} → ℕ → ℕ → (B → ℕ) → ResultOf Tables ℕ B → Type 0
Short a q N (ok e s p bs) = p + a ≤ q + N e
Short a q N (bad number told place s) = Unit {0}

pub record Brief {B : Type 0} (a : ℕ) (N : B → ℕ) (g : Std B) : Type 0 where
  pub brief : (s : Tables) (p : ℕ) (bs : List ℕ) → Short a p N (g s p bs)

short-down : {B : Type 0} (a b p q : ℕ) (N : B → ℕ) (r : ResultOf Tables ℕ B) → b + p ≤ a + q → Short a p N r → Short b q N r
short-down a b p q N (ok e s z bs) h l = omega arith
short-down a b p q N (bad number told place s) h l = tt

short-bind : {A B : Type 0} (N₁ : A → ℕ) (N : B → ℕ) (a : ℕ) (Q : A → Type 0) (q : ℕ) (r : ResultOf Tables ℕ A) (f : A → Std B) → All Q r → Short 0 q N₁ r
    → ((b : A) → Q b → Brief (a + N₁ b) N (f b)) → Short a q N (bind r f)
short-bind N₁ N a Q q (ok b s p bs) f z l h = short-down (a + N₁ b) a p q N (f b s p bs) (omega arith) ((h b z).brief s p bs)
short-bind N₁ N a Q q (bad number told place s) f z l h = tt

pub brief-told : {A B : Type 0} {N₁ : A → ℕ} {N : B → ℕ} {a : ℕ} (Q : A → Type 0) {g : Std A} {f : A → Std B} → ((s : Tables) (p : ℕ) (bs : List ℕ) → All Q (g s p bs))
    → Brief 0 N₁ g → ((b : A) → Q b → Brief (a + N₁ b) N (f b)) → Brief a N (g >>= f)
brief-told {N₁ = N₁} {N = N} {a = a} Q {g = g} {f = f} z h l = record { brief = λ s p bs. short-bind N₁ N a Q p (g s p bs) f (z s p bs) (h.brief s p bs) l }

all_any : {A : Type 0} (r : ResultOf Tables ℕ A) → All (λ a. Unit {0}) r
all_any (ok a s p bs) = tt
all_any (bad number told place s) = tt

pub brief-bind : {A B : Type 0} {N₁ : A → ℕ} {N : B → ℕ} {a : ℕ} {g : Std A} {f : A → Std B} → Brief 0 N₁ g → ((b : A) → Brief (a + N₁ b) N (f b)) → Brief a N (g >>= f)
brief-bind {g = g} h l = brief-told (λ b. Unit {0}) (λ s p bs. all_any (g s p bs)) h (λ b z. l b)

brief-less : {B : Type 0} {N : B → ℕ} {g : Std B} {a : ℕ} (b : ℕ) → a ≤ b → Brief b N g → Brief a N g
brief-less {N = N} {g = g} {a = a} b h x = record { brief = λ s p bs. short-down b a p p N (g s p bs) (omega arith) (x.brief s p bs) }

brief-ret : {B : Type 0} {N : B → ℕ} {a : ℕ} {b : B} → a ≤ N b → Brief a N (ret b)
brief-ret h = record { brief = λ s p bs. omega arith }

brief-fail : {B : Type 0} {N : B → ℕ} {a number told : ℕ} → Brief a N (fail number told)
brief-fail = record { brief = λ s p bs. tt }

brief-change : {B : Type 0} {N : B → ℕ} {a : ℕ} {b : B} {f : Tables → Tables} → a ≤ N b → Brief a N (change b f)
brief-change h = record { brief = λ s p bs. omega arith }

brief-cond : {B : Type 0} {N : B → ℕ} {a : ℕ} {g h : Std B} (t : Bool) → Brief a N g → Brief a N h → Brief a N (cond t g h)
brief-cond true x y = x
brief-cond false x y = y

brief-lookup : {A : Type 0} (f : Tables → List A) (d : A) (i : ℕ) → Brief 0 (λ z. 0) (lookup f d i)
brief-lookup f d i = record { brief = λ s p bs. by s p bs (ltb i (length (f s))) }
  where
    by : (s : Tables) (p : ℕ) (bs : List ℕ) (t : Bool) → Short 0 p (λ z. 0) (cond t (ok (get_or (f s) i d) s p bs) (bad refusals.no_entry i p s))
    by s p bs true = omega arith
    by s p bs false = tt

-- ---- bytes, words and texts

byte-brief : Brief 0 (λ z. 1) byte
byte-brief = record { brief = one }
  where
    one : (s : Tables) (p : ℕ) (bs : List ℕ) → Short 0 p (λ z. 1) (byte s p bs)
    one s p [] = (unfold byte in tt)
    one s p (b ∷ bs) = (unfold byte in omega arith)

bytes-brief : (n : ℕ) → Brief 0 length (bytes n)
unfolding bytes
bytes-brief zero = brief-ret (omega arith)
bytes-brief (suc n) = brief-bind byte-brief (λ b. brief-bind (bytes-brief n) (λ bs. brief-ret (omega arith)))

word-brief : (left n : ℕ) → Brief 0 (λ z. suc left) (word left n)
unfolding word
word-brief zero n = brief-bind byte-brief (λ b. brief-ret (omega arith))
word-brief (suc left) n =
    brief-bind byte-brief (λ b. brief-cond (ltb b (2 ^ 7)) (brief-ret (omega arith)) (more (word-brief left (n * 2 ^ 7 + (b - 2 ^ 7)))))
  where
    more : {g : Std ℕ} → Brief 0 (λ z. suc left) g → Brief (0 + 1) (λ z. suc (suc left)) g
    more {g = g} h = record { brief = λ s p bs. up p (g s p bs) (h.brief s p bs) }
      where
        up : (p : ℕ) (r : ResultOf Tables ℕ ℕ) → Short 0 p (λ z. suc left) r → Short (0 + 1) p (λ z. suc (suc left)) r
        up p (ok e s q bs) l = omega arith
        up p (bad number told place s) l = tt

-- its size word, and its bytes
abbrev texted : List ℕ → ℕ
texted t = 4 + length t

entered-brief : (n : ℕ) (t : List ℕ) → n ≤ length t → Brief n length (kept_text t)
unfolding kept_text
entered-brief n [] h = brief-ret h
entered-brief n (b ∷ t) h = brief-change h

chars-brief : (n : ℕ) → Brief 0 length (chars n)
unfolding chars
chars-brief n = brief-bind (bytes-brief n) (λ t. brief-cond (valid_text t) (brief-ret (omega arith)) brief-fail)

text-of-brief : (z : Size) → Brief 0 length (text_of z)
unfolding text_of
text-of-brief (Old i) = lower (brief-lookup (λ s. s.texts) [] i)
  where
    lower : {g : Std (List ℕ)} → Brief 0 (λ z. 0) g → Brief 0 length g
    lower {g = g} h = record { brief = λ s p bs. up p (g s p bs) (h.brief s p bs) }
      where
        up : (p : ℕ) (r : ResultOf Tables ℕ (List ℕ)) → Short 0 p (λ z. 0) r → Short 0 p length r
        up p (ok e s q bs) l = omega arith
        up p (bad number told place s) l = tt
text-of-brief (New n) = brief-bind (chars-brief n) (λ t. entered-brief (0 + length t) t (omega arith))

-- so many bytes before it
brief-after : {B : Type 0} {N₁ N : B → ℕ} {g : Std B} (a : ℕ) → ((b : B) → a + N₁ b ≤ N b) → Brief 0 N₁ g → Brief a N g
brief-after {B = B} {N₁ = N₁} {N = N} {g = g} a w h = record { brief = λ s p bs. up p (g s p bs) (h.brief s p bs) }
  where
    up : (p : ℕ) (r : ResultOf Tables ℕ B) → Short 0 p N₁ r → Short a p N r
    up p (ok e s q bs) l = let z = w e in omega arith
    up p (bad number told place s) l = tt

text-brief : Brief 0 texted text
unfolding text
text-brief = brief-bind (word-brief 3 0) (λ w. brief-after 4 (λ t. omega arith) (text-of-brief (size_says w)))

opened-brief : Brief 0 (λ i. 0) opened
unfolding opened
opened-brief = record { brief = λ s p bs. omega arith }

shut-brief : {N : Tree → ℕ} {a : ℕ} (i : ℕ) (t : Tree) → a ≤ N t → Brief a N (shut i t)
unfolding shut
shut-brief i t h = brief-change h

abbrev tree_heft : Tree → ℕ
tree_heft t = heft (of_tree t)

-- a reference
refer-brief : (i : ℕ) → Brief 5 tree_heft (object_at i)
unfolding object_at
refer-brief i = brief-bind (brief-lookup (λ s. s.objects) none i) (λ o. found o)
  where
    found : (o : Option Tree) → Brief (5 + 0) tree_heft (finished_object i o)
    found none = (unfold finished_object in brief-fail)
    found (some t) = (unfold finished_object in brief-ret (let w = tree-row t in omega arith))

abbrev names_heft : List (List ℕ) → ℕ
names_heft [] = 0
names_heft (x ∷ xs) = texted x + names_heft xs

names-brief : (n : ℕ) → Brief 0 names_heft (names n)
unfolding names
names-brief zero = brief-ret (omega arith)
names-brief (suc n) = brief-bind text-brief (λ x. brief-bind (names-brief n) (λ xs. brief-ret (omega arith)))

names-cost : (xs : List (List ℕ)) → names_heft xs ≤ heft (names_cost xs)
unfolding of_text
names-cost [] = omega arith
names-cost (x ∷ xs) = let h = names-cost xs in omega arith

abbrev trait_heft : Traits → ℕ
trait_heft t = texted t.class + names_heft t.names

traits-brief : (n y : ℕ) → Brief 0 trait_heft (new_traits n y)
unfolding new_traits
traits-brief n y = brief-bind text-brief (λ x. brief-bind (names-brief n) (λ xs. brief-change (omega arith)))

class-room : (t : List ℕ) → length t ≤ heft (of_class [] (class_given t))
class-room t = let w = given-room t in let h : length t ≤ (of_text t).store = (unfold of_text in omega arith) in omega arith

type_room : (t : List ℕ) → length t ≤ heft (of_class (0x2A ∷ []) (starred t))
type_room t = let w = starred-room t in let h : length t ≤ (of_text t).store = (unfold of_text in omega arith) in omega arith

key-heft : (b : ℕ) (x : List ℕ) → texted (b ∷ x) ≤ heft (of_text (b ∷ x))
unfolding of_text
key-heft b x = rw (eqb-suc-zero (length x)) (omega arith)

module _ (v : Std Tree) (h : Brief 0 tree_heft v) (sealed_cost : (xs : List (List ℕ)) → Gives (λ ps. Within (names_cost xs and values_cost ps) (of_sealed ps)) (sealed v xs)) where
  trees-brief : (n : ℕ) → Brief 0 (λ ts. heft (of_trees ts)) (trees v n)
  unfolding trees of_trees
  trees-brief zero = brief-ret (omega arith)
  trees-brief (suc n) = brief-bind h (λ t. brief-bind (trees-brief n) (λ ts. brief-ret (omega arith)))

  entries-brief : (n : ℕ) → Brief 0 (λ es. heft (of_entries es)) (entries v n)
  unfolding entries of_entries
  entries-brief zero = brief-ret (omega arith)
  entries-brief (suc n) = brief-bind h (λ a. brief-bind h (λ b. brief-bind (entries-brief n) (λ es. brief-ret (omega arith))))

  sealed-brief : (xs : List (List ℕ)) → Brief 0 (λ ps. heft (values_cost ps)) (sealed v xs)
  unfolding sealed
  sealed-brief [] = brief-ret (omega arith)
  sealed-brief (x ∷ xs) = brief-bind h (λ t. brief-bind (sealed-brief xs) (λ ps. brief-ret (omega arith)))

  pairs-brief : (f : ℕ) → Brief 0 (λ ps. 4 + heft (of_pairs ps)) (pairs v f)
  unfolding pairs pairs_from of_pairs
  pairs-brief zero = brief-fail
  pairs-brief (suc f) = brief-bind text-brief (λ x. from x (pairs-brief f))
    where
      from : (x : List ℕ) → Brief 0 (λ ps. 4 + heft (of_pairs ps)) (pairs v f) → Brief (0 + texted x) (λ ps. 4 + heft (of_pairs ps)) (pairs_from v (pairs v f) x)
      from [] i = brief-ret (omega arith)
      from (b ∷ x) i = let w = key-heft b x in brief-bind h (λ t. brief-bind i (λ ps. brief-ret (omega arith)))

  dynamics-brief : (f y : ℕ) → Brief 0 (λ ps. 4 + heft (of_pairs ps)) (dynamics v f y)
  unfolding dynamics of_pairs
  dynamics-brief f zero = brief-ret (omega arith)
  dynamics-brief f (suc y) = pairs-brief f

  members-brief : (f i : ℕ) (t : Traits) → Brief (5 + trait_heft t) tree_heft (members v f i t)
  unfolding members of_tree
  members-brief f i t =
      let a = class-room t.class in
      let b = names-cost t.names in
      brief-told (λ ps. Within (names_cost t.names and values_cost ps) (of_sealed ps)) (sealed_cost t.names).gives (sealed-brief t.names)
      (λ ps w. brief-bind (dynamics-brief f t.dynamic) (λ ys. shut-brief i (object (class_given t.class) ps ys) (omega arith)))

  object-brief : (f : ℕ) (z : Shape) → Brief 5 tree_heft (object_of v f z)
  unfolding object_of
  object-brief f (Object i) = refer-brief i
  object-brief f (Known j) =
      brief-bind opened-brief (λ i. brief-bind (brief-lookup (λ s. s.traits) no_traits j) (λ t. brief-less (5 + trait_heft t) (omega arith) (members-brief f i t)))
  object-brief f External = brief-bind opened-brief (λ i. brief-bind text-brief (λ x. brief-fail))
  object-brief f (Inline n y) =
      brief-bind opened-brief (λ i. brief-bind (traits-brief n y) (λ t. brief-less (5 + trait_heft t) (omega arith) (members-brief f i t)))

  new-brief : (f b : ℕ) (body : Body) (n : ℕ) → Brief 5 tree_heft (new_of v f b body n)
  unfolding new_of
  new-brief f b k.xml n = brief-bind (chars-brief n) (λ t. brief-ret (let w = xml-room b t in omega arith))
  new-brief f b k.date n = brief-told (λ t. length t ≡ 8) (bytes-long 8).gives (bytes-brief 8) (λ t e. dated (length t) (omega arith) (number_of 0 t) (refused_date (number_of 0 t)))
    where
      dated : (m : ℕ) → m ≤ 8 → (bits : ℕ) (t : Bool) → Brief (5 + m) tree_heft (cond t (fail refusals.bad_date bits) (ret (plain (date bits))))
      dated m l bits true = brief-fail
      dated m l bits false = brief-ret (unfold of_tree of_plain in omega arith)
  new-brief f b k.array n = brief-bind (pairs-brief f) (λ xs. brief-bind (trees-brief n) (λ ts. brief-ret (unfold of_tree in omega arith)))
  new-brief f b k.bytes n = brief-bind (bytes-brief n) (λ t. brief-ret (unfold of_tree of_plain in omega arith))
  new-brief f b (k.raw w) n =
      brief-bind byte-brief (λ flag. brief-bind (bytes-brief (n * width_of w)) (λ t. brief-ret (let z = vector-room b (not (eqb flag 0)) t in omega arith)))
  new-brief f b k.objects n =
      brief-bind byte-brief (λ flag. brief-bind text-brief (λ x. brief-bind (trees-brief n) (λ ts. brief-ret (let w = type_room x in (unfold of_tree in omega arith)))))
  new-brief f b k.dictionary n = brief-bind byte-brief (λ flag. brief-bind (entries-brief n) (λ es. brief-ret (unfold of_tree in omega arith)))

  sized-brief : (f b : ℕ) (body : Body) (z : Size) → Brief 5 tree_heft (sized_of v f b body z)
  unfolding sized_of
  sized-brief f b body (Old i) = refer-brief i
  sized-brief f b body (New n) = brief-bind opened-brief (λ i. shutting i (new-brief f b body n))
    where
      shutting : (i : ℕ) → Brief 5 tree_heft (new_of v f b body n) → Brief (5 + 0) tree_heft (new_of v f b body n >>= shut i)
      shutting i x = record { brief = λ s p bs. up i p (new_of v f b body n s p bs) (x.brief s p bs) }
        where
          up : (i p : ℕ) (r : ResultOf Tables ℕ Tree) → Short 5 p tree_heft r → Short (5 + 0) p tree_heft (bind r (shut i))
          up i p (ok e s q bs) l = (unfold shut in omega arith)
          up i p (bad number told place s) l = tt

  marked-brief : (f b : ℕ) (z : Kind) → Brief 1 tree_heft (marked v f b z)
  unfolding marked
  marked-brief f b k.leaf = brief-ret (let w = tree-row (plain (leaf_of b)) in omega arith)
  marked-brief f b k.integer = brief-bind (word-brief 3 0) (λ w. brief-ret (unfold of_tree of_plain in omega arith))
  marked-brief f b k.double = brief-told (λ t. length t ≡ 8) (bytes-long 8).gives (bytes-brief 8) (λ t e. brief-ret (unfold of_tree of_plain in omega arith))
  marked-brief f b k.string = brief-bind text-brief (λ t. brief-ret (unfold of_tree of_plain of_text in omega arith))
  marked-brief f b k.object = brief-bind (word-brief 3 0) (λ w. object-brief f (object_says w))
  marked-brief f b (k.sized body) = brief-bind (word-brief 3 0) (λ w. sized-brief f b body (size_says w))

value-brief : (f d : ℕ) → Brief 0 tree_heft (value f d)
unfolding value
value-brief f zero = brief-fail
value-brief f (suc d) =
    brief-bind byte-brief (λ b. brief-cond (ltb 0x11 b) brief-fail
    (marked-brief (value f d) (value-brief f d) (sealed-gives (our.value 0) (value f d) 0 (λ key. pays-value 0 f d key)) f b (follows b)))

-- ---- a message

pub standard-brief : (bs : List ℕ) (t : Tree) (s : Tables) (p : ℕ) (rest : List ℕ) → standard bs ≡ ok t s p rest → p ≤ heft (of_tree t)
unfolding standard
standard-brief bs t s p rest e =
    let h : Short 0 0 tree_heft (ok t s p rest) = rw e at ((value-brief (suc (length bs)) (suc (length bs))).brief no_tables 0 bs) in
    omega arith

-- what loans can hold unfolded, in whatever bytes, is no longer than the limit
pub held-brief : (m : Memory) → fault_of m ≡ 0 → (bs : List ℕ) (t : Tree) (s : Tables) (p : ℕ) (rest : List ℕ) → standard bs ≡ ok t s p rest → can_hold m t ≡ true
    → p ≤ message_limit
unfolding message_limit
held-brief m clean bs t s p rest e can =
    let l = lent m clean in
    let r = holds m t can in
    omega (arith, standard-brief bs t s p rest e)
