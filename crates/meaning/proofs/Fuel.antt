-- The standard's two fuels don't matter: more than the bytes left they give one result, because each value and each key takes a byte at least.
use mathlib.Core.Path.{◌≡◌, refl, ap, ◌∙◌}
use mathlib.Core.Bool.{Bool, true, false, cond}
use mathlib.Core.List.{List, [], ◌∷◌}
use mathlib.Core.Option.{Option, none, some}
use Prim.Native.Nat.{ℕ, zero, suc, ◌+◌, ◌*◌, ◌-◌, ◌^◌, ◌<◌, ◌≤◌}
use native.Mathlib.Omega.{arith}
use lib.Dec.{ltb}
use lib.ListN.{length, get_or}
use Rattle.wire.specs.declared.Size.{Size}
use Rattle.wire.specs.declared.Size.TheVariants.{Old, New}
use Rattle.wire.specs.declared.Shape.{Shape}
use Rattle.wire.specs.declared.Shape.TheVariants.{Object, Known, External, Inline}
use Rattle.format.specs.Standard.{kept_text, size_says, object_says, follows}
use Rattle.wire.specs.Big.{number_of}
use Rattle.wire.specs.Date.{refused_date}
use Rattle.utf8.specs.Grammar.{valid_text}
use Rattle.format.specs.Decide as k
use Rattle.format.specs.Decide.{Kind, Body, width_of}
use Rattle.format.specs.Reading.{ResultOf, ok, bad, bind, ◌>>=◌, ret}
use Rattle.format.specs.Refusals as no
use Rattle.format.specs.Standard.{Tree, plain, date, Pairs, Traits, Tables, no_tables, Std, fail, lookup, change, byte, bytes, word, chars}
use Rattle.format.specs.Standard.{text_of, text, opened, shut, finished_object, object_at, names, new_traits, trees, sealed, pairs_from, pairs, dynamics}
use Rattle.format.specs.Standard.{entries, members, object_of, dated, new_of, sized_of, marked, value, standard}

-- ---- a reader takes k bytes at least

-- of n bytes a result leaves k fewer at most
abbrev pub Leaves : {A : Type 0} → ℕ → ℕ → ResultOf Tables ℕ A → Type 0
Leaves k n (ok a s p bs) = k + length bs ≤ n
Leaves k n (bad number told place s) = Unit {0}

-- place and bytes left make up n
abbrev pub Level : {A : Type 0} → ℕ → ResultOf Tables ℕ A → Type 0
Level n (ok a s p bs) = p + length bs ≡ n
Level n (bad number told place s) = Unit {0}

pub record Takes {A : Type 0} (k : ℕ) (g : Std A) : Type 0 where
  pub leaves : (s : Tables) (p : ℕ) (bs : List ℕ) → Leaves k (length bs) (g s p bs)
  pub level : (s : Tables) (p : ℕ) (bs : List ℕ) → Level (p + length bs) (g s p bs)

pub leaves-down : {A : Type 0} (i j n m : ℕ) (r : ResultOf Tables ℕ A) → j + n ≤ i + m → Leaves i n r → Leaves j m r
leaves-down i j n m (ok a s p bs) h l = omega arith
leaves-down i j n m (bad number told place s) h l = tt

bind-leaves : {A B : Type 0} (i j n : ℕ) (r : ResultOf Tables ℕ A) (f : A → Std B)
    → Leaves i n r → ((a : A) → Takes j (f a)) → Leaves (i + j) n (bind r f)
bind-leaves i j n (ok a s p bs) f l h = leaves-down j (i + j) (length bs) n (f a s p bs) (omega arith) ((h a).leaves s p bs)
bind-leaves i j n (bad number told place s) f l h = tt

bind-level : {A B : Type 0} (j n : ℕ) (r : ResultOf Tables ℕ A) (f : A → Std B)
    → Level n r → ((a : A) → Takes j (f a)) → Level n (bind r f)
bind-level j n (ok a s p bs) f l h = rw l at ((h a).level s p bs)
bind-level j n (bad number told place s) f l h = tt

pub takes-bind : {A B : Type 0} {i j : ℕ} {g : Std A} {f : A → Std B} → Takes i g → ((a : A) → Takes j (f a)) → Takes (i + j) (g >>= f)
takes-bind {i = i} {j = j} {g = g} {f = f} h l =
    record {
      leaves = λ s p bs. bind-leaves i j (length bs) (g s p bs) f (h.leaves s p bs) l;
      level = λ s p bs. bind-level j (p + length bs) (g s p bs) f (h.level s p bs) l;
    }

pub takes-less : {A : Type 0} {g : Std A} → Takes 1 g → Takes 0 g
takes-less {g = g} h = record { leaves = λ s p bs. leaves-down 1 0 (length bs) (length bs) (g s p bs) (omega arith) (h.leaves s p bs); level = h.level }

pub takes-cond : {A : Type 0} {k : ℕ} {g h : Std A} (t : Bool) → Takes k g → Takes k h → Takes k (cond t g h)
takes-cond true a b = a
takes-cond false a b = b

pub takes-ret : {A : Type 0} {a : A} → Takes 0 (ret a)
takes-ret = record { leaves = λ s p bs. omega arith; level = λ s p bs. refl }

pub takes-fail : {A : Type 0} {k number told : ℕ} → Takes {A = A} k (fail number told)
takes-fail = record { leaves = λ s p bs. tt; level = λ s p bs. tt }

pub takes-change : {A : Type 0} {a : A} {f : Tables → Tables} → Takes 0 (change a f)
takes-change = record { leaves = λ s p bs. omega arith; level = λ s p bs. refl }

pub takes-lookup : {A : Type 0} (f : Tables → List A) (d : A) (i : ℕ) → Takes 0 (lookup f d i)
takes-lookup f d i =
    record { leaves = λ s p bs. by s p bs (ltb i (length (f s))); level = λ s p bs. place s p bs (ltb i (length (f s))) }
  where
    place : (s : Tables) (p : ℕ) (bs : List ℕ) (t : Bool) → Level (p + length bs) (cond t (ok (get_or (f s) i d) s p bs) (bad 4 i p s))
    place s p bs true = refl
    place s p bs false = tt

    by : (s : Tables) (p : ℕ) (bs : List ℕ) (t : Bool) → Leaves 0 (length bs) (cond t (ok (get_or (f s) i d) s p bs) (bad 4 i p s))
    by s p bs true = omega arith
    by s p bs false = tt

pub dated-takes : (bits : ℕ) → Takes 0 (dated bits)
dated-takes bits = by (refused_date bits)
  where
    by : (t : Bool) → Takes 0 (cond t (fail no.bad_date bits) (ret (plain (date bits))))
    by true = takes-fail
    by false = takes-ret

pub byte-takes : Takes 1 byte
byte-takes = record { leaves = one; level = place }
  where
    place : (s : Tables) (p : ℕ) (bs : List ℕ) → Level (p + length bs) (byte s p bs)
    place s p [] = (unfold byte in tt)
    place s p (b ∷ bs) = (unfold byte in omega arith)

    one : (s : Tables) (p : ℕ) (bs : List ℕ) → Leaves 1 (length bs) (byte s p bs)
    one s p [] = (unfold byte in tt)
    one s p (b ∷ bs) = (unfold byte in omega arith)

pub bytes-takes : (n : ℕ) → Takes 0 (bytes n)
unfolding bytes
bytes-takes zero = takes-ret
bytes-takes (suc n) = takes-less (takes-bind byte-takes (λ b. takes-bind (bytes-takes n) (λ bs. takes-ret)))

pub word-takes : (left n : ℕ) → Takes 1 (word left n)
unfolding word
word-takes zero n = takes-bind byte-takes (λ b. takes-ret)
word-takes (suc left) n = takes-bind byte-takes (λ b. takes-cond (ltb b (2 ^ 7)) takes-ret (takes-less (word-takes left (n * 2 ^ 7 + (b - 2 ^ 7)))))

pub chars-takes : (n : ℕ) → Takes 0 (chars n)
unfolding chars
chars-takes n = takes-bind (bytes-takes n) (λ t. takes-cond (valid_text t) takes-ret takes-fail)

pub entered-takes : (t : List ℕ) → Takes 0 (kept_text t)
unfolding kept_text
entered-takes [] = takes-ret
entered-takes (b ∷ t) = takes-change

pub text-of-takes : (z : Size) → Takes 0 (text_of z)
unfolding text_of
text-of-takes (Old i) = takes-lookup (λ s. s.texts) [] i
text-of-takes (New n) = takes-bind (chars-takes n) entered-takes

pub text-takes : Takes 1 text
unfolding text
text-takes = takes-bind (word-takes 3 0) (λ w. text-of-takes (size_says w))

pub opened-takes : Takes 0 opened
unfolding opened
opened-takes = record { leaves = λ s p bs. omega arith; level = λ s p bs. refl }

pub shut-takes : (i : ℕ) (t : Tree) → Takes 0 (shut i t)
unfolding shut
shut-takes i t = takes-change

pub finished-takes : (i : ℕ) (o : Option Tree) → Takes 0 (finished_object i o)
unfolding finished_object
finished-takes i none = takes-fail
finished-takes i (some t) = takes-ret

pub object-at-takes : (i : ℕ) → Takes 0 (object_at i)
unfolding object_at
object-at-takes i = takes-bind (takes-lookup (λ s. s.objects) none i) (finished-takes i)

pub names-takes : (n : ℕ) → Takes 0 (names n)
unfolding names
names-takes zero = takes-ret
names-takes (suc n) = takes-less (takes-bind text-takes (λ x. takes-bind (names-takes n) (λ xs. takes-ret)))

pub traits-takes : (n dynamic : ℕ) → Takes 0 (new_traits n dynamic)
unfolding new_traits
traits-takes n dynamic = takes-less (takes-bind text-takes (λ x. takes-bind (names-takes n) (λ xs. takes-change)))

module _ {v : Std Tree} (h : Takes 0 v) where
  pub trees-take : (n : ℕ) → Takes 0 (trees v n)
  unfolding trees
  trees-take zero = takes-ret
  trees-take (suc n) = takes-bind h (λ t. takes-bind (trees-take n) (λ ts. takes-ret))

  pub sealed-takes : (xs : List (List ℕ)) → Takes 0 (sealed v xs)
  unfolding sealed
  sealed-takes [] = takes-ret
  sealed-takes (x ∷ xs) = takes-bind h (λ t. takes-bind (sealed-takes xs) (λ ts. takes-ret))

  pub pairs-from-take : {more : Std Pairs} → Takes 0 more → (x : List ℕ) → Takes 0 (pairs_from v more x)
  unfolding pairs_from
  pairs-from-take m [] = takes-ret
  pairs-from-take m (b ∷ x) = takes-bind h (λ t. takes-bind m (λ ts. takes-ret))

  pub pairs-take : (f : ℕ) → Takes 0 (pairs v f)
  unfolding pairs
  pairs-take zero = takes-fail
  pairs-take (suc f) = takes-less (takes-bind text-takes (pairs-from-take (pairs-take f)))

  pub dynamics-take : (f y : ℕ) → Takes 0 (dynamics v f y)
  unfolding dynamics
  dynamics-take f zero = takes-ret
  dynamics-take f (suc y) = pairs-take f

  pub entries-take : (n : ℕ) → Takes 0 (entries v n)
  unfolding entries
  entries-take zero = takes-ret
  entries-take (suc n) = takes-bind h (λ a. takes-bind h (λ b. takes-bind (entries-take n) (λ es. takes-ret)))

  pub members-take : (f i : ℕ) (t : Traits) → Takes 0 (members v f i t)
  unfolding members
  members-take f i t = takes-bind (sealed-takes t.names) (λ xs. takes-bind (dynamics-take f t.dynamic) (λ ys. shut-takes i _))

  pub object-takes : (f : ℕ) (z : Shape) → Takes 0 (object_of v f z)
  unfolding object_of
  object-takes f (Object i) = object-at-takes i
  object-takes f (Known j) = takes-bind opened-takes (λ i. takes-bind (takes-lookup (λ s. s.traits) _ j) (members-take f i))
  object-takes f External = takes-bind opened-takes (λ i. takes-less (takes-bind text-takes (λ x. takes-fail {k = 0})))
  object-takes f (Inline n dynamic) = takes-bind opened-takes (λ i. takes-bind (traits-takes n dynamic) (members-take f i))

  pub new-takes : (f b : ℕ) (body : Body) (n : ℕ) → Takes 0 (new_of v f b body n)
  unfolding new_of
  new-takes f b k.xml n = takes-bind (chars-takes n) (λ t. takes-ret)
  new-takes f b k.date n = takes-bind (bytes-takes 8) (λ t. dated-takes (number_of 0 t))
  new-takes f b k.array n = takes-bind (pairs-take f) (λ xs. takes-bind (trees-take n) (λ ts. takes-ret))
  new-takes f b k.bytes n = takes-bind (bytes-takes n) (λ t. takes-ret)
  new-takes f b (k.raw w) n = takes-less (takes-bind byte-takes (λ flag. takes-bind (bytes-takes (n * width_of w)) (λ t. takes-ret)))
  new-takes f b k.objects n =
      takes-less (takes-bind byte-takes (λ flag. takes-less (takes-bind text-takes (λ x. takes-bind (trees-take n) (λ ts. takes-ret)))))
  new-takes f b k.dictionary n = takes-less (takes-bind byte-takes (λ flag. takes-bind (entries-take n) (λ es. takes-ret)))

  pub sized-takes : (f b : ℕ) (body : Body) (z : Size) → Takes 0 (sized_of v f b body z)
  unfolding sized_of
  sized-takes f b body (Old i) = object-at-takes i
  sized-takes f b body (New n) = takes-bind opened-takes (λ i. takes-bind (new-takes f b body n) (shut-takes i))

  pub marked-takes : (f b : ℕ) (z : Kind) → Takes 0 (marked v f b z)
  unfolding marked
  marked-takes f b k.leaf = takes-ret
  marked-takes f b k.integer = takes-less (takes-bind (word-takes 3 0) (λ w. takes-ret))
  marked-takes f b k.double = takes-bind (bytes-takes 8) (λ t. takes-ret)
  marked-takes f b k.string = takes-less (takes-bind text-takes (λ t. takes-ret))
  marked-takes f b k.object = takes-less (takes-bind (word-takes 3 0) (λ w. object-takes f (object_says w)))
  marked-takes f b (k.sized body) = takes-less (takes-bind (word-takes 3 0) (λ w. sized-takes f b body (size_says w)))

pub value-takes : (f d : ℕ) → Takes 1 (value f d)
unfolding value
value-takes f zero = takes-fail
value-takes f (suc d) =
    takes-bind byte-takes (λ b. takes-cond (ltb 0x11 b) takes-fail (marked-takes (takes-less (value-takes f d)) f b (follows b)))

-- ---- two readers are the same on at most n bytes

pub record Same {A : Type 0} (n : ℕ) (g h : Std A) : Type 0 where
  pub same : (s : Tables) (p : ℕ) (bs : List ℕ) → length bs ≤ n → g s p bs ≡ h s p bs

same_self : {A : Type 0} {n : ℕ} {g : Std A} → Same n g g
same_self = record { same = λ s p bs l. refl }

same-fewer : {A : Type 0} {n m : ℕ} {g h : Std A} → m ≤ n → Same n g h → Same m g h
same-fewer l e = record { same = λ s p bs q. e.same s p bs (omega arith) }

same_cond : {A : Type 0} {n : ℕ} {g h : Std A} (t : Bool) (f : Std A) → Same n g h → Same n (cond t f g) (cond t f h)
same_cond true f e = same_self
same_cond false f e = e

-- the same reader, and then, on what it leaves, the same ones
bind-same : {A B : Type 0} (k n m : ℕ) (r : ResultOf Tables ℕ A) (f g : A → Std B)
    → Leaves k n r → n ≤ m → ((a : A) (l : ℕ) → k + l ≤ m → Same l (f a) (g a)) → bind r f ≡ bind r g
bind-same k n m (ok a s p bs) f g l h e = (e a (length bs) (omega arith)).same s p bs (omega arith)
bind-same k n m (bad number told place s) f g l h e = refl

same_then : {A B : Type 0} {k n : ℕ} {u : Std A} {f g : A → Std B} → Takes k u → ((a : A) (l : ℕ) → k + l ≤ n → Same l (f a) (g a))
    → Same n (u >>= f) (u >>= g)
same_then {k = k} {n = n} {u = u} {f = f} {g = g} t e =
    record { same = λ s p bs l. bind-same k (length bs) n (u s p bs) f g (t.leaves s p bs) l e }

-- two readers that are the same, and then the same ones
same-bind : {A B : Type 0} {n : ℕ} {u v : Std A} {f g : A → Std B} → Takes 0 u → Same n u v → ((a : A) → Same n (f a) (g a))
    → Same n (u >>= f) (v >>= g)
same-bind {n = n} {u = u} {v = v} {f = f} {g = g} t d e =
    record { same = λ s p bs l. (same_then t (λ a m q. same-fewer (omega arith) (e a))).same s p bs l ∙ ap (λ r. bind r g) (d.same s p bs l) }

module _ {v w : Std Tree} (t : Takes 0 v) where
  module _ {n : ℕ} (e : Same n v w) where
    trees-same : (i : ℕ) → Same n (trees v i) (trees w i)
    unfolding trees
    trees-same zero = same_self
    trees-same (suc i) = same-bind t e (λ x. same-bind (trees-take t i) (trees-same i) (λ xs. same_self))

    sealed-same : (xs : List (List ℕ)) → Same n (sealed v xs) (sealed w xs)
    unfolding sealed
    sealed-same [] = same_self
    sealed-same (x ∷ xs) = same-bind t e (λ y. same-bind (sealed-takes t xs) (sealed-same xs) (λ ys. same_self))

    entries-same : (i : ℕ) → Same n (entries v i) (entries w i)
    unfolding entries
    entries-same zero = same_self
    entries-same (suc i) = same-bind t e (λ a. same-bind t e (λ b. same-bind (entries-take t i) (entries-same i) (λ es. same_self)))

    from-same : {x y : Std Pairs} → Takes 0 x → Same n x y → (key : List ℕ) → Same n (pairs_from v x key) (pairs_from w y key)
    unfolding pairs_from
    from-same h d [] = same_self
    from-same h d (b ∷ key) = same-bind t e (λ a. same-bind h d (λ ps. same_self))

  pub pairs-same : (f g n : ℕ) → n < f → n < g → Same n v w → Same n (pairs v f) (pairs w g)
  unfolding pairs
  pairs-same zero g n p q e = absurd (omega arith)
  pairs-same (suc f) zero n p q e = absurd (omega arith)
  pairs-same (suc f) (suc g) n p q e =
      same_then text-takes (λ x l h. from-same (same-fewer (omega arith) e) (pairs-take t f)
      (pairs-same f g l (omega arith) (omega arith) (same-fewer (omega arith) e)) x)

  module _ (f g n : ℕ) (p : n < f) (q : n < g) (e : Same n v w) where
    dynamics-same : (y : ℕ) → Same n (dynamics v f y) (dynamics w g y)
    unfolding dynamics
    dynamics-same zero = same_self
    dynamics-same (suc y) = pairs-same f g n p q e

    members-same : (i : ℕ) (x : Traits) → Same n (members v f i x) (members w g i x)
    unfolding members
    members-same i x =
        same-bind (sealed-takes t x.names) (sealed-same e x.names)
        (λ xs. same-bind (dynamics-take t f x.dynamic) (dynamics-same x.dynamic) (λ ys. same_self))

    object-same : (z : Shape) → Same n (object_of v f z) (object_of w g z)
    unfolding object_of
    object-same (Object i) = same_self
    object-same (Known j) =
        same-bind opened-takes same_self (λ i. same-bind (takes-lookup (λ s. s.traits) _ j) same_self (λ x. members-same i x))
    object-same External = same_self
    object-same (Inline m dynamic) = same-bind opened-takes same_self (λ i. same-bind (traits-takes m dynamic) same_self (λ x. members-same i x))

    new-same : (b : ℕ) (body : Body) (m : ℕ) → Same n (new_of v f b body m) (new_of w g b body m)
    unfolding new_of
    new-same b k.xml m = same_self
    new-same b k.date m = same_self
    new-same b k.array m = same-bind (pairs-take t f) (pairs-same f g n p q e) (λ xs. same-bind (trees-take t m) (trees-same e m) (λ ts. same_self))
    new-same b k.bytes m = same_self
    new-same b (k.raw x) m = same_self
    new-same b k.objects m =
        same-bind (takes-less byte-takes) same_self (λ flag. same-bind (takes-less text-takes) same_self
        (λ x. same-bind (trees-take t m) (trees-same e m) (λ ts. same_self)))
    new-same b k.dictionary m =
        same-bind (takes-less byte-takes) same_self (λ flag. same-bind (entries-take t m) (entries-same e m) (λ es. same_self))

    sized_same : (b : ℕ) (body : Body) (z : Size) → Same n (sized_of v f b body z) (sized_of w g b body z)
    unfolding sized_of
    sized_same b body (Old i) = same_self
    sized_same b body (New m) = same-bind opened-takes same_self (λ i. same-bind (new-takes t f b body m) (new-same b body m) (λ x. same_self))

    marked-same : (b : ℕ) (z : Kind) → Same n (marked v f b z) (marked w g b z)
    unfolding marked
    marked-same b k.leaf = same_self
    marked-same b k.integer = same_self
    marked-same b k.double = same_self
    marked-same b k.string = same_self
    marked-same b k.object = same-bind (takes-less (word-takes 3 0)) same_self (λ x. object-same (object_says x))
    marked-same b (k.sized body) = same-bind (takes-less (word-takes 3 0)) same_self (λ x. sized_same b body (size_says x))

-- ---- the fuels

pub same-value : (f g d e n : ℕ) → n < f → n < g → n < d → n < e → Same n (value f d) (value g e)
unfolding value
same-value f g zero e n hf hg hd he = absurd (omega arith)
same-value f g (suc d) zero n hf hg hd he = absurd (omega arith)
same-value f g (suc d) (suc e) n hf hg hd he =
    same_then byte-takes (λ b m l. same_cond (ltb 0x11 b) (fail 3 b)
    (marked-same (takes-less (value-takes f d)) f g m (omega arith) (omega arith)
    (same-value f g d e m (omega arith) (omega arith) (omega arith) (omega arith)) b (follows b)))

-- all fuels that are more than the bytes left read the same
pub value_fuel : (f d g e : ℕ) (s : Tables) (p : ℕ) (bs : List ℕ) → length bs < f → length bs < d → length bs < g → length bs < e
    → value f d s p bs ≡ value g e s p bs
value_fuel f d g e s p bs hf hd hg he = (same-value f g d e (length bs) hf hg hd he).same s p bs (omega arith)

pub standard_fuel : (f d : ℕ) (bs : List ℕ) → length bs < f → length bs < d → value f d no_tables 0 bs ≡ standard bs
unfolding standard
standard_fuel f d bs hf hd = value_fuel f d (suc (length bs)) (suc (length bs)) no_tables 0 bs hf hd (omega arith) (omega arith)
