-- What a finished row shows, as the reading leaves it: one form for each kind of row. It lasts while rows and store grow.
use mathlib.Core.Path.{◌≡◌, ◌∙◌}
use mathlib.Core.Bool.{true, false}
use mathlib.Core.List.{List, [], ◌∷◌}
use Prim.Native.Nat.{ℕ, suc, ◌+◌, ◌*◌, ◌<◌, ◌≤◌}
use native.Mathlib.Omega.{arith}
use lib.Dec.{T}
use lib.ListN.{get_or}
use Rattle.rows.specs.declared.Span.{Span}
use Rattle.rows.specs.declared.Key.{Key}
use Rattle.rows.specs.Memory.{span, col_kind, col_key_mark, col_key_size, col_end}
use Rattle.utf8.specs.Grammar.{valid_text}
use Rattle.wire.specs.Date.{refused_date}
use Rattle.format.specs.Standard.{is_star}
use Rattle.format.specs.Unfold.{part}
use Rattle.format.specs.RowTest.{is_object, signed_fits, Given, keyless, any_key, full_key, mark_of, is_filled}
use Rattle.meaning.proofs.Ground.{Land, at, Done, Ext, done-ext}
use Rattle.rows.specs.Memory.{row_width}
use Rattle.rows.specs.Kinds.{kind_byte_array}
use Rattle.rows.specs.Kinds.{kind_xml}

-- ---- spans

-- an empty one begins at 0; all lie in the used store, of u bytes
pub record WithinIn (u : ℕ) (s : Span) : Type 0 where
  pub inside : s.begin + s.size ≤ u
  pub empty : s.size ≡ 0 → s.begin ≡ 0

pub record ValidIn (B : List ℕ) (u : ℕ) (s : Span) : Type 0 where
  pub within : WithinIn u s
  pub text : valid_text (part B s.begin s.size) ≡ true

abbrev pub Within : Land → Span → Type 0
Within L s = WithinIn L.full s

abbrev pub Valid : Land → Span → Type 0
Valid L s = ValidIn L.store L.full s

-- a class: none, or a valid text of which something is asked
pub data Class (L : Land) (P : Span → Type 0) : ℕ → Span → Type 0 where
  classless : Class L P 0 (span 0 0)
  class : {s : Span} → Valid L s → P s → Class L P 1 s

-- an object's is not empty, a vector's is not `*`
abbrev pub Full : Span → Type 0
Full s = 0 < s.size

abbrev pub Other : Land → Span → Type 0
Other L s = is_star (part L.store s.begin s.size) ≡ false

-- a key as it is given
pub data MeetsIn (B : List ℕ) (u : ℕ) : Given → Key → Type 0 where
  bare : MeetsIn B u keyless (record { mark = 0; begin = 0; size = 0 })
  named : {b z : ℕ} → ValidIn B u (span b z) → MeetsIn B u any_key (record { mark = 1; begin = b; size = z })
  long : {b z : ℕ} → ValidIn B u (span b z) → 0 < z → MeetsIn B u full_key (record { mark = 1; begin = b; size = z })

abbrev pub Meets : Land → Given → Key → Type 0
Meets L g k = MeetsIn L.store L.full g k

-- ---- children

-- the mark of row i is the one given, and its key is not empty where it may not be
pub record Marked (L : Land) (g : Given) (i : ℕ) : Type 0 where
  pub mark : at L i col_key_mark ≡ mark_of g
  pub size : T (is_filled g) → 0 < at L i col_key_size

-- n rows from row k up to row e, each beginning where the one before ends, all given alike
pub data Run (L : Land) (g : Given) : ℕ → ℕ → ℕ → Type 0 where
  ends : {k : ℕ} → Run L g k k 0
  goes : {k e n : ℕ} → Done L k → Marked L g k → Run L g (at L k col_end) e n → Run L g k e (suc n)

-- ---- rows

-- a number that its kind may have, where neither body nor children are
pub data Number : ℕ → ℕ → Type 0 where
  undefined : Number 1 0
  null : Number 2 0
  boolean : {v : ℕ} → v ≤ 1 → Number 3 v
  integer : {v : ℕ} → signed_fits 28 v ≡ true → Number 4 v
  double : {v : ℕ} → Number 5 v
  date : {v : ℕ} → refused_date v ≡ false → Number 8 v

pub data Texts : ℕ → Type 0 where
  string : Texts 6
  xml_document : Texts 7
  xml : Texts kind_xml

-- the bytes of an entry
pub data Raws : ℕ → ℕ → Type 0 where
  ints : Raws 13 4
  uints : Raws 14 4
  doubles : Raws 15 8

-- row i, by its kind and the columns from the body on
pub data Form (L : Land) (i : ℕ) : ℕ → List ℕ → Type 0 where
  number : {k v e : ℕ} → Number k v → e ≡ suc i → Form L i k (0 ∷ 0 ∷ 0 ∷ 0 ∷ v ∷ 0 ∷ 0 ∷ e ∷ [])
  text : {k b z e : ℕ} → Texts k → Valid L (span b z) → e ≡ suc i → Form L i k (b ∷ z ∷ 0 ∷ 0 ∷ 0 ∷ 0 ∷ 0 ∷ e ∷ [])
  bytes : {b z e : ℕ} → Within L (span b z) → e ≡ suc i → Form L i kind_byte_array (b ∷ z ∷ 0 ∷ 0 ∷ 0 ∷ 0 ∷ 0 ∷ e ∷ [])
  raw : {k w b z f n e : ℕ} → Raws k w → Within L (span b z) → z ≡ w * n → f ≤ 1 → e ≡ suc i → Form L i k (b ∷ z ∷ 0 ∷ f ∷ 0 ∷ n ∷ 0 ∷ e ∷ [])
  array : {x y mid e : ℕ} → Run L full_key (suc i) mid x → Run L keyless mid e y → Form L i 9 (0 ∷ 0 ∷ 0 ∷ 0 ∷ 0 ∷ x ∷ y ∷ e ∷ [])
  object : {b z mark x y mid e : ℕ} → Class L Full mark (span b z) → Run L any_key (suc i) mid x → Run L full_key mid e y
      → Form L i 10 (b ∷ z ∷ mark ∷ 0 ∷ 0 ∷ x ∷ y ∷ e ∷ [])
  vector : {b z mark f x e : ℕ} → Class L (Other L) mark (span b z) → f ≤ 1 → Run L keyless (suc i) e x
      → Form L i 16 (b ∷ z ∷ mark ∷ f ∷ 0 ∷ x ∷ 0 ∷ e ∷ [])
  dictionary : {f x e : ℕ} → f ≤ 1 → Run L keyless (suc i) e (2 * x) → Form L i 17 (0 ∷ 0 ∷ 0 ∷ f ∷ 0 ∷ x ∷ 0 ∷ e ∷ [])
  reference : {t e : ℕ} → t < i → Done L t → at L t col_end ≤ i → is_object (at L t col_kind) ≡ true → e ≡ suc i
      → Form L i 18 (0 ∷ 0 ∷ 0 ∷ 0 ∷ t ∷ 0 ∷ 0 ∷ e ∷ [])

-- row i has the form of its kind, and the key that it is given
pub record Sound (L : Land) (i : ℕ) : Type 0 where
  pub kind : ℕ
  pub given : Given
  pub key : Key
  pub body : List ℕ
  pub top : at L i col_end ≤ L.used
  pub meets : Meets L given key
  pub form : Form L i kind body
  pub row : (j : ℕ) → j < row_width → at L i j ≡ get_or (kind ∷ key.mark ∷ key.begin ∷ key.size ∷ body) j 0

-- ---- it lasts

module _ {L L' : Land} (x : Ext L L') where
  pub within-ext : {s : Span} → Within L s → Within L' s
  within-ext h = let u = x.fill in let i = h.inside in record { inside = omega arith; empty = h.empty }

  pub valid-ext : {s : Span} → Valid L s → Valid L' s
  valid-ext {s} h = record { within = within-ext h.within; text = rw (x.parts s.begin s.size h.within.inside) h.text }

  pub meets-ext : {g : Given} {k : Key} → Meets L g k → Meets L' g k
  meets-ext bare = bare
  meets-ext (named h) = named (valid-ext h)
  meets-ext (long h l) = long (valid-ext h) l

  pub run-ext : {g : Given} {k e n : ℕ} → Run L g k e n → Run L' g k e n
  run-ext ends = ends
  run-ext (goes {k = k} {e = e} {n = n} d m r) =
      goes {e = e} {n = n} (done-ext x k d) (record {
        mark = x.cols k col_key_mark d (omega arith) ∙ m.mark;
        size = λ t. rw (x.cols k col_key_size d (omega arith)) (m.size t);
      })
      (rw (x.cols k col_end d (omega arith)) (run-ext r))

  pub class-full : {mark : ℕ} {s : Span} → Class L Full mark s → Class L' Full mark s
  class-full classless = classless
  class-full (class v h) = class (valid-ext v) h

  pub class-other : {mark : ℕ} {s : Span} → Class L (Other L) mark s → Class L' (Other L') mark s
  class-other classless = classless
  class-other (class {s = s} v h) = class (valid-ext v) (rw (x.parts s.begin s.size v.within.inside) h)

  pub form-ext : {i k : ℕ} {cs : List ℕ} → Form L i k cs → Form L' i k cs
  form-ext (number a e) = number a e
  form-ext (text a v e) = text a (valid-ext v) e
  form-ext (bytes v e) = bytes (within-ext v) e
  form-ext (raw a v z f e) = raw a (within-ext v) z f e
  form-ext (array a b) = array (run-ext a) (run-ext b)
  form-ext (object c a b) = object (class-full c) (run-ext a) (run-ext b)
  form-ext (vector c f a) = vector (class-other c) f (run-ext a)
  form-ext (dictionary f a) = dictionary f (run-ext a)
  form-ext (reference {t = t} l d h o e) =
      reference l (done-ext x t d) (rw (x.cols t col_end d (omega arith)) h) (rw (x.cols t col_kind d (omega arith)) o) e

-- children end behind where they begin
pub run_up : {L : Land} {g : Given} {k e n : ℕ} → Run L g k e n → k ≤ e
run_up ends = omega arith
run_up (goes d m r) = let u = run_up r in let l = d.0 in omega arith

pub run-as : {L : Land} {g : Given} {k l e n x : ℕ} → Run L g k e n → k ≡ l → n ≡ x → Run L g l e x
run-as r p q = rw (p, q) at r

-- one more behind them
pub run_more : {L : Land} {g : Given} {k e n : ℕ} → Run L g k e n → Done L e → Marked L g e → Run L g k (at L e col_end) (suc n)
run_more ends d m = goes d m ends
run_more (goes a b r) d m = goes a b (run_more r d m)

-- so does a row
form-up : {L : Land} {i k : ℕ} {cs : List ℕ} → Form L i k cs → i < get_or cs 7 0
form-up (number a e) = omega arith
form-up (text a v e) = omega arith
form-up (bytes v e) = omega arith
form-up (raw a v z f e) = omega arith
form-up (array a b) = let p = run_up a in let q = run_up b in omega arith
form-up (object c a b) = let p = run_up a in let q = run_up b in omega arith
form-up (vector c f a) = run_up a
form-up (dictionary f a) = run_up a
form-up (reference l d h o e) = omega arith

module _ {L : Land} {i : ℕ} (s : Sound L i) where
  pub sound-done : Done L i
  sound-done = (rw (s.row col_end (omega arith)) (form-up s.form), s.top)

pub sound-ext : {L L' : Land} → Ext L L' → {i : ℕ} → Sound L i → Sound L' i
sound-ext {L} {L'} x {i} s =
    let d = sound-done s in
    let u = x.up in
    let t = s.top in
    record {
      kind = s.kind;
      given = s.given;
      key = s.key;
      body = s.body;
      top = rw (x.cols i col_end d (omega arith)) (omega arith);
      meets = meets-ext x s.meets;
      form = form-ext x s.form;
      row = λ j l. x.cols i j d l ∙ s.row j l;
    }
