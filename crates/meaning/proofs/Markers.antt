-- The kinds that the markers open, and their first rows.
use mathlib.Core.Path.{◌≡◌, refl}
use mathlib.Core.Bool.{true}
use mathlib.Core.List.{List, [], ◌∷◌}
use Prim.Native.Nat.{ℕ, zero, suc, ◌+◌, ◌<◌, ◌≤◌}
use native.Mathlib.Omega.{arith}
use borrow.Author.Tests.{leb-true, le-ltb, ne_eqb}
use lib.Dec.{leb}
use lib.ListN.{length, get_or}
use Rattle.rows.specs.declared.Key.{Key}
use Rattle.format.specs.Decide as decide
use Rattle.format.specs.Decide.{four, eight, new_row, kind_of}
use Rattle.format.specs.RowTest.{is_object}
use Rattle.format.proofs.Tests.{both}
use Rattle.rows.specs.Kinds.{kind_byte_array}
use Rattle.rows.specs.Kinds.{kind_xml}

-- a body of a kind
pub data Opens : decide.Body → ℕ → Type 0 where
  of_xml_document : Opens decide.xml 7
  of_date : Opens decide.date 8
  of_array : Opens decide.array 9
  of_xml : Opens decide.xml kind_xml
  of_bytes : Opens decide.bytes kind_byte_array
  of_ints : Opens (decide.raw four) 13
  of_uints : Opens (decide.raw four) 14
  of_doubles : Opens (decide.raw eight) 15
  of_objects : Opens decide.objects 16
  of_dictionary : Opens decide.dictionary 17

pub data Marks : ℕ → decide.Kind → Type 0 where
  at_undefined : Marks 0 decide.leaf
  at_null : Marks 1 decide.leaf
  at_false : Marks 2 decide.leaf
  at_true : Marks 3 decide.leaf
  at_integer : Marks 4 decide.integer
  at_double : Marks 5 decide.double
  at_string : Marks 6 decide.string
  at_object : Marks 10 decide.object
  at_body : {body : decide.Body} {b : ℕ} → Opens body b → Marks b (decide.sized body)

-- the kinds of a list, from marker n on
infixr 5 ◌and◌
data Each : ℕ → List decide.Kind → Type 0 where
  no_more : {n : ℕ} → Each n []
  ◌and◌ : {n : ℕ} {k : decide.Kind} {ks : List decide.Kind} → Marks n k → Each (suc n) ks → Each n (k ∷ ks)

each_at : {n : ℕ} {ks : List decide.Kind} → Each n ks → (i : ℕ) → i < length ks → Marks (n + i) (get_or ks i decide.leaf)
each_at no_more i h = absurd (omega arith)
each_at (◌and◌ {n = n} p ps) zero h = let e : n + 0 ≡ n = omega arith in rw e p
each_at (◌and◌ {n = n} p ps) (suc i) h = let e : n + suc i ≡ suc n + i = omega arith in rw e (each_at ps i (omega arith))

pub marks : (b : ℕ) → b ≤ 17 → Marks b (kind_of b)
unfolding kind_of
marks b h =
    let e : 0 + b ≡ b = omega arith in
    rw e at (each_at {n = 0} (
    at_undefined and at_null and at_false and at_true and at_integer and at_double and at_string and at_body of_xml_document and at_body of_date and
    at_body of_array and at_object and at_body of_xml and at_body of_bytes and at_body of_ints and at_body of_uints and
    at_body of_doubles and at_body of_objects and at_body of_dictionary and no_more) b (omega arith))

pub is-object : {body : decide.Body} {q : ℕ} → Opens body q → is_object q ≡ true
is-object of_xml_document = refl
is-object of_xml = refl
is-object of_date = refl
is-object of_array = refl
is-object of_bytes = refl
is-object of_ints = refl
is-object of_uints = refl
is-object of_doubles = refl
is-object of_objects = refl
is-object of_dictionary = refl

pub body-high : {body : decide.Body} {q : ℕ} → Opens body q → 4 ≤ q
body-high {q = q} t = let h = leb-true 7 q (both (leb 7 q) (leb q 17) (is-object t)).0 in omega arith

-- the row of a value that does not end with its marker
pub new-row : (b : ℕ) (k : Key) (row : ℕ) → 4 ≤ b → new_row b k row ≡ b ∷ k.mark ∷ k.begin ∷ k.size ∷ 0 ∷ 0 ∷ 0 ∷ 0 ∷ 0 ∷ 0 ∷ 0 ∷ 0 ∷ []
unfolding new_row
new-row b k row h = rw (le-ltb b 3 (omega arith), ne_eqb b 3 (λ e. omega arith), le-ltb b 4 h)
