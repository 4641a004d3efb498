-- Readers one after the other, by the answers of their functions.
use mathlib.Core.Path.{◌≡◌, refl, sym, ap, ◌∙◌}
use mathlib.Core.List.{List}
use Prim.Native.Nat.{ℕ}
use lib.ListN.{length-replicate, drop}
use Rattle.rows.specs.declared.Cursor.{Cursor}
use Rattle.rows.specs.Memory.{Memory, zeroed}
use Rattle.format.specs.declared.Refusal.{Refusal}
use Rattle.decide.specs.Outcomes.{stopped}
use Rattle.format.specs.Decide.{Out, give}
use Rattle.format.specs.Reading.{Result, ok, bad, Reader, bind, ◌>>=◌, ret}
use Rattle.scan.specs.Reads.{result, cleared, reads}

pub zeroed-twice : (m : Memory) → zeroed (zeroed m) ≡ zeroed m
unfolding zeroed
zeroed-twice m = rw (length-replicate, length-replicate, length-replicate, length-replicate, length-replicate, length-replicate)

cleared-bind : {A B : Type 0} (r : Result A) (g : A → Reader B) → cleared (bind r g) ≡ cleared (bind (cleared r) g)
unfolding cleared
cleared-bind (ok a m c bs) g = refl
cleared-bind (bad n told place m) g = sym (ap (bad n told place) (zeroed-twice m))

module _ {A B : Type 0} (f : Reader A) (g : A → Reader B) (m m' : Memory) (c : Cursor) (s : List ℕ) where
  on : (o : Out Unit A) → result o m' s ≡ reads f m c s → reads (f >>= g) m c s ≡ cleared (bind (result o m' s) g)
  unfolding reads
  on o e = cleared-bind (f m c (drop c.at s)) g ∙ ap (λ r. cleared (bind r g)) (sym e)

  -- the first gave a: the second goes on from what it left
  pub then : (o : Out Unit A) (a : A) (c' : Cursor) (r : Result B) → o ≡ give a tt c' → result o m' s ≡ reads f m c s → r ≡ reads (g a) m' c' s
      → r ≡ reads (f >>= g) m c s
  unfolding result reads
  then o a c' r p e q = q ∙ sym (on o e ∙ ap (λ o. cleared (bind (result o m' s) g)) p)

  -- the first refused: so does the whole
  pub refused : (o : Out Unit A) (x y : Refusal) → o ≡ stopped y → x ≡ y → result o m' s ≡ reads f m c s → result (stopped x) m' s ≡ reads (f >>= g) m c s
  unfolding result cleared
  refused o x y p q e =
      ap (λ x. result (stopped x) m' s) q
      ∙ sym (on o e ∙ ap (λ o. cleared (bind (result o m' s) g)) p ∙ ap (bad y.number y.told y.place) (zeroed-twice m'))

pub answered : {A : Type 0} (m : Memory) (s : List ℕ) (r : Result A) (o : Out Unit A) (y : Refusal) → o ≡ stopped y → result (stopped y) m s ≡ r → result o m s ≡ r
answered m s r o y p e = ap (λ o. result o m s) p ∙ e

-- the first refused, and its answer is the answer of the whole
pub passed : {A : Type 0} (f : Reader A) (g : A → Reader A) (m m' : Memory) (c : Cursor) (s : List ℕ) (o : Out Unit A) (y : Refusal)
    → o ≡ stopped y → result o m' s ≡ reads f m c s → result o m' s ≡ reads (f >>= g) m c s
passed f g m m' c s o y p e = answered m' s _ o y p (refused f g m m' c s o y y p refl e)

-- it was read already
pub returned : {A : Type 0} (a : A) (m : Memory) (c : Cursor) (s : List ℕ) → result (give a tt c) m s ≡ reads (ret a) m c s
unfolding result reads cleared
returned a m c s = refl

-- a reader that a value chooses, at an equal value
pub chosen : {X A : Type 0} (f : X → Reader A) (m : Memory) (c : Cursor) (s : List ℕ) {x y : X} (r : Result A) → x ≡ y → r ≡ reads (f x) m c s → r ≡ reads (f y) m c s
chosen f m c s r p e = e ∙ ap (λ x. reads (f x) m c s) p

-- a reader that the cursor chooses
pub from-cursor : {A : Type 0} (f : Cursor → Reader A) (m : Memory) (c : Cursor) (s : List ℕ) (r : Result A) → r ≡ reads (f c) m c s → r ≡ reads (λ m c. f c m c) m c s
unfolding reads
from-cursor f m c s r e = e
