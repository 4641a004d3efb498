-- What the answers of a reading's functions cite: loans that keep their lengths, and readers one after the other.
use mathlib.Core.Path.{◌≡◌, refl, sym, ap, ◌∙◌}
use mathlib.Core.List.{List}
use Prim.Native.Nat.{ℕ}
use lib.ListN.{length}
use Rattle.std.specs.Prelude.{Result as Answer, Ok, Err, IsErr, IsErrAnd, MatchResult}
use Rattle.std.proofs.lemmas.Result.{err_from_is_err_and}
use Rattle.std.specs.Borrow.{Bor}
use Rattle.rows.specs.Memory.{Memory, memory}
use Rattle.rows.specs.Lent.{lent_of}
use Rattle.format.specs.declared.Refusal.{Refusal}
use Rattle.decide.specs.Outcomes.{answer_in, stopped}
use Rattle.decide.specs.Spared.{NoLoan}
use Rattle.format.specs.Decide.{give}
use Rattle.rows.specs.declared.Cursor.{Cursor}
use Rattle.format.specs.Reading.{Reader, ◌>>=◌, ret}
use Rattle.scan.specs.declared.Reading.{Reading}
use Rattle.scan.specs.Reads.{memory_in, result, reads, Same, Reads}
use Rattle.scan.proofs.Then as out

-- ---- a loan that is as long as before

module _ (R B T O U N : List ℕ) where
  pub rows-long : (X : List ℕ) → length X ≡ length R → lent_of (memory X B T O U N) ≡ lent_of (memory R B T O U N)
  unfolding lent_of
  rows-long X e = rw e

  pub store-long : (X : List ℕ) → length X ≡ length B → lent_of (memory R X T O U N) ≡ lent_of (memory R B T O U N)
  unfolding lent_of
  store-long X e = rw e

  pub strings-long : (X : List ℕ) → length X ≡ length T → lent_of (memory R B X O U N) ≡ lent_of (memory R B T O U N)
  unfolding lent_of
  strings-long X e = rw e

  pub objects-long : (X : List ℕ) → length X ≡ length O → lent_of (memory R B T X U N) ≡ lent_of (memory R B T O U N)
  unfolding lent_of
  objects-long X e = rw e

  pub traits-long : (X : List ℕ) → length X ≡ length U → lent_of (memory R B T O X N) ≡ lent_of (memory R B T O U N)
  unfolding lent_of
  traits-long X e = rw e

  pub names-long : (X : List ℕ) → length X ≡ length N → lent_of (memory R B T O U X) ≡ lent_of (memory R B T O U N)
  unfolding lent_of
  names-long X e = rw e

-- ---- one after the other

pub same : (g : Reading) → Same g g
same g = (refl, (refl, refl))

pub same-then : (g g' g'' : Reading) → Same g g' → Same g' g'' → Same g g''
same-then g g' g'' p q = (q.0 ∙ p.0, (q.1.0 ∙ p.1.0, q.1.1 ∙ p.1.1))

module _ {A B : Type 0} (f : Reader A) (h : A → Reader B) {g g' : Reading} where
  -- the first gave a: the second goes on from what it left
  pub then : {g'' : Reading} {a : A} {y : Answer B Refusal} → Reads (Ok a) g g' f → Reads y g' g'' (h a) → Reads y g g'' (f >>= h)
  then {g''} {a} {y} p q =
      record {
        read =
            out.then f h (memory_in g) (memory_in g') g.cursor g.message.now (give a tt g'.cursor) a g'.cursor
            (result (answer_in y g''.cursor) (memory_in g'') g.message.now) refl p.read
            (ap (λ (m : Bor (List ℕ)). result (answer_in y g''.cursor) (memory_in g'') m.now) (sym p.same.0) ∙ q.read
            ∙ ap (λ (m : Bor (List ℕ)). reads (h a) (memory_in g') g'.cursor m.now) p.same.0);
        same = same-then g g' g'' p.same q.same;
      }

  -- the first refused: so does the whole
  pub fails : {e : Refusal} → Reads {A = A} (Err e) g g' f → Reads {A = B} (Err e) g g' (f >>= h)
  fails {e} q =
      record {
        read = out.refused f h (memory_in g) (memory_in g') g.cursor g.message.now (stopped e) e e refl refl q.read;
        same = q.same;
      }

-- a reader that a value chooses, at an equal value
pub chosen : {X A : Type 0} (f : X → Reader A) {a b : X} {g g' : Reading} {y : Answer A Refusal} → a ≡ b → Reads y g g' (f a) → Reads y g g' (f b)
chosen f {a} {b} {g} {g'} {y} p q = record { read = out.chosen f (memory_in g) g.cursor g.message.now _ p q.read; same = q.same }

-- nothing is left to read
pub given : {A : Type 0} {a : A} {g : Reading} → Reads (Ok a) g g (ret a)
given {A} {a} {g} = record { read = out.returned a (memory_in g) g.cursor g.message.now; same = same g }

-- a reader that reads as another
pub alike : {A : Type 0} {f f' : Reader A} {g g' : Reading} {y : Answer A Refusal}
    → reads f (memory_in g) g.cursor g.message.now ≡ reads f' (memory_in g) g.cursor g.message.now → Reads y g g' f → Reads y g g' f'
alike p q = record { read = q.read ∙ p; same = q.same }

-- a reader that the cursor chooses
pub from-cursor : {A : Type 0} (f : Cursor → Reader A) {g g' : Reading} {y : Answer A Refusal} → Reads y g g' (f g.cursor) → Reads y g g' (λ m c. f c m c)
from-cursor f {g} q = record { read = out.from-cursor f (memory_in g) g.cursor g.message.now _ q.read; same = q.same }

-- what the exit of a `?` gives back is the refusal
pub out-err : {A : Type 0} {f : Reader A} {g g' : Reading} {x : Answer A Refusal} {e : Refusal} → IsErr x × IsErrAnd x (λ d. d ≡ e) → Reads (Err e) g g' f → Reads x g g' f
out-err {x = x} p q = let o = err_from_is_err_and x p.1 in rw (o.1, o.2) q

-- ---- where a refusal leaves the cursor

-- a refusal says nothing of the cursor
answer-at : {A : Type 0} (x : Answer A Refusal) (b c c' : Cursor) → MatchResult x (λ a. c' ≡ c) (λ r. c' ≡ b) → answer_in x c' ≡ answer_in x c
answer-at (Ok a) b c c' e = ap (give a tt) e
answer-at (Err r) b c c' e = refl

-- so what was read stands where the cursor of a refusal is put back
pub settled : {A : Type 0} {f : Reader A} {g g' g'' : Reading} {x y : Answer A Refusal} (b : Cursor) → Reads x g g' f → y ≡ x → NoLoan (memory_in g') (memory_in g'') → Same g' g''
    → MatchResult x (λ a. g''.cursor ≡ g'.cursor) (λ r. g''.cursor ≡ b) → Reads y g g'' f
settled {g} {g'} {g''} {x} b p e m s c =
    let w : memory_in g'' ≡ memory_in g' = cc in
    rw e (record {
      read =
          ap (λ (m : Memory). result (answer_in x g''.cursor) m g.message.now) w
          ∙ ap (λ o. result o (memory_in g') g.message.now) (answer-at x b g'.cursor g''.cursor c) ∙ p.read;
      same = same-then g g' g'' p.same s;
    })

-- ---- what is left to read in a loop

-- of the reader f, begun at g, the reader f' is left at g'
pub record Left {A : Type 0} (f' f : Reader A) (g g' : Reading) : Type 0 where
  pub rest : reads f' (memory_in g') g'.cursor g.message.now ≡ reads f (memory_in g) g.cursor g.message.now
  pub same : Same g g'

pub left-all : {A : Type 0} {f f' : Reader A} (g : Reading)
    → reads f' (memory_in g) g.cursor g.message.now ≡ reads f (memory_in g) g.cursor g.message.now → Left f' f g g
left-all g e = record { rest = e; same = same g }

module _ {A : Type 0} {f f' : Reader A} {g g' : Reading} where
  -- what is left is read
  pub left-read : {g'' : Reading} {y : Answer A Refusal} → Left f' f g g' → Reads y g' g'' f' → Reads y g g'' f
  left-read {g''} {y} p q =
      record {
        read =
            ap (λ (m : Bor (List ℕ)). result (answer_in y g''.cursor) (memory_in g'') m.now) (sym p.same.0) ∙ q.read
            ∙ ap (λ (m : Bor (List ℕ)). reads f' (memory_in g') g'.cursor m.now) p.same.0 ∙ p.rest;
        same = same-then g g' g'' p.same q.same;
      }

  -- what is left may be said in another way
  pub left-as : {f'' : Reader A} → ((m : Memory) (c : Cursor) (s : List ℕ) → reads f'' m c s ≡ reads f' m c s) → Left f' f g g' → Left f'' f g g'
  left-as e p = record { rest = e (memory_in g') g'.cursor g.message.now ∙ p.rest; same = p.same }

-- a part of what is left is read
pub left-then : {A B : Type 0} {f : Reader B} (p : Reader A) (h : A → Reader B) {g g' g'' : Reading} {a : A} → Left (p >>= h) f g g' → Reads (Ok a) g' g'' p → Left (h a) f g g''
left-then p h {g} {g'} {g''} {a} l q =
    record {
      rest =
          out.then p h (memory_in g') (memory_in g'') g'.cursor g.message.now (give a tt g''.cursor) a g''.cursor
          (reads (h a) (memory_in g'') g''.cursor g.message.now) refl
          (ap (λ (m : Bor (List ℕ)). result (give a tt g''.cursor) (memory_in g'') m.now) (sym l.same.0) ∙ q.read
          ∙ ap (λ (m : Bor (List ℕ)). reads p (memory_in g') g'.cursor m.now) l.same.0)
          refl
          ∙ l.rest;
      same = same-then g g' g'' l.same q.same;
    }
