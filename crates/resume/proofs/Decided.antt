-- A decision on a loan, by the answer of its function and the loan that this left.
use Rattle.std.proofs.Common.{◌≡◌, Result, Ok, Err, Bool, true, false, cond, List, ℕ, leb, ltb, length, refl, sym, ap, ◌∙◌, arith}
use Rattle.rows.specs.declared.Cursor.{Cursor}
use Rattle.rows.specs.declared.Span.{Span}
use Rattle.rows.specs.Memory.{Memory, memory, row_used, span_used}
use Rattle.wire.specs.Put.{With1, with1}
use Rattle.wire.specs.Sign.{integer_of, column_of}
use Rattle.wire.specs.Date.{refused_date}
use Rattle.format.specs.Decide.{Out, stop, give, lift, on_rows, referred, Width}
use Rattle.format.specs.Decide.{closed, numbered, integer_end, date_end, flagged, counted, grown, stored}
use Rattle.format.specs.declared.Refusal.{Refusal}
use Rattle.decide.specs.Outcomes.{leaving, done_of, out_of, answer_in, old_object, referred_to}
use Rattle.decide.proofs.References.{unnamed, named-object}
use Rattle.resume.specs.declared.Feeding.{Feeding}
use Rattle.resume.specs.Steps.{loans_of, decided}

-- ---- one that writes

-- the decision with the loan that it left put in its place
lifted : {A : Type 0} → (List ℕ → Memory) → With1 (Out Unit A) → Out Memory A
lifted to (with1 (stop n told place) R) = stop n told place
lifted to (with1 (give a u c) R) = give a (to R) c

alike : {A : Type 0} (to : List ℕ → Memory) (R : List ℕ) (x : Out (List ℕ) A) → lifted to (leaving R x) ≡ lift to x
unfolding lifted
alike to R (stop n told place) = refl
alike to R (give a S c) = refl

-- it gave nothing but the cursor
pub wrote : (to : List ℕ → Memory) (R R' : List ℕ) (r : Result Cursor Refusal) (x : Out (List ℕ) Unit) (c : Cursor) → r ≡ Ok c
    → with1 (done_of r) R' ≡ leaving R x → give tt (to R') c ≡ lift to x
unfolding lifted
wrote to R R' r x c p e = ap (λ r. lifted to (with1 (done_of r) R')) (sym p) ∙ ap (lifted to) e ∙ alike to R x

-- or something with it
pub wrote_out : {A : Type 0} (to : List ℕ → Memory) (R R' : List ℕ) (r : Result (A × Cursor) Refusal) (x : Out (List ℕ) A) (a : A) (c : Cursor)
    → r ≡ Ok (a, c) → with1 (out_of r) R' ≡ leaving R x → give a (to R') c ≡ lift to x
unfolding lifted
wrote_out to R R' r x a c p e = ap (λ r. lifted to (with1 (out_of r) R')) (sym p) ∙ ap (lifted to) e ∙ alike to R x

-- ---- one that leaves the cursor as it is

-- where it gives anything, the cursor is c
abbrev Keeps : {S A : Type 0} → Cursor → Out S A → Type 0
Keeps c (stop n told place) = Unit
Keeps c (give a s c') = c' ≡ c

keeps_if : {S A : Type 0} (c : Cursor) (b : Bool) (x y : Out S A) → Keeps c x → Keeps c y → Keeps c (cond b x y)
keeps_if c true x y p q = p
keeps_if c false x y p q = q

kept_by : (R R' : List ℕ) (x : Out (List ℕ) Unit) (c c' : Cursor) → Keeps c x → with1 (give (tt {0}) (tt {0}) c') R' ≡ leaving R x → c' ≡ c
kept_by R R' (stop n told place) c c' k e = absurd (let z : ◌≡◌ {A = ℕ} 0 1 = cc in omega arith)
kept_by R R' (give a s d) c c' k e = let p : c' ≡ d = cc in p ∙ k

module _ (R R' : List ℕ) (c c' : Cursor) where
  pub closed_still : (row : ℕ) → with1 (give (tt {0}) (tt {0}) c') R' ≡ leaving R (closed row R c) → c' ≡ c
  unfolding closed
  closed_still row = kept_by R R' (closed row R c) c c' (keeps_if c (row_used R c row) _ _ refl tt)

  pub numbered_still : (row n : ℕ) → with1 (give (tt {0}) (tt {0}) c') R' ≡ leaving R (numbered row n R c) → c' ≡ c
  unfolding numbered
  numbered_still row n = kept_by R R' (numbered row n R c) c c' (keeps_if c (row_used R c row) _ _ refl tt)

  pub integer_still : (row w : ℕ) → with1 (give (tt {0}) (tt {0}) c') R' ≡ leaving R (integer_end row w R c) → c' ≡ c
  unfolding integer_end
  integer_still row w = numbered_still row (column_of (integer_of w))

  pub date_still : (row bits : ℕ) → with1 (give (tt {0}) (tt {0}) c') R' ≡ leaving R (date_end row bits R c) → c' ≡ c
  unfolding date_end numbered
  date_still row bits = kept_by R R' (date_end row bits R c) c c' (keeps_if c (row_used R c row) _ _ (keeps_if c (refused_date bits) _ _ tt (keeps_if c (row_used R c row) _ _ refl tt)) tt)

  pub flagged_still : (row flag : ℕ) → with1 (give (tt {0}) (tt {0}) c') R' ≡ leaving R (flagged row flag R c) → c' ≡ c
  unfolding flagged
  flagged_still row flag = kept_by R R' (flagged row flag R c) c c' (keeps_if c (row_used R c row) _ _ refl tt)

  pub counted_still : (row col done : ℕ) → with1 (give (tt {0}) (tt {0}) c') R' ≡ leaving R (counted row col done R c) → c' ≡ c
  unfolding counted
  counted_still row col done = kept_by R R' (counted row col done R c) c c' (keeps_if c (leb c.rows done) _ _ tt (keeps_if c (row_used R c row) _ _ refl tt))

  pub grown_still : (row : ℕ) (w : Width) (p : Span) (n : ℕ) → with1 (give (tt {0}) (tt {0}) c') R' ≡ leaving R (grown row w p n R c) → c' ≡ c
  unfolding grown
  grown_still row w p n = kept_by R R' (grown row w p n R c) c c' (keeps_if c (row_used R c row) _ _ refl tt)

  pub stored_still : (p : Span) (n b : ℕ) → with1 (give (tt {0}) (tt {0}) c') R' ≡ leaving R (stored p n b R c) → c' ≡ c
  unfolding stored
  stored_still p n b = kept_by R R' (stored p n b R c) c c' (keeps_if c (ltb (length R) c.store) _ _ tt (keeps_if c (leb p.size n) _ _ tt (keeps_if c (span_used c p) _ _ refl tt)))

-- ---- one that only looks

pub looked : {A : Type 0} (f : Feeding) (r : Result A Refusal) (x : Out Unit A) → answer_in r f.cursor ≡ x → decided r f ≡ lift (λ u. loans_of f) x
looked f (Ok a) x e = ap (lift (λ u. loans_of f)) e
looked f (Err y) x e = ap (lift (λ u. loans_of f)) e

-- ---- a reference

refused_so : {A : Type 0} (m : Memory) (x : Out Unit A) {n told place : ℕ} → stop n told place ≡ lift (λ u. m) x → x ≡ stop n told place
refused_so m (stop n' told' place') e = cc
refused_so m (give a u c) e = cc

given_so : {A : Type 0} (m : Memory) (x : Out Unit A) (a : A) (c : Cursor) → give a m c ≡ lift (λ u. m) x → x ≡ give a tt c
given_so m (stop n told place) a c e = cc
given_so m (give b u k) a c e = let p : a ≡ b = cc in let q : c ≡ k = cc in rw (p, q)

-- no object is named, or one
pub refers_not : (row i : ℕ) (m : Memory) (c : Cursor) {n told place : ℕ} → stop n told place ≡ lift (λ u. m) (old_object i m.objects c)
    → stop n told place ≡ on_rows (referred row i m.objects) m c
refers_not row i m c e =
    sym (ap (lift (λ R. memory R m.store m.strings m.objects m.traits m.names)) (unnamed row i m.objects m.rows c (refused_so m (old_object i m.objects c) e)))

pub refers : (row i object : ℕ) (m : Memory) (c : Cursor) → give object m c ≡ lift (λ u. m) (old_object i m.objects c)
    → referred row i m.objects m.rows c ≡ referred_to row i object m.rows c
refers row i object m c e = named-object row i m.objects m.rows c (given_so m (old_object i m.objects c) object c e)
