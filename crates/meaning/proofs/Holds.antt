-- Readers that never run out of room on given bytes: loans with room for so much, and the bytes within the limit, never end them in 1, 9, 10 or 11.
-- Nothing is said of the other refusals. Where they give, whatever the loans, just so much is used.
use mathlib.Core.Path.{◌≡◌, refl}
use mathlib.Core.Bool.{Bool, true, false, cond, ◌||◌}
use mathlib.Core.List.{List, [], ◌∷◌, ◌++◌, append_assoc, append-nil}
use Prim.Native.Nat.{ℕ, ◌+◌, ◌/◌, ◌≤◌}
use native.Mathlib.Omega.{arith}
use borrow.Author.Tests.{lt-leb}
use lib.Dec.{leb, eqb}
use lib.ListN.{length, length-append}
use Rattle.rows.specs.declared.Cursor.{Cursor}
use Rattle.rows.specs.Memory.{Memory, memory, message_limit, row_width, span_width, trait_width, row_used}
use Rattle.format.specs.Decide.{Out, stop, give, lost, Decision, lift, on_rows, in_row}
use Rattle.format.specs.Reading.{ok, bad, Result, Reader, bind, ◌>>=◌, ret, decided, by, byte}
use Rattle.format.specs.Holds.{Room, ◌and◌, nothing}
use Rattle.format.proofs.Tests.{on_bool}
use Rattle.format.specs.Refusals as refusals

-- ---- room

-- room for k bytes and n
pub record Fits (k : ℕ) (n : Room) (m : Memory) (c : Cursor) : Type 0 where
  pub at : c.at + k ≤ message_limit
  pub rows : c.rows + n.rows ≤ length m.rows / row_width
  pub store : c.store + n.store ≤ length m.store
  pub strings : c.strings + n.strings ≤ length m.strings / span_width
  pub objects : c.objects + n.objects ≤ length m.objects
  pub traits : c.traits + n.traits ≤ length m.traits / trait_width
  pub names : c.names + n.names ≤ length m.names / span_width

-- from one state to the next no more than that is used
abbrev pub Uses : ℕ → Room → Memory → Cursor → Memory → Cursor → Type 0
Uses k n m c m' c' = (l : ℕ) (x : Room) → Fits (k + l) (n and x) m c → Fits l x m' c'

-- one takes no more than another
pub record Within (a b : Room) : Type 0 where
  pub rows : a.rows ≤ b.rows
  pub store : a.store ≤ b.store
  pub strings : a.strings ≤ b.strings
  pub objects : a.objects ≤ b.objects
  pub traits : a.traits ≤ b.traits
  pub names : a.names ≤ b.names

-- two of the same size
pub record Same (a b : Room) : Type 0 where
  pub rows : a.rows ≡ b.rows
  pub store : a.store ≡ b.store
  pub strings : a.strings ≡ b.strings
  pub objects : a.objects ≡ b.objects
  pub traits : a.traits ≡ b.traits
  pub names : a.names ≡ b.names

-- what is used grows by just that
pub record Spent (n : Room) (c c' : Cursor) : Type 0 where
  pub rows : c'.rows ≡ c.rows + n.rows
  pub store : c'.store ≡ c.store + n.store
  pub strings : c'.strings ≡ c.strings + n.strings
  pub objects : c'.objects ≡ c.objects + n.objects
  pub traits : c'.traits ≡ c.traits + n.traits
  pub names : c'.names ≡ c.names + n.names

-- ---- readers

-- the refusals of a loan, of a limit and for want of room
abbrev pub limit : ℕ → Bool
limit n = eqb n refusals.bad_loan || eqb n refusals.too_deep || eqb n refusals.no_room || eqb n refusals.too_long

abbrev pub Good : {A : Type 0} → (A → Type 0) → ℕ → Room → Memory → Cursor → List ℕ → Result A → Type 0
Good P k n m c rest (ok a m' c' bs) = P a × (bs ≡ rest) × Uses k n m c m' c'
Good P k n m c rest (bad number told place m') = limit number ≡ false

-- what is given, whatever the loans
abbrev pub Exact : {A : Type 0} → (A → Type 0) → Room → Cursor → List ℕ → Result A → Type 0
Exact P n c rest (ok a m' c' bs) = P a × (bs ≡ rest) × Spent n c c'
Exact P n c rest (bad number told place m') = Unit {0}

-- on these bytes: with room for n it is not ended for want of room; and what it gives has used n
pub record Goes {A : Type 0} (P : A → Type 0) (g : Reader A) (bs : List ℕ) (n : Room) : Type 0 where
  pub goes : (m : Memory) (c : Cursor) (rest : List ℕ) → Fits (length bs) n m c → Good P (length bs) n m c rest (g m c (bs ++ rest))
  pub exact : (m : Memory) (c : Cursor) (rest : List ℕ) → Exact P n c rest (g m c (bs ++ rest))

abbrev pub Any : {A : Type 0} → A → Type 0
Any a = Unit {0}

pub goes-ret : {A : Type 0} {P : A → Type 0} {a : A} → P a → Goes P (ret a) [] nothing
goes-ret p = record { goes = λ m c rest h. (p, refl, λ l x f. omega arith); exact = λ m c rest. (p, refl, omega arith) }

module _ {A : Type 0} (P : A → Type 0) where
  good_more : (k : ℕ) (n x : Room) (m : Memory) (c : Cursor) (rest : List ℕ) (r : Result A) → Same n x
      → Good P k n m c rest r → Good P k x m c rest r
  good_more k n x m c rest (ok a m' c' bs) w h = (h.0, h.1, λ l y f. h.2 l y (omega arith))
  good_more k n x m c rest (bad number told place m') w h = h

  exact-more : (n x : Room) (c : Cursor) (rest : List ℕ) (r : Result A) → Same n x → Exact P n c rest r → Exact P x c rest r
  exact-more n x c rest (ok a m' c' bs) w h = let i = h.2 in (h.0, h.1, omega arith)
  exact-more n x c rest (bad number told place m') w h = tt

-- so much is as much
pub goes-more : {A : Type 0} {P : A → Type 0} {g : Reader A} {bs : List ℕ} {n x : Room} → Same n x → Goes P g bs n → Goes P g bs x
goes-more {P = P} {g = g} {bs = bs} {n = n} {x = x} w h =
    record {
      goes = λ m c rest f. good_more P (length bs) n x m c rest (g m c (bs ++ rest)) w (h.goes m c rest (omega arith));
      exact = λ m c rest. exact-more P n x c rest (g m c (bs ++ rest)) w (h.exact m c rest);
    }

-- whatever it gives
good_any : {A : Type 0} (P : A → Type 0) (k : ℕ) (n : Room) (m : Memory) (c : Cursor) (rest : List ℕ) (r : Result A)
    → Good P k n m c rest r → Good Any k n m c rest r
good_any P k n m c rest (ok a m' c' bs) h = (tt, h.1, h.2)
good_any P k n m c rest (bad number told place m') h = h

exact_any : {A : Type 0} (P : A → Type 0) (n : Room) (c : Cursor) (rest : List ℕ) (r : Result A) → Exact P n c rest r → Exact Any n c rest r
exact_any P n c rest (ok a m' c' bs) h = (tt, h.1, h.2)
exact_any P n c rest (bad number told place m') h = tt

pub goes_any : {A : Type 0} {P : A → Type 0} {g : Reader A} {bs : List ℕ} {n : Room} → Goes P g bs n → Goes Any g bs n
goes_any {P = P} {g = g} {bs = bs} {n = n} h =
    record {
      goes = λ m c rest f. good_any P (length bs) n m c rest (g m c (bs ++ rest)) (h.goes m c rest f);
      exact = λ m c rest. exact_any P n c rest (g m c (bs ++ rest)) (h.exact m c rest);
    }

-- one that looks at the cursor
pub goes-cursor : {A : Type 0} {P : A → Type 0} {bs : List ℕ} {n : Room} (g : Cursor → Reader A)
    → ((c : Cursor) → Goes P (g c) bs n) → Goes P (λ m c. g c m c) bs n
goes-cursor g h = record { goes = λ m c rest f. (h c).goes m c rest f; exact = λ m c rest. (h c).exact m c rest }

-- one after the other
module _ {A B : Type 0} (P : A → Type 0) (Q : B → Type 0) (f : A → Reader B) (xs ys : List ℕ) (n x : Room)
    (next : (a : A) → P a → Goes Q (f a) ys x) where
  good-then : (m m' : Memory) (c c' : Cursor) (rest : List ℕ) (r : Result B) → Uses (length xs) n m c m' c'
      → Good Q (length ys) x m' c' rest r → Good Q (length (xs ++ ys)) (n and x) m c rest r
  good-then m m' c c' rest (ok b m₂ c₂ bs) u h = (h.0, h.1, λ l y g. h.2 l y (u (length ys + l) (x and y) (omega (arith, length-append xs ys))))
  good-then m m' c c' rest (bad number told place m₂) u h = h

  good-bind : (m : Memory) (c : Cursor) (rest : List ℕ) (r : Result A) → Fits (length (xs ++ ys)) (n and x) m c
      → Good P (length xs) n m c (ys ++ rest) r → Good Q (length (xs ++ ys)) (n and x) m c rest (bind r f)
  good-bind m c rest (ok a m' c' bs) g h =
      rw h.1 (good-then m m' c c' rest (f a m' c' (ys ++ rest)) h.2
      ((next a h.0).goes m' c' rest (h.2 (length ys) x (omega (arith, length-append xs ys)))))
  good-bind m c rest (bad number told place m') g h = h

  exact-then : (c c' : Cursor) (rest : List ℕ) (r : Result B) → Spent n c c' → Exact Q x c' rest r → Exact Q (n and x) c rest r
  exact-then c c' rest (ok b m₂ c₂ bs) u h = let i = h.2 in (h.0, h.1, omega arith)
  exact-then c c' rest (bad number told place m₂) u h = tt

  exact-bind : (c : Cursor) (rest : List ℕ) (r : Result A) → Exact P n c (ys ++ rest) r → Exact Q (n and x) c rest (bind r f)
  exact-bind c rest (ok a m' c' bs) h = rw h.1 (exact-then c c' rest (f a m' c' (ys ++ rest)) h.2 ((next a h.0).exact m' c' rest))
  exact-bind c rest (bad number told place m') h = tt

pub goes_bind : {A B : Type 0} {P : A → Type 0} {Q : B → Type 0} {g : Reader A} {xs ys : List ℕ} {n x : Room} (f : A → Reader B)
    → Goes P g xs n → ((a : A) → P a → Goes Q (f a) ys x) → Goes Q (g >>= f) (xs ++ ys) (n and x)
goes_bind {P = P} {Q = Q} {g = g} {xs = xs} {ys = ys} {n = n} {x = x} f h next =
    record {
      goes = λ m c rest e. rw (append_assoc xs ys rest)
          (good-bind P Q f xs ys n x next m c rest (g m c (xs ++ (ys ++ rest))) e (h.goes m c (ys ++ rest) (omega (arith, length-append xs ys))));
      exact = λ m c rest. rw (append_assoc xs ys rest) (exact-bind P Q f xs ys n x next c rest (g m c (xs ++ (ys ++ rest))) (h.exact m c (ys ++ rest)));
    }

-- the same, of so much
pub goes-seq : {A B : Type 0} {P : A → Type 0} {Q : B → Type 0} {g : Reader A} {xs ys : List ℕ} {y : Room} (n x : Room) → Same (n and x) y
    → (f : A → Reader B) → Goes P g xs n → ((a : A) → P a → Goes Q (f a) ys x) → Goes Q (g >>= f) (xs ++ ys) y
goes-seq n x w f h next = goes-more w (goes_bind f h next)

-- the first takes only bytes
pub goes-free : {A B : Type 0} {P : A → Type 0} {Q : B → Type 0} {g : Reader A} {xs ys : List ℕ} {x : Room} (f : A → Reader B)
    → Goes P g xs nothing → ((a : A) → P a → Goes Q (f a) ys x) → Goes Q (g >>= f) (xs ++ ys) x
goes-free {x = x} f h next = goes-seq nothing x (omega arith) f h next

-- the last takes no bytes, or nothing
pub goes_end : {A B : Type 0} {P : A → Type 0} {Q : B → Type 0} {g : Reader A} {xs : List ℕ} {y : Room} (n x : Room) → Same (n and x) y
    → (f : A → Reader B) → Goes P g xs n → ((a : A) → P a → Goes Q (f a) [] x) → Goes Q (g >>= f) xs y
goes_end {xs = xs} n x w f h next = rw (append-nil xs) at (goes-seq n x w f h next)

pub goes_last : {A B : Type 0} {P : A → Type 0} {Q : B → Type 0} {g : Reader A} {xs : List ℕ} {n : Room} (f : A → Reader B)
    → Goes P g xs n → ((a : A) → P a → Goes Q (f a) [] nothing) → Goes Q (g >>= f) xs n
goes_last {n = n} f h next = goes_end n nothing (omega arith) f h next

-- ---- decisions

abbrev pub Decides : {A : Type 0} → (A → Type 0) → Room → Memory → Cursor → Out Memory A → Type 0
Decides P n m c (stop number told place) = limit number ≡ false
Decides P n m c (give a m' c') = P a × Uses 0 n m c m' c'

-- and what it uses, where it gives
pub data Costs {S A : Type 0} (P : A → Type 0) (n : Room) (c : Cursor) : Out S A → Type 0 where
  costless : {number told place : ℕ} → Costs P n c (stop number told place)
  costs : {a : A} {s : S} {d : Cursor} → P a → Spent n c d → Costs P n c (give a s d)

module _ {S A : Type 0} {P : A → Type 0} {n : Room} {c : Cursor} where
  -- both cases of a test; a decision on one loan
  pub costs-cond : (t : Bool) {x y : Out S A} → Costs P n c x → Costs P n c y → Costs P n c (cond t x y)
  costs-cond true h k = h
  costs-cond false h k = k

  pub costs-lift : (f : S → Memory) (o : Out S A) → Costs P n c o → Costs P n c (lift f o)
  costs-lift f o costless = costless
  costs-lift f o (costs p u) = costs p u

-- nothing more is used
pub spent_none : {c : Cursor} → Spent nothing c c
spent_none = omega arith

module _ {A : Type 0} (P : A → Type 0) (n : Room) where
  exact-decided : (m : Memory) (c : Cursor) (rest : List ℕ) (o : Out Memory A) → Costs P n c o → Exact P n c rest (decided o m rest)
  exact-decided m c rest o costless = tt
  exact-decided m c rest o (costs p u) = (p, refl, u)

  good-decided : (m : Memory) (c : Cursor) (rest : List ℕ) (o : Out Memory A) → Decides P n m c o → Good P 0 n m c rest (decided o m rest)
  good-decided m c rest (stop number told place) h = h
  good-decided m c rest (give a m' c') h = (h.0, refl, h.1)

  pub goes_by : (d : Decision A) → ((m : Memory) (c : Cursor) → Fits 0 n m c → Decides P n m c (d m c))
      → ((m : Memory) (c : Cursor) → Costs P n c (d m c)) → Goes P (by d) [] n
  goes_by d h k =
      record { goes = λ m c rest e. good-decided m c rest (d m c) (h m c e); exact = λ m c rest. exact-decided m c rest (d m c) (k m c) }

-- one that changes a used row
pub in-row : (row : ℕ) (f : List ℕ → List ℕ) → ((R : List ℕ) → length (f R) ≡ length R) → (m : Memory) (c : Cursor)
    → Decides Any nothing m c (on_rows (in_row row f) m c)
in-row row f keeps m c = used (row_used m.rows c row)
  where
    used : (t : Bool) → Decides Any nothing m c
        (lift (λ R. memory R m.store m.strings m.objects m.traits m.names) (cond t (give (tt {0}) (f m.rows) c) lost))
    used true = (tt, λ l x h. omega (arith, keeps m.rows))
    used false = refl

-- ---- a byte

pub goes-byte : (b : ℕ) → Goes (λ (x : ℕ). x ≡ b) byte (b ∷ []) nothing
unfolding byte
goes-byte b =
    record {
      goes = λ m c rest h. rw (lt-leb message_limit c.at (omega arith)) (refl, refl, λ l x f. omega arith);
      exact = λ m c rest. on_bool (leb message_limit c.at) (λ e. rw e tt) (λ e. rw e (refl, refl, omega arith));
    }

-- a state that doesn't hold together is no matter of room
pub goes-lost : {A : Type 0} {P : A → Type 0} {bs : List ℕ} {n : Room} → Goes {A = A} P (by (λ m c. lost)) bs n
goes-lost = record { goes = λ m c rest h. refl; exact = λ m c rest. tt }
