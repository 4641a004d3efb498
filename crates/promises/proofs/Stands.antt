-- On any state and loans: where a state stands after bytes. It waits at the place that it has come to; what it newly refuses has a number, a told value and a
-- place of document 01, and leaves the loans zero.
use mathlib.Core.Path.{◌≡◌, refl, sym}
use mathlib.Core.Bool.{Bool, true, false, cond}
use mathlib.Core.List.{List, [], ◌∷◌}
use Prim.Native.Nat.{ℕ, zero, suc, ◌+◌, ◌^◌, ◌≤◌, ◌<◌}
use native.Mathlib.Nat.{add-zero, add_assoc}
use native.Mathlib.Numerals.{add-one}
use native.Mathlib.Omega.{arith}
use lib.Dec.{T, leb}
use borrow.Author.Tests.{leb-true, leb-false, le-leb, eq-eqb}
use Rattle.rows.specs.declared.Cursor.{Cursor}
use Rattle.rows.specs.Memory.{Memory, zeroed, loan_fault, fault_of, message_most, message_limit}
use Rattle.wire.proofs.Octets.{Bytes}
use Rattle.format.specs.declared.Frame.{Frame}
use Rattle.rows.specs.declared.lent.Lent.{Lent}
use Rattle.format.specs.Reading.{finished, refused, taken}
use Rattle.format.specs.Step.{Mode, State, wait, over, none, step, act, broken, begin, begin_at}
use Rattle.format.specs.Numbers.{Numbers, Held, held, finishable, lent_of, state_of, numbers_of, after_step, byte_step, stepped, sound, sound_step}
use Rattle.format.specs.Answers.{blank, run_held, cost, cost_from, state_in, taken_by}
use Rattle.format.proofs.Tests.{on_bool, is_true}
use Rattle.format.proofs.Kept.{holds-finishable}
use Rattle.format.proofs.Along.{Able, completes, rejects, able_step, good_able}
use Rattle.format.proofs.Shows.{good-sound, good-waits}
use Rattle.format.proofs.Placed.{RefusedBy, unknown, absent, unfinished, external, undated, invalid, deep, full, astrays, placed-act, Placed}
use Rattle.format.proofs.Placed as placed
use Rattle.format.specs.Claims.{Going, waiting, unbegun}
use Rattle.format.specs.Refusals as refusals
use Rattle.rows.specs.Memory.{loan_rows, loan_names}
pub use Rattle.format.specs.Claims.{place_in}

-- ---- a state, `at` bytes taken; `Begun` is known where the beginning refused it, `Byte` of a byte that was refused

-- where a state stands
pub data Stands (Begun : Type 0) (Byte : ℕ → Type 0) (at : ℕ) : State → Type 0 where
  waits : {x : Mode} {ts : List Frame} {c : Cursor} {m : Memory} → c.at ≡ at → Stands Begun Byte at (wait x ts c m)
  finishes : {c : Cursor} {m : Memory} → c.at ≡ at → Stands Begun Byte at (over (finished c m))
  -- the beginning refused a loan from 1 to 6
  faulty : {loan : ℕ} {m : Memory} → Begun → loan_rows ≤ loan → loan ≤ loan_names → at ≡ 0 → Stands Begun Byte at (over (refused refusals.bad_loan loan 0 m))
  -- a byte was refused, and taken but for 12
  declines : {n told place : ℕ} {m : Memory} (b : ℕ) (k : Memory) → Byte b → RefusedBy b at n told place → place ≤ message_limit → m ≡ zeroed k
      → Stands Begun Byte at (over (refused n told place m))
  -- a byte past the limit was refused, and not taken
  passes : {place : ℕ} {m : Memory} (k : Memory) → place ≡ message_limit → place ≡ at → m ≡ zeroed k → Stands Begun Byte at (over (refused refusals.too_long 0 place m))
  -- what isn't a byte was refused with a value that no reading tells, and the numbers of that are those of a state never begun
  forgets : {m : Memory} (b : ℕ) (k : Memory) → Byte b → (b < 2 ^ 8 → ⊥) → m ≡ zeroed k → Stands Begun Byte at (none m)

-- ---- one byte

-- what a byte makes of a sound state, below the limit
pub able_act : (lent : Lent) (b : ℕ) (x : Mode) (ts : List Frame) (c : Cursor) (m : Memory) → sound lent x ts c m ≡ true → leb message_limit c.at ≡ false
    → Able (Unit {0} × (b < 2 ^ 8)) (lent_of m) (c.at + cost (act x b ts (taken c) m)) (act x b ts (taken c) m)
unfolding step
able_act lent b x ts c m s f =
    let q : step b (wait x ts c m) ≡ act x b ts (taken c) m = rw f in
    rw q at (able_step b (wait x ts c m) (good_able (wait x ts c m) (good-sound lent x ts c m s)))

-- it uses no more than can be lent; a byte's refusal can be said
pub able_finishes : {B : Type 0} {lent : Lent} {at : ℕ} {c : Cursor} {m : Memory} → Able B lent at (over (finished c m)) → T (finishable c)
able_finishes (completes h) = holds-finishable h

-- a refusal that a byte decided
pub able_says : {B : Type 0} {lent : Lent} {at n told place : ℕ} {m : Memory} → Able B lent at (over (refused n told place m)) → B → T (refusals.sayable n told place)
able_says (rejects t h z) = t

-- the numbers of a finished reading, and of a refused one, are read back: what can't be said is as if never begun
pub on-finished : (P : State → Type 0) (n : Numbers) (c : Cursor) (m : Memory) → T (finishable c) → P (over (finished c m))
    → P (state_in (after_step n (over (finished c m))))
unfolding after_step numbers_of state_of
on-finished P n c m h p = rw (is_true (finishable c) h) p

-- a refused reading, if it can be said
pub on-refused : (P : State → Type 0) (n : Numbers) (number told place : ℕ) (m : Memory)
    → (T (refusals.sayable number told place) → P (over (refused number told place m))) → ((T (refusals.sayable number told place) → ⊥) → P (none m))
    → P (state_in (after_step n (over (refused number told place m))))
unfolding after_step numbers_of state_of
on-refused P n number told place m f g = on_bool (refusals.sayable number told place) (λ e. rw e (f (rw e tt))) (λ e. rw e (g (λ t. rw e at t)))

-- a byte's refusal counts it, but for 12
after-said : {Begun : Type 0} {Byte : ℕ → Type 0} {b at n told place : ℕ} {m : Memory} (k : Memory) → Byte b → suc at ≤ message_limit
    → RefusedBy b (suc at) n told place → m ≡ zeroed k
    → Stands Begun Byte (at + cost (over (refused n told place m))) (over (refused n told place m))
after-said {b} k y h (unknown l e) z = rw add-one (declines b k y (unknown l e) (omega arith) z)
after-said {b} k y h (absent e) z = rw add-one (declines b k y (absent e) (omega arith) z)
after-said {b} k y h (unfinished e) z = rw add-one (declines b k y (unfinished e) (omega arith) z)
after-said {b} k y h (external e) z = rw add-one (declines b k y (external e) (omega arith) z)
after-said {b} k y h (undated e) z = rw add-one (declines b k y (undated e) (omega arith) z)
after-said {b} k y h (invalid e) z = rw add-one (declines b k y (invalid e) (omega arith) z)
after-said {b} k y h (deep e) z = rw add-one (declines b k y (deep e) (omega arith) z)
after-said {b} k y h (full t e) z = rw add-one (declines b k y (full t e) (omega arith) z)
after-said {b} k y h astrays z = declines b k y astrays (omega arith) z

-- the numbers of what byte b made are read back
after-act : {Begun : Type 0} {Byte : ℕ → Type 0} {b at p : ℕ} {lent : Lent} (n : Numbers) (t : State) → Byte b → suc at ≤ message_limit
    → Able (Unit {0} × (b < 2 ^ 8)) lent p t → Placed b (suc at) t → Stands Begun Byte (at + cost (state_in (after_step n t))) (state_in (after_step n t))
unfolding after_step numbers_of state_of
after-act n t y h a (placed.waits {c = c} e) = waits {c = c} (omega arith)
after-act {Begun} {Byte} {at = at} n t y h a (placed.finishes {c = c} {m = m} e) =
    on-finished (λ s. Stands Begun Byte (at + cost s) s) n c m (able_finishes a) (finishes {c = c} (omega arith))
after-act {Begun} {Byte} {b = b} {at = at} n t y h a (placed.declines {n = number} {told = told} {place = place} {m = m} k r z) =
    on-refused (λ s. Stands Begun Byte (at + cost s) s) n number told place m (λ s. after-said k y h r z) (λ f. forgets b k y (λ o. f (able_says a (tt, o))) z)

-- 12 takes no byte
after-broken : {Begun : Type 0} {Byte : ℕ → Type 0} (at b : ℕ) (n : Numbers) (m : Memory) → Byte b
    → Stands Begun Byte (at + cost (state_in (after_step n (broken m)))) (state_in (after_step n (broken m)))
unfolding refusals.sayable
after-broken {Begun} {Byte} at b n m y =
    on-refused (λ s. Stands Begun Byte (at + cost s) s) n refusals.lost 0 0 (zeroed m) (λ s. declines b m y astrays (omega arith) refl) (λ f. absurd (f tt))

-- 11 can be said at the limit
pub long-said : (at : ℕ) → at ≡ message_limit → T (refusals.sayable refusals.too_long 0 at)
unfolding refusals.sayable message_limit
long-said at e = rw (eq-eqb at message_most e) tt

-- 11 takes no byte
after-limit : {Begun : Type 0} {Byte : ℕ → Type 0} (at : ℕ) (n : Numbers) (m : Memory) → at ≡ message_limit
    → Stands Begun Byte (at + cost (state_in (after_step n (over (refused refusals.too_long 0 at (zeroed m)))))) (state_in (after_step n (over (refused refusals.too_long 0 at (zeroed m)))))
after-limit {Begun} {Byte} at n m e =
    on-refused (λ s. Stands Begun Byte (at + cost s) s) n refusals.too_long 0 at (zeroed m) (λ s. passes m e (sym (add-zero at)) refl) (λ f. absurd (f (long-said at e)))

-- a byte on a waiting state
after-sound : {Begun : Type 0} {Byte : ℕ → Type 0} (b : ℕ) (n : Numbers) (x : Mode) (ts : List Frame) (c : Cursor) (m : Memory) → Byte b
    → Stands Begun Byte (c.at + cost (state_in (after_step n (sound_step n.head.lent b (wait x ts c m)))))
    (state_in (after_step n (sound_step n.head.lent b (wait x ts c m))))
unfolding sound_step step
after-sound b n x ts c m y = on_bool (sound n.head.lent x ts c m)
    (λ e. rw e (on_bool (leb message_limit c.at)
    (λ f. rw f (after-limit c.at n m (let w = (good-waits (good-sound n.head.lent x ts c m e)).0.within in omega (arith, leb-true))))
    (λ f. rw f (after-act n (act x b ts (taken c) m) y (omega (arith, leb-false)) (able_act n.head.lent b x ts c m e f) (placed-act x ts (taken c) m refl)))))
    (λ e. rw e (after-broken c.at b n m y))

-- what was never begun is refused, and takes nothing
after_none : {Begun : Type 0} {Byte : ℕ → Type 0} (at b : ℕ) (n : Numbers) (m : Memory) → Byte b → Stands Begun Byte (at + 0) (state_in (after_step n (broken m)))
unfolding refusals.sayable
after_none {Begun} {Byte} at b n m y =
    on-refused (Stands Begun Byte (at + 0)) n refusals.lost 0 0 (zeroed m) (λ s. declines b m y astrays (omega arith) refl) (λ f. absurd (f tt))

-- a byte on any state that stands
after-stepped : {Begun : Type 0} {Byte : ℕ → Type 0} {at : ℕ} (b : ℕ) (n : Numbers) (m : Memory) (s : State) → Byte b → state_of n m ≡ s → Stands Begun Byte at s
    → Stands Begun Byte (at + cost_from s (state_in (stepped n m b s))) (state_in (stepped n m b s))
after-stepped b n m s y q (waits {x = x} {ts = ts} {c = c} {m = k} e) = rw (← e) (after-sound b n x ts c k y)
after-stepped b n m s y q (finishes e) = rw (q, add-zero) (finishes e)
after-stepped b n m s y q (faulty f i j e) = rw (q, add-zero) (faulty f i j e)
after-stepped b n m s y q (declines i k v r h z) = rw (q, add-zero) (declines i k v r h z)
after-stepped b n m s y q (passes k e f z) = rw (q, add-zero) (passes k e f z)
after-stepped {at = at} b n m s y q (forgets {m = l} i k v f z) = after_none at b n l y

-- the same of what is held
pub stands-byte : {Begun : Type 0} {Byte : ℕ → Type 0} {at : ℕ} (b : ℕ) (h : Held) → Byte b → Stands Begun Byte at (state_in h)
    → Stands Begun Byte (at + cost_from (state_in h) (state_in (byte_step b h))) (state_in (byte_step b h))
unfolding byte_step
stands-byte b (held n m) y w = after-stepped b n m (state_of n m) y refl w

-- ---- bytes

-- each of them is such
pub data Every (Byte : ℕ → Type 0) : List ℕ → Type 0 where
  last : Every Byte []
  next : {b : ℕ} {bs : List ℕ} → Byte b → Every Byte bs → Every Byte (b ∷ bs)

-- any number
abbrev pub Any : ℕ → Type 0
Any b = Unit

-- each number is one
pub every_any : (bs : List ℕ) → Every Any bs
every_any [] = last
every_any (b ∷ bs) = next tt (every_any bs)

-- a byte
abbrev pub Octet : ℕ → Type 0
Octet b = b < 2 ^ 8

-- each is a byte
pub every_byte : (bs : List ℕ) → Bytes bs → Every Octet bs
every_byte [] h = last
every_byte (b ∷ bs) h = next (h 0) (every_byte bs (λ i. h (suc i)))

-- each is a byte, if P says so
pub every-octet : (P : Type 0) (bs : List ℕ) → (P → Bytes bs) → Every (λ b. P → b < 2 ^ 8) bs
every-octet P [] h = last
every-octet P (b ∷ bs) h = next (λ p. h p 0) (every-octet P bs (λ p i. h p (suc i)))

-- bytes on any state that stands
pub stands-run : {Begun : Type 0} {Byte : ℕ → Type 0} {at : ℕ} (h : Held) (bs : List ℕ) → Every Byte bs → Stands Begun Byte at (state_in h)
    → Stands Begun Byte (at + taken_by h bs) (state_in (run_held h bs))
unfolding run_held taken_by
stands-run h [] last w = rw add-zero w
stands-run {at} h (b ∷ bs) (next y ys) w =
    rw (← add_assoc) (stands-run {at = at + cost_from (state_in h) (state_in (byte_step b h))} (byte_step b h) bs ys (stands-byte b h y w))

-- a byte on a state that has not ended
going-stepped : {Byte : ℕ → Type 0} (b : ℕ) (n : Numbers) (m : Memory) (s : State) → Byte b → Going s
    → Stands ⊥ Byte (place_in s + cost_from s (state_in (stepped n m b s))) (state_in (stepped n m b s))
going-stepped b n m s y (waiting {x = x} {ts = ts} {c = c} {m = k}) = after-sound b n x ts c k y
going-stepped b n m s y (unbegun {m = k}) = after_none 0 b n k y

-- whatever the numbers and the loans, after one byte or more
pub stands-going : {Byte : ℕ → Type 0} (h : Held) (b : ℕ) (bs : List ℕ) → Every Byte (b ∷ bs) → Going (state_in h)
    → Stands ⊥ Byte (place_in (state_in h) + taken_by h (b ∷ bs)) (state_in (run_held h (b ∷ bs)))
unfolding run_held taken_by byte_step
stands-going (held n m) b bs (next y ys) g =
    rw (← add_assoc) (stands-run (byte_step b (held n m)) bs ys (going-stepped b n m (state_of n m) y g))

-- ---- the beginning

-- the lower of two loans is one of six
low : (t : Bool) (a b : ℕ) → leb a loan_names ≡ true → leb b loan_names ≡ true → leb (cond t a b) loan_names ≡ true
low true a b h k = h
low false a b h k = k

-- a faulty loan is one of six
pub fault-most : (m : Memory) → fault_of m ≤ loan_names
unfolding loan_fault
fault-most m = leb-true (fault_of m) loan_names (search low depth 10)

-- 1 can be said of a loan
pub loan-said : (loan : ℕ) → loan_rows ≤ loan → loan ≤ loan_names → T (refusals.sayable refusals.bad_loan loan 0)
unfolding refusals.sayable
loan-said loan h l = rw (le-leb loan_rows loan h, le-leb loan loan_names l) tt

-- by the lowest faulty loan
begin-at : {Byte : ℕ → Type 0} (m : Memory) (n : Numbers) (fault : ℕ) → fault ≤ loan_names → Stands Unit Byte 0 (state_in (after_step n (begin_at fault m)))
unfolding after_step numbers_of state_of
begin-at m n zero l = waits refl
begin-at {Byte} m n (suc loan) l =
    on-refused (Stands Unit Byte 0) n refusals.bad_loan (suc loan) 0 m (λ s. faulty {loan = suc loan} tt (omega arith) l refl)
    (λ f. absurd (f (loan-said (suc loan) (omega arith) l)))

-- on any loans
pub stands-begin : {Byte : ℕ → Type 0} (m : Memory) → Stands Unit Byte 0 (state_in (after_step (blank (lent_of m)) (begin m)))
unfolding begin
stands-begin m = begin-at m (blank (lent_of m)) (fault_of m) (fault-most m)
