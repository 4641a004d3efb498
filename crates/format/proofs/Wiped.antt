-- What a refused reading leaves: 1 the loans as found, any other refusal all of them zero.
use mathlib.Core.Path.{◌≡◌, refl, sym, ap, ◌∙◌}
use mathlib.Core.Logic.{◌≢◌}
use mathlib.Core.List.{List}
use Prim.Native.Nat.{ℕ, suc}
use lib.ListN.{length, replicate, length-replicate}
use Rattle.rows.specs.Memory.{Memory, zeros, zeroed, fault_of}
use Rattle.rows.specs.declared.lent.Lent.{Lent}
use Rattle.format.specs.Numbers.{lent_of}
use Rattle.format.specs.Reading.{refused, reading}
use Rattle.format.specs.Step.{State, run, end, begin}
use Rattle.format.proofs.Tests.{clash}
use Rattle.format.proofs.Feeding.{feeding}
use Rattle.format.proofs.Along.{Able, awaits, completes, rejects, Left, found, wiped, able_run, good_able, good-begin, lends-zeroed}

-- the loans as found
pub fault-left : (m : Memory) (bs : List ℕ) (loan : ℕ) → fault_of m ≡ suc loan → reading m bs ≡ refused 1 (suc loan) 0 m
unfolding reading
fault-left m bs loan e = rw e

-- loans of the same lengths are zeroed to the same
zeros-same : (a b : List ℕ) → length (zeros a) ≡ length b → zeros a ≡ zeros b
zeros-same a b e =
    let n : length a ≡ length b = sym (length-replicate {A = ℕ} (length a) 0) ∙ e in
    ap (λ (n : ℕ). replicate {A = ℕ} n 0) n

same-zero : (k m : Memory) → lent_of (zeroed k) ≡ lent_of m → zeroed k ≡ zeroed m
unfolding zeroed lent_of
same-zero k m e =
    rw (
      zeros-same k.rows m.rows (ap (λ (l : Lent). l.rows) e),
      zeros-same k.store m.store (ap (λ (l : Lent). l.store) e),
      zeros-same k.strings m.strings (ap (λ (l : Lent). l.strings) e),
      zeros-same k.objects m.objects (ap (λ (l : Lent). l.objects) e),
      zeros-same k.traits m.traits (ap (λ (l : Lent). l.traits) e),
      zeros-same k.names m.names (ap (λ (l : Lent). l.names) e),
    )

left-zero : (m : Memory) {n : ℕ} {m' : Memory} → n ≢ 1 → lent_of m' ≡ lent_of m → Left n m' → m' ≡ zeroed m
left-zero m h e found = absurd (h refl)
left-zero m h e (wiped k) = same-zero k m e

ended-zero : {B : Type 0} (m : Memory) (at : ℕ) (s : State) → Able B (lent_of m) at s → (n told place : ℕ) (m' : Memory) → end s ≡ refused n told place m' → n ≢ 1 → m' ≡ zeroed m
unfolding end
ended-zero m at s (awaits {m = k} held f u p) n told place m' e h =
    let q : zeroed k ≡ m' = cc in
    sym q ∙ same-zero k m (lends-zeroed (lent_of m) k held.lends)
ended-zero m at s (completes held) n told place m' e h = clash cc
ended-zero m at s (rejects {n = j} {m = k} t l z) n told place m' e h =
    let q : k ≡ m' = cc in
    let i : j ≡ n = cc in
    sym q ∙ left-zero m (λ x. h (sym i ∙ x)) l z

pub refused-zero : (m : Memory) (bs : List ℕ) (n told place : ℕ) (m' : Memory) → reading m bs ≡ refused n told place m' → n ≢ 1 → m' ≡ zeroed m
refused-zero m bs n told place m' e h =
    ended-zero m _ (run (begin m) bs) (able_run (begin m) bs (good_able (begin m) (good-begin m))) n told place m' (feeding m bs ∙ e) h
