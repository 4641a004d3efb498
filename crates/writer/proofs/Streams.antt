-- Runs of streams: one after the other, and all of the bytes at once.
use mathlib.Core.Path.{◌≡◌, refl, ap, sym, ◌∙◌}
use mathlib.Core.Bool.{Bool, true, false, cond}
use mathlib.Core.List.{List, [], ◌∷◌, ◌++◌}
use Prim.Native.Nat.{ℕ, suc, ◌+◌, ◌-◌, ◌<◌, ◌≤◌}
use native.Mathlib.Omega.{arith}
use native.Mathlib.Nat.{add-zero}
use native.Mathlib.Numerals.{add-one}
use native.Mathlib.Decide.{dec_le}
use borrow.Author.Tests.{lt-ltb, le-ltb}
use lib.Dec.{ltb}
use lib.ListN.{length, set, take, length-set}
use lib.Seq.{sets}
use Rattle.std.specs.Prelude.{Result, Ok, Err}
use Rattle.std.specs.Result.{IsErrAnd}
use Rattle.std.proofs.lemmas.Result.{err_from_is_err_and}
use Rattle.format.specs.Writing.{Stream, done, deep, byte, ◌then◌, these, stream_bytes, is_deep}
use Rattle.writer.specs.declared.Stop.{Stop}
use Rattle.writer.specs.declared.Stop.TheVariants.{NoRoom, TooDeep}
use Rattle.writer.specs.declared.Writer.{Writer}
use Rattle.writer.specs.Run.{Ran, ran, run, Same, Writes}
use Rattle.writer.specs.Pieces.{Fit}

-- ---- one after the other

abbrev and_then : Ran → (ℕ → List ℕ → Ran) → Ran
and_then (ran (Ok u) at O) k = k at O
and_then (ran (Err e) at O) k = ran (Err e) at O

run-then : (x y : Stream) (dry : Bool) (at : ℕ) (O : List ℕ) → run dry (x then y) at O ≡ and_then (run dry x at O) (run dry y)
unfolding run ◌then◌
run-then done y dry at O = refl
run-then deep y dry at O = refl
run-then (byte b x) y dry at O = by (run-then x y dry (at + 1) (cond dry O (set O at b))) (ltb at (length O))
  where
    by : run dry (x then y) (at + 1) (cond dry O (set O at b)) ≡ and_then (run dry x (at + 1) (cond dry O (set O at b))) (run dry y)
        → (t : Bool) → cond t (run dry (x then y) (at + 1) (cond dry O (set O at b))) (ran (Err NoRoom) at O)
        ≡ and_then (cond t (run dry x (at + 1) (cond dry O (set O at b))) (ran (Err NoRoom) at O)) (run dry y)
    by e true = e
    by e false = refl

pub these-append : (xs ys : List ℕ) → these (xs ++ ys) ≡ these xs then these ys
unfolding these ◌then◌
these-append [] ys = refl
these-append (b ∷ xs) ys = ap (byte b) (these-append xs ys)

-- what is written of rows and their store
abbrev pub Text : Type 0
Text = List ℕ → List ℕ → Stream

abbrev pub of : Text → Writer → Stream
of x o = x o.table.rows.now o.table.store.now

pub same-trans : {o m n : Writer} → Same o m → Same m n → Same o n
same-trans s t =
    record {
      table = t.table ∙ s.table;
      dry = t.dry ∙ s.dry;
      output = t.output ∙ s.output;
    }

pub same-refl : (o : Writer) → Same o o
same-refl o = record { table = refl; dry = refl; output = refl }

-- of the same rows
pub still : {o m : Writer} → Same o m → Fit o.table.rows.now o.table.store.now → Fit m.table.rows.now m.table.store.now
still s f = rw s.table f

-- the way out of a `?`: the error is the one that came
pub leaves : {o n : Writer} {x : Text} {e : Stop} (r : Result (Unit {0}) Stop) → IsErrAnd r (λ d. d ≡ e) → Writes (Err e) o n x → Writes r o n x
leaves {o} {n} {x} {e} r i w =
    let p = err_from_is_err_and r i in
    let q : r ≡ Err e = p.1 ∙ ap Err p.2 in
    rw q w

module _ {o m : Writer} (x y : Text) where
  -- the first stops, and so do both
  pub stops : {e : Stop} → Writes (Err e) o m x → Writes (Err e) o m (λ R B. x R B then y R B)
  stops w = record { same = w.same; runs = rw (run-then (of x o) (of y o) o.dry o.at o.out.now, ← w.runs) }

  -- the first is written, and then the second
  pub goes : {u : Unit {0}} {n : Writer} {r : Result (Unit {0}) Stop} → Writes (Ok u) o m x → Writes r m n y → Writes r o n (λ R B. x R B then y R B)
  goes {u} {n} {r} w v =
      let k : run o.dry (of y o) m.at m.out.now ≡ run m.dry (of y m) m.at m.out.now = rw (w.same.dry, w.same.table) in
      record {
        same = same-trans w.same v.same;
        runs = rw (run-then (of x o) (of y o) o.dry o.at o.out.now, ← w.runs) (v.runs ∙ sym k);
      }

-- the same of bytes
module _ {o m : Writer} (xs ys : List ℕ → List ℕ → List ℕ) where
  pub puts_stop : {e : Stop} → Writes (Err e) o m (λ R B. these (xs R B)) → Writes (Err e) o m (λ R B. these (xs R B ++ ys R B))
  puts_stop w = simp these-append (stops (λ R B. these (xs R B)) (λ R B. these (ys R B)) w)

  pub puts_go : {u : Unit {0}} {n : Writer} {r : Result (Unit {0}) Stop} → Writes (Ok u) o m (λ R B. these (xs R B)) → Writes r m n (λ R B. these (ys R B))
      → Writes r o n (λ R B. these (xs R B ++ ys R B))
  puts_go w v = simp these-append (goes (λ R B. these (xs R B)) (λ R B. these (ys R B)) w v)

-- under another name
pub renamed : {o n : Writer} {r : Result (Unit {0}) Stop} (x y : Text) → of x o ≡ of y o → Writes r o n x → Writes r o n y
renamed {o} {n} {r} x y e w = record { same = w.same; runs = rw (← e) w.runs }

pub nothing : (o : Writer) {x : Text} → of x o ≡ done → Writes (Ok tt) o o x
unfolding run
nothing o e = record { same = same-refl o; runs = rw e }

pub too-deep : (o : Writer) {x : Text} → of x o ≡ deep → Writes (Err TooDeep) o o x
unfolding run
too-deep o e = record { same = same-refl o; runs = rw e }

-- ---- a loop that writes: when x is written too, all of y is

pub record Rest (o m : Writer) (x y : Text) : Type 0 where
  pub same : Same o m
  pub runs : run o.dry (of x o) m.at m.out.now ≡ run o.dry (of y o) o.at o.out.now

module _ {o m : Writer} {x y : Text} (w : Rest o m x y) where
  pub rest_end : of x o ≡ done → Writes (Ok tt) o m y
  unfolding run
  rest_end e = record { same = w.same; runs = rw e at w.runs }

  module _ (a b : Text) (e : of x o ≡ of a o then of b o) where
    run-on : run o.dry (of a o then of b o) m.at m.out.now ≡ run o.dry (of y o) o.at o.out.now
    run-on = rw e at w.runs

    same-run : run o.dry (of a o) m.at m.out.now ≡ run m.dry (of a m) m.at m.out.now
    same-run = rw (w.same.dry, w.same.table)

    pub rest_stop : {n : Writer} {s : Stop} → Writes (Err s) m n a → Writes (Err s) o n y
    rest_stop v =
        record {
          same = same-trans w.same v.same;
          runs = rw (run-then (of a o) (of b o) o.dry m.at m.out.now, same-run, ← v.runs) at run-on;
        }

    pub rest_more : {n : Writer} {u : Unit {0}} → Writes (Ok u) m n a → Rest o n b y
    rest_more v =
        record {
          same = same-trans w.same v.same;
          runs = rw (run-then (of a o) (of b o) o.dry m.at m.out.now, same-run, ← v.runs) at run-on;
        }

-- ---- all at once

-- what is stored of a run: nothing if it is dry
abbrev pub left : Bool → List ℕ → ℕ → List ℕ → List ℕ
left dry O at bs = cond dry O (sets O at bs)

abbrev pub ended : Stream → Result (Unit {0}) Stop
ended x = cond (is_deep x) (Err TooDeep) (Ok tt)

pub left-nil : (dry : Bool) (O : List ℕ) (at : ℕ) → O ≡ left dry O at []
left-nil true O at = refl
left-nil false O at = refl

left-more : (dry : Bool) (O : List ℕ) (at b : ℕ) (bs : List ℕ) → left dry (cond dry O (set O at b)) (at + 1) bs ≡ left dry O at (b ∷ bs)
left-more true O at b bs = refl
left-more false O at b bs = ap (λ (n : ℕ). sets (set O at b) n bs) (add-one at)

left-length : (dry : Bool) (O : List ℕ) (at b : ℕ) → length (cond dry O (set O at b)) ≡ length O
left-length true O at b = refl
left-length false O at b = length-set O at b

-- where all of the bytes fit
pub fits : (dry : Bool) (x : Stream) (at : ℕ) (O : List ℕ) → at + length (stream_bytes x) ≤ length O
    → run dry x at O ≡ ran (ended x) (at + length (stream_bytes x)) (left dry O at (stream_bytes x))
unfolding run stream_bytes is_deep
fits dry done at O h = rw (add-zero at) (ap (ran (Ok tt) at) (left-nil dry O at))
fits dry deep at O h = rw (add-zero at) (ap (ran (Err TooDeep) at) (left-nil dry O at))
fits dry (byte b x) at O h =
    let l : at < length O = omega arith in
    let k : at + 1 + length (stream_bytes x) ≡ at + suc (length (stream_bytes x)) = omega arith in
    let q : at + 1 + length (stream_bytes x) ≤ length (cond dry O (set O at b)) = rw (left-length dry O at b) (omega arith) in
    rw (lt-ltb _ _ l, ← k, ← left-more dry O at b (stream_bytes x)) (fits dry x (at + 1) (cond dry O (set O at b)) q)

-- where they don't
pub past : (dry : Bool) (x : Stream) (at : ℕ) (O : List ℕ) → at ≤ length O → length O < at + length (stream_bytes x)
    → run dry x at O ≡ ran (Err NoRoom) (length O) (left dry O at (take (length O - at) (stream_bytes x)))
unfolding run stream_bytes
past dry done at O l h = absurd (omega arith)
past dry deep at O l h = absurd (omega arith)
past dry (byte b x) at O l h =
    elim (dec_le (length O) at) [
      | yes k ↦
          (let q : at ≡ length O = omega arith in
          let z : length O - at ≡ 0 = omega arith in
          rw (le-ltb _ _ k, z, q) (ap (ran (Err NoRoom) (length O)) (left-nil dry O (length O))))
      | no k ↦
          (let q : at < length O = omega arith in
          let P : List ℕ = cond dry O (set O at b) in
          let n : length P ≡ length O = left-length dry O at b in
          let z : length O - at ≡ suc (length O - (at + 1)) = omega arith in
          let i : run dry x (at + 1) P ≡ ran (Err NoRoom) (length P) (left dry P (at + 1) (take (length P - (at + 1)) (stream_bytes x))) =
          past dry x (at + 1) P (omega arith) (omega arith) in
          rw (lt-ltb _ _ q, z) (i ∙ rw (n, left-more dry O at b (take (length O - (at + 1)) (stream_bytes x)))))
    ]

-- bytes alone never stop
pub these-bytes : (bs : List ℕ) → stream_bytes (these bs) ≡ bs
unfolding these stream_bytes
these-bytes [] = refl
these-bytes (b ∷ bs) = ap (λ (l : List ℕ). b ∷ l) (these-bytes bs)

pub these-end : (bs : List ℕ) → is_deep (these bs) ≡ false
unfolding these is_deep
these-end [] = refl
these-end (b ∷ bs) = these-end bs
