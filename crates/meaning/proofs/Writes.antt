-- What a writing leaves, on any rows, store and output: every way in which it can end, and when it ends so.
use mathlib.Core.Path.{◌≡◌, refl, ap, sym, ◌∙◌}
use mathlib.Core.Bool.{true, false, cond}
use mathlib.Core.List.{List, [], ◌++◌}
use Prim.Native.Nat.{ℕ, zero, suc, ◌≤◌}
use native.Mathlib.Omega.{arith}
use native.Mathlib.Decide.{dec_le}
use borrow.Author.Tests.{le-ltb, lt-ltb, le-leb, lt-leb}
use lib.Dec.{leb}
use lib.ListN.{length, take, drop, length-append, length-drop}
use lib.Seq.{take-append_seam, drop-append_seam}
use Rattle.rows.specs.Memory.{open_limit, fault_of, memory}
use Rattle.format.specs.Standard.{Tree, encode}
use Rattle.format.specs.Unfold.{unfolded}
use Rattle.format.specs.RowTest.{Tested, fine, faulty, tested}
use Rattle.format.specs.Writing.{stream_bytes, is_deep, emit, Wrote, written, unwritten, settle, after_test, after_fault, writing}
use Rattle.std.specs.Prelude.{Ok}
use Rattle.format.specs.Answers.{output, written_of, write_call}
use Rattle.format.proofs.Tests.{clash}
use Rattle.meaning.proofs.Parts.{depth}
use Rattle.meaning.proofs.Emit.{begins_prefix, emit-whole, emit-deep, nested-deep, emit-stop}
pub use Rattle.format.specs.Endings.{First, Unrefused, Ends, whole, full, too_deep, full_before, Outcome, fault, unfit, passed, Accepted}

-- ---- the end of a tree's writing

stop-first : (n : ℕ) (t : Tree) → is_deep (emit n t) ≡ true → First n t (stream_bytes (emit n t))
stop-first n t e =
    record {
      value = (emit-stop n t e).0;
      nested = (emit-stop n t e).1;
      first = λ u y h. let (rest, g) = begins_prefix (nested-deep n t u y h).1 in rw g (omega (arith, length-append (stream_bytes (emit n t)) rest));
    }

first-length : (n : ℕ) (t : Tree) (x : List ℕ) → First n t x → (is_deep (emit n t) ≡ true) × (length x ≡ length (stream_bytes (emit n t)))
first-length n t x f =
    let d = nested-deep n t f.value x f.nested in
    let (rest, g) = begins_prefix d.1 in
    let l : length x ≤ length (stream_bytes (emit n t)) = f.first _ _ (emit-stop n t d.0).1 in
    (d.0, omega (arith, ap length g, length-append (stream_bytes (emit n t)) rest))

module _ (t : Tree) (out : List ℕ) where
  settled : settle (emit open_limit t) out
      ≡ cond (leb (length (stream_bytes (emit open_limit t))) (length out))
      (cond (is_deep (emit open_limit t)) (unwritten 9 0 (length (stream_bytes (emit open_limit t))) out)
      (written (length (stream_bytes (emit open_limit t))) (stream_bytes (emit open_limit t) ++ drop (length (stream_bytes (emit open_limit t))) out)))
      (unwritten 10 7 (length out) out)
  unfolding settle
  settled = refl

  shallow : depth t ≤ open_limit → is_deep (emit open_limit t) ≡ false
  shallow h = emit-deep open_limit t ∙ le-ltb open_limit (depth t) h

  ends_is : {w : Wrote} → Ends t out w → settle (emit open_limit t) out ≡ w
  ends_is (whole d l) =
      let e = emit-whole open_limit t (shallow d) in
      settled ∙ rw (shallow d, e, le-leb (length (encode t)) (length out) l)
  ends_is (full d l) =
      let e = emit-whole open_limit t (shallow d) in
      settled ∙ rw (shallow d, e, lt-leb (length (encode t)) (length out) l)
  ends_is (too_deep x f l) =
      let (d, e) = first-length open_limit t x f in
      settled ∙ rw (d, ← e, le-leb (length x) (length out) l)
  ends_is (full_before x f l) =
      let (d, e) = first-length open_limit t x f in
      settled ∙ rw (d, ← e, lt-leb (length x) (length out) l)

  ends : Ends t out (settle (emit open_limit t) out)
  ends =
      elim (dec_le (depth t) open_limit) [
        | yes d ↦ elim (dec_le (length (encode t)) (length out)) [
          | yes l ↦ (let h : Ends t out _ = whole d l in rw (ends_is h) h)
          | no l ↦ (let h : Ends t out _ = full d (omega arith) in rw (ends_is h) h)
        ]
        | no d ↦
            (let f : First open_limit t (stream_bytes (emit open_limit t)) =
            stop-first open_limit t (emit-deep open_limit t ∙ lt-ltb open_limit (depth t) (omega arith)) in
            elim (dec_le (length (stream_bytes (emit open_limit t))) (length out)) [
              | yes l ↦ (let h : Ends t out _ = too_deep _ f l in rw (ends_is h) h)
              | no l ↦ (let h : Ends t out _ = full_before _ f (omega arith) in rw (ends_is h) h)
            ])
      ]

-- ---- the whole writing

module _ (R B out : List ℕ) where
  after-test : (x : Tested) → fault_of (memory R B [] [] [] []) ≡ 0 → tested R B ≡ x
      → Outcome R B out (after_test x (emit open_limit (unfolded R B 0)) out)
  after-test fine e f = passed (record { lent = e; rows = f }) (ends (unfolded R B 0) out)
  after-test (faulty n row) e f = unfit n row e f

  after-fault : (n : ℕ) → fault_of (memory R B [] [] [] []) ≡ n
      → Outcome R B out (after_fault n out (after_test (tested R B) (emit open_limit (unfolded R B 0)) out))
  after-fault zero e = after-test (tested R B) e refl
  after-fault (suc n) e = fault n e

  -- it ends in one of these ways
  pub writes : Outcome R B out (writing R B out)
  unfolding writing
  writes = after-fault (fault_of (memory R B [] [] [] [])) refl

  -- and so wherever its conditions hold
  pub writes-only : {w : Wrote} → Outcome R B out w → writing R B out ≡ w
  unfolding writing
  writes-only (fault n e) = rw e
  writes-only (unfit n row e f) = rw (e, f)
  writes-only (passed p h) = rw (p.lent, p.rows) (ends_is (unfolded R B 0) out h)

-- ---- an accepted writing, and a refused one

module _ (R B out P : List ℕ) where
  -- what the call accepts, the writing does
  pub call-wrote : (n : ℕ) → write_call R B out ≡ output (Ok n) P → writing R B out ≡ written n P
  unfolding write_call
  call-wrote n e = of (writing R B out) e
    where
      of : (w : Wrote) → written_of w ≡ output (Ok n) P → w ≡ written n P
      of (written k Q) e = cc
      of (unwritten i t p Q) e = clash cc

  end-accepted : {w : Wrote} (n : ℕ) → Unrefused R B → Ends (unfolded R B 0) out w → w ≡ written n P → Accepted R B out n P
  end-accepted n p (whole d l) e =
      let m : length (encode (unfolded R B 0)) ≡ n = cc in
      let q : encode (unfolded R B 0) ++ drop (length (encode (unfolded R B 0))) out ≡ P = cc in
      record { passes = p; shallow = d; size = sym m; fits = omega arith; output = sym q ∙ ap (λ (k : ℕ). encode (unfolded R B 0) ++ drop k out) m }
  end-accepted n p (full d l) e = clash cc
  end-accepted n p (too_deep x f l) e = clash cc
  end-accepted n p (full_before x f l) e = clash cc

  is-accepted : {w : Wrote} (n : ℕ) → Outcome R B out w → w ≡ written n P → Accepted R B out n P
  is-accepted n (fault m g) e = clash cc
  is-accepted n (unfit m row g h) e = clash cc
  is-accepted n (passed p h) e = end-accepted n p h e

  -- accepted exactly where nothing is refused, the tree nests no deeper than the limit and its bytes fit
  pub accepted : (n : ℕ) → writing R B out ≡ written n P → Accepted R B out n P
  accepted n e = is-accepted n (writes R B out) e

  pub accepts : (n : ℕ) → Accepted R B out n P → writing R B out ≡ written n P
  accepts n a =
      let s : length (encode (unfolded R B 0)) ≡ n = sym a.size in
      writes-only R B out (passed a.passes (whole a.shallow (omega (arith, a.fits))))
      ∙ rw (s, ← a.output)

  -- only the reported bytes change
  pub reported : (n : ℕ) → Accepted R B out n P → (take n P ≡ encode (unfolded R B 0)) × (drop n P ≡ drop n out) × (length P ≡ length out)
  reported n a =
      let x : List ℕ = encode (unfolded R B 0) in
      rw (a.output, a.size) (
        take-append_seam x (drop (length x) out),
        drop-append_seam x (drop (length x) out),
        simp (length-append, length-drop) (omega (arith, a.fits, a.size)),
      )

  end_refused : {w : Wrote} (number told place : ℕ) → Ends (unfolded R B 0) out w → w ≡ unwritten number told place P → P ≡ out
  end_refused number told place (whole d l) e = clash cc
  end_refused number told place (full d l) e = cc
  end_refused number told place (too_deep x f l) e = cc
  end_refused number told place (full_before x f l) e = cc

  is-refused : {w : Wrote} (number told place : ℕ) → Outcome R B out w → w ≡ unwritten number told place P → P ≡ out
  is-refused number told place (fault m g) e = cc
  is-refused number told place (unfit m row g h) e = cc
  is-refused number told place (passed p h) e = end_refused number told place h e

  -- a refused writing changes no byte
  pub refused : (number told place : ℕ) → writing R B out ≡ unwritten number told place P → P ≡ out
  refused number told place e = is-refused number told place (writes R B out) e
