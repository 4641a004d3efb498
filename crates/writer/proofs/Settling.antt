-- A dry run and then a real one are what `settle` says.
use mathlib.Core.Path.{◌≡◌, ◌∙◌}
use mathlib.Core.Bool.{Bool, true, false, cond}
use mathlib.Core.List.{List, ◌++◌}
use Prim.Native.Nat.{ℕ, ◌+◌, ◌<◌, ◌≤◌}
use native.Mathlib.Omega.{arith}
use native.Mathlib.Nat.{zero-add}
use native.Mathlib.Decide.{dec_le}
use borrow.Author.Tests.{le-leb, lt-leb}
use lib.ListN.{length, drop}
use lib.Seq.{sets, sets-eq}
use Rattle.std.specs.Prelude.{Result, Ok, Err}
use Rattle.format.specs.Answers.{output, written_of}
use Rattle.format.specs.Writing.{Stream, stream_bytes, is_deep, written, unwritten, settle}
use Rattle.writer.specs.declared.Stop.{Stop}
use Rattle.writer.specs.declared.Stop.TheVariants.{NoRoom, TooDeep}
use Rattle.writer.specs.Run.{ran, run, refusal_at}
use Rattle.writer.proofs.Streams.{ended, fits, past}

module _ (x : Stream) (O : List ℕ) where
  abbrev size : ℕ
  size = length (stream_bytes x)

  module _ {m : Result (Unit {0}) Stop} {a : ℕ} {P : List ℕ} (d : ran m a P ≡ run true x 0 O) where
    fitted : size ≤ length O → ran m a P ≡ ran (ended x) size O
    fitted l = rw (zero-add size) at (d ∙ fits true x 0 O (omega arith))

    passed : length O < size → ran m a P ≡ ran (Err NoRoom) (length O) O
    passed l = d ∙ past true x 0 O (omega arith) (omega arith)

  stopped : {e : Stop} {a : ℕ} {P : List ℕ} (t : Bool) → ran (Err e) a P ≡ ran (cond t (Err TooDeep) (Ok tt)) size O
      → output (Err (refusal_at e a)) P ≡ written_of (cond t (unwritten 9 0 size O) (written size (stream_bytes x ++ drop size O)))
  stopped {e} {a} {P} true f = let q : e ≡ TooDeep = cc in rw q (cc)
  stopped false f = cc

  -- the measure stops: a refusal, and no byte has changed
  pub settle-stop : {e : Stop} {a : ℕ} {P : List ℕ} → ran (Err e) a P ≡ run true x 0 O → output (Err (refusal_at e a)) P ≡ written_of (settle x O)
  unfolding settle
  settle-stop {e} {a} {P} d =
      elim (dec_le size (length O)) [
        | yes l ↦ rw (le-leb _ _ l) (stopped (is_deep x) (fitted d l))
        | no l ↦
            (let k : length O < size = omega arith in
            let f : ran (Err e) a P ≡ ran (Err NoRoom) (length O) O = passed d k in
            let q : e ≡ NoRoom = cc in
            rw (lt-leb _ _ k, q) (cc))
      ]

  module _ {u : Unit {0}} {n : ℕ} {P : List ℕ} (d : ran (Ok u) n P ≡ run true x 0 O) where
    whole : {Q : List ℕ} (t : Bool) → ran (Ok u) n P ≡ ran (cond t (Err TooDeep) (Ok tt)) size O → Q ≡ stream_bytes x ++ drop size O
        → output (Ok n) Q ≡ written_of (cond t (unwritten 9 0 size O) (written size (stream_bytes x ++ drop size O)))
    whole true f s = cc
    whole false f s = cc

    -- it doesn't: the real run writes so many bytes
    pub settle-written : {w : Result (Unit {0}) Stop} {b : ℕ} {Q : List ℕ} → ran w b Q ≡ run false x 0 P → output (Ok n) Q ≡ written_of (settle x O)
    unfolding settle
    settle-written {w} {b} {Q} r =
        elim (dec_le size (length O)) [
          | yes l ↦
              (let o : P ≡ O = same (fitted d l) in
              let h : ran w b Q ≡ ran (ended x) (0 + size) (sets O 0 (stream_bytes x)) = (rw o at r) ∙ fits false x 0 O (omega arith) in
              let s : Q ≡ sets O 0 (stream_bytes x) = cc in
              let z : sets O 0 (stream_bytes x) ≡ stream_bytes x ++ drop size O =
              rw (zero-add size) at (sets-eq (stream_bytes x) O 0 (omega arith)) in
              rw (le-leb _ _ l) (whole (is_deep x) (fitted d l) (s ∙ z)))
          | no l ↦
              (let k : length O < size = omega arith in
              let f : ran (Ok u) n P ≡ ran (Err NoRoom) (length O) O = passed d k in
              rw (lt-leb _ _ k) (cc))
        ]
      where
        same : {q : Result (Unit {0}) Stop} {c : ℕ} → ran (Ok u) n P ≡ ran q c O → P ≡ O
        same f = cc
