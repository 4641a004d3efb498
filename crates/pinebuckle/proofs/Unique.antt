-- The contract of each public call leaves one outcome: two that it allows are equal, in the answer, in the state and in all that is lent.
use mathlib.Core.Path.{◌≡◌, ap, sym, ◌∙◌}
use mathlib.Core.List.{List}
use Prim.Native.Nat.{ℕ}
use Rattle.std.specs.Prelude.{Option, Result, ℤ}
use Rattle.rows.specs.Memory.{Memory}
use Rattle.format.specs.declared.Answer.{Answer}
use Rattle.format.specs.declared.Refusal.{Refusal}
use Rattle.format.specs.Numbers.{Numbers}
use Rattle.format.specs.Answers.{Fed, fed, begin_call, feed_call, end_call, read, output}
use Rattle.feed.specs.declared.State.{State}
use Rattle.feed.specs.Calls.{state_numbers}
use Rattle.pinebuckle.specs.declared.Coded.{Coded}
use Rattle.pinebuckle.specs.declared.Place.{Place}
use Rattle.pinebuckle.specs.declared.Instant.{Instant}
use Rattle.pinebuckle.specs.Coding.{Passed, passed, coded_fed, left, put}
use Rattle.pinebuckle.specs.Calls.{BeginContract, FeedContract, EndContract, ReadContract, WriteContract, TextContract, MillisContract}
use Rattle.pinebuckle.specs.Calls.{CBeginContract, CFeedContract, CEndContract, CReadContract, CWriteContract, CTextContract, CMillisContract}

-- numbers as they lie in memory
abbrev placed : Numbers → State
placed k = record { head = k.head; frames = k.frames }

module _ (s t : State) (m n : Memory) where
  one-fed : (f : Fed) (a b : Answer) → fed a (state_numbers s) m ≡ f → fed b (state_numbers t) n ≡ f → (a ≡ b) × (s ≡ t) × (m ≡ n)
  one-fed f a b p q =
      let e : fed a (state_numbers s) m ≡ fed b (state_numbers t) n = p ∙ sym q in
      let k : state_numbers s ≡ state_numbers t = cc in
      (cc, ap placed k, cc)

  one-passed : (x : Passed) (a b : Coded) → passed a (state_numbers s) m ≡ x → passed b (state_numbers t) n ≡ x → (a ≡ b) × (s ≡ t) × (m ≡ n)
  one-passed x a b p q =
      let e : passed a (state_numbers s) m ≡ passed b (state_numbers t) n = p ∙ sym q in
      let k : state_numbers s ≡ state_numbers t = cc in
      (cc, ap placed k, cc)

  -- ---- begin, feed and end

  pub one-begin : (a b : Answer) (lent : Memory) → BeginContract a s m lent → BeginContract b t n lent → (a ≡ b) × (s ≡ t) × (m ≡ n)
  one-begin a b lent = one-fed (begin_call lent) a b

  pub one-feed : (a b : Answer) (from : State) (lent : Memory) (piece : List ℕ) → FeedContract a s m from lent piece → FeedContract b t n from lent piece
      → (a ≡ b) × (s ≡ t) × (m ≡ n)
  one-feed a b from lent piece = one-fed (feed_call (state_numbers from) lent piece) a b

  pub one_end : (a b : Answer) (from : State) (lent : Memory) → EndContract a s m from lent → EndContract b t n from lent → (a ≡ b) × (s ≡ t) × (m ≡ n)
  one_end a b from lent = one-fed (end_call (state_numbers from) lent) a b

  pub one_pb_begin : (a b : Coded) (lent : Memory) → CBeginContract a s m lent → CBeginContract b t n lent → (a ≡ b) × (s ≡ t) × (m ≡ n)
  one_pb_begin a b lent = one-passed (coded_fed (begin_call lent)) a b

  pub one_pb_feed : (a b : Coded) (from : State) (lent : Memory) (piece : List ℕ) → CFeedContract a s m from lent piece → CFeedContract b t n from lent piece
      → (a ≡ b) × (s ≡ t) × (m ≡ n)
  one_pb_feed a b from lent piece = one-passed (coded_fed (feed_call (state_numbers from) lent piece)) a b

  pub one_pb_end : (a b : Coded) (from : State) (lent : Memory) → CEndContract a s m from lent → CEndContract b t n from lent → (a ≡ b) × (s ≡ t) × (m ≡ n)
  one_pb_end a b from lent = one-passed (coded_fed (end_call (state_numbers from) lent)) a b

-- ---- read

pub one-read : (a b : Answer) (m n lent : Memory) (message : List ℕ) → ReadContract a m lent message → ReadContract b n lent message → (a ≡ b) × (m ≡ n)
one-read a b m n lent message p q = let e : read a m ≡ read b n = p ∙ sym q in (cc, cc)

pub one_pb_read : (a b : Coded) (m n lent : Memory) (message : List ℕ) → CReadContract a m lent message → CReadContract b n lent message → (a ≡ b) × (m ≡ n)
one_pb_read a b m n lent message p q = let e : left a m ≡ left b n = p ∙ sym q in (cc, cc)

-- ---- write

pub one-write : (a b : Result ℕ Refusal) (P Q rows store out : List ℕ) → WriteContract a P rows store out → WriteContract b Q rows store out → (a ≡ b) × (P ≡ Q)
one-write a b P Q rows store out p q = let e : output a P ≡ output b Q = p ∙ sym q in (cc, cc)

pub one_pb_write : (a b : Coded) (P Q rows store out : List ℕ) → CWriteContract a P rows store out → CWriteContract b Q rows store out → (a ≡ b) × (P ≡ Q)
one_pb_write a b P Q rows store out p q = let e : put a P ≡ put b Q = p ∙ sym q in (cc, cc)

-- ---- text

pub one-text : (x y rows store : List ℕ) (row : ℕ) (default : List ℕ) → TextContract x rows store row default → TextContract y rows store row default → x ≡ y
one-text x y rows store row default p q = p ∙ sym q

pub one_pb_text : (x y : Place) (rows store : List ℕ) (row : ℕ) → CTextContract x rows store row → CTextContract y rows store row → x ≡ y
one_pb_text x y rows store row p q = p ∙ sym q

-- ---- millis

pub one-millis : (x y : Option ℤ) (rows store : List ℕ) (row : ℕ) → MillisContract x rows store row → MillisContract y rows store row → x ≡ y
one-millis x y rows store row p q = p ∙ sym q

pub one_pb_millis : (x y : Instant) (rows store : List ℕ) (row : ℕ) → CMillisContract x rows store row → CMillisContract y rows store row → x ≡ y
one_pb_millis x y rows store row p q = p ∙ sym q
