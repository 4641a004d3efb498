-- Each public call's contract is an equation with its definition on the right: two outcomes that it allows are equal, in the answer and in all that is left.
use mathlib.Core.Path.{◌≡◌, sym, ◌∙◌}
use mathlib.Core.List.{List}
use Prim.Native.Nat.{ℕ}
use Rattle.rows.specs.Memory.{Memory}
use Rattle.format.specs.declared.Answer.{Answer}
use Rattle.std.specs.Prelude.{Result}
use Rattle.format.specs.declared.Refusal.{Refusal}
use Rattle.format.specs.Numbers.{Numbers}
use Rattle.format.specs.Answers.{Fed, fed, read, output, begin_call, feed_call, end_call, read_call, write_call, text_call}

-- begin, feed and end leave an answer, a state and the loans
one-fed : (f : Fed) (a b : Answer) (s t : Numbers) (m n : Memory) → fed a s m ≡ f → fed b t n ≡ f → (a ≡ b) × (s ≡ t) × (m ≡ n)
one-fed f a b s t m n p q = let e : fed a s m ≡ fed b t n = p ∙ sym q in (cc, cc, cc)

module _ (a b : Answer) (s t : Numbers) (m n : Memory) where
  pub one-begin : (lent : Memory) → fed a s m ≡ begin_call lent → fed b t n ≡ begin_call lent → (a ≡ b) × (s ≡ t) × (m ≡ n)
  one-begin lent p q = one-fed (begin_call lent) a b s t m n p q

  pub one-feed : (state : Numbers) (lent : Memory) (piece : List ℕ)
      → fed a s m ≡ feed_call state lent piece → fed b t n ≡ feed_call state lent piece → (a ≡ b) × (s ≡ t) × (m ≡ n)
  one-feed state lent piece p q = one-fed (feed_call state lent piece) a b s t m n p q

  pub one_end : (state : Numbers) (lent : Memory) → fed a s m ≡ end_call state lent → fed b t n ≡ end_call state lent → (a ≡ b) × (s ≡ t) × (m ≡ n)
  one_end state lent p q = one-fed (end_call state lent) a b s t m n p q

pub one-read : (a b : Answer) (m n lent : Memory) (message : List ℕ) → read a m ≡ read_call lent message → read b n ≡ read_call lent message → (a ≡ b) × (m ≡ n)
one-read a b m n lent message p q = let e : read a m ≡ read b n = p ∙ sym q in (cc, cc)

pub one-write : (a b : Result ℕ Refusal) (x y rows store out : List ℕ)
    → output a x ≡ write_call rows store out → output b y ≡ write_call rows store out → (a ≡ b) × (x ≡ y)
one-write a b x y rows store out p q = let e : output a x ≡ output b y = p ∙ sym q in (cc, cc)

pub one-text : (x y rows store : List ℕ) (row : ℕ) (default : List ℕ) → x ≡ text_call rows store row default → y ≡ text_call rows store row default → x ≡ y
one-text x y rows store row default p q = p ∙ sym q
