-- The ladder's comparisons take the step that the grammar says.
use mathlib.Core.Path.{◌≡◌, refl, sym, ap, ◌∙◌}
use mathlib.Core.Bool.{Bool, true, false, cond}
use mathlib.Core.List.{List, ◌∷◌}
use Prim.Native.Nat.{ℕ, zero, suc, ◌<◌, ◌≤◌}
use native.Mathlib.Omega.{arith}
use native.Mathlib.Decide.{dec_lt}
use lib.Dec.{eqb, eqb→eq}
use borrow.Author.Tests.{lt-ltb, le-ltb, le-leb, lt-leb, ne_eqb}
use Rattle.utf8.specs.Grammar.{Range, ◌to◌, has, Rest, broken, after, next}
use Rattle.utf8.specs.States.{rest_of, text_broken, number_of_rest, step_of}
use Rattle.utf8.specs.Ladder.{start_of, within_of, ladder_step}
use Rattle.utf8.proofs.Finite.{below_at}
use Rattle.utf8.proofs.States.{broken-step, far_step}

-- the first octet of a character: a computed test
start-step : (b : ℕ) → b < 256 → start_of b ≡ step_of 0 b
unfolding start_of step_of
start-step b h = eqb→eq (start_of b) (step_of 0 b) (below_at 256 (λ (x : ℕ). eqb (start_of x) (step_of 0 x)) tt b h)

within_has : (b lo hi then : ℕ) → within_of b lo hi then ≡ cond (has (lo to hi) b) then 8
unfolding within_of
within_has b lo hi then =
    elim (dec_lt b lo) [
      | yes l ↦ rw (lt-ltb b lo l, lt-leb lo b l)
      | no l ↦
          let m : lo ≤ b = omega arith in
          elim (dec_lt hi b) [
            | yes u ↦ rw (le-ltb b lo m, le-leb lo b m, lt-ltb hi b u, lt-leb b hi u)
            | no u ↦ let v : b ≤ hi = omega arith in rw (le-ltb b lo m, le-leb lo b m, le-ltb hi b v, le-leb b hi v)
          ]
    ]

state-cond : (t : Bool) (x y : Rest) → cond t (number_of_rest x) (number_of_rest y) ≡ number_of_rest (cond t x y)
state-cond true x y = refl
state-cond false x y = refl

-- a state that waits for a range
within_step : (k b lo hi : ℕ) (rs : List Range) → rest_of k ≡ after ((lo to hi) ∷ rs) → within_of b lo hi (number_of_rest (after rs)) ≡ step_of k b
unfolding step_of
within_step k b lo hi rs e =
    within_has b lo hi (number_of_rest (after rs))
    ∙ state-cond (has (lo to hi) b) (after rs) broken
    ∙ ap (λ (r : Rest). number_of_rest (next r b)) (sym e)

-- a number that is no octet
start_far : (b : ℕ) → 256 ≤ b → start_of b ≡ text_broken
unfolding start_of
start_far b h = rw (
  le-ltb b 0x80 (omega arith),
  le-ltb b 0xC2 (omega arith),
  le-ltb b 0xE0 (omega arith),
  ne_eqb b 0xE0 (λ e. omega arith),
  ne_eqb b 0xED (λ e. omega arith),
  le-ltb b 0xF0 (omega arith),
  ne_eqb b 0xF0 (λ e. omega arith),
  le-ltb b 0xF4 (omega arith),
  ne_eqb b 0xF4 (λ e. omega arith),
)

start_any : (b : ℕ) → start_of b ≡ step_of 0 b
start_any b =
    elim (dec_lt b 256) [
      | yes l ↦ start-step b l
      | no l ↦ let h : 256 ≤ b = omega arith in start_far b h ∙ sym (far_step 0 b h)
    ]

-- the ladder takes the grammar's step, whatever the number of the state and of the octet
pub ladder_rule : (k b : ℕ) → ladder_step k b ≡ step_of k b
unfolding ladder_step
ladder_rule zero b = start_any b
ladder_rule (suc zero) b = within_step 1 b 0x80 0xBF _ refl
ladder_rule (suc (suc zero)) b = within_step 2 b 0x80 0xBF _ refl
ladder_rule (suc (suc (suc zero))) b = within_step 3 b 0x80 0xBF _ refl
ladder_rule (suc (suc (suc (suc zero)))) b = within_step 4 b 0xA0 0xBF _ refl
ladder_rule (suc (suc (suc (suc (suc zero))))) b = within_step 5 b 0x80 0x9F _ refl
ladder_rule (suc (suc (suc (suc (suc (suc zero)))))) b = within_step 6 b 0x90 0xBF _ refl
ladder_rule (suc (suc (suc (suc (suc (suc (suc zero))))))) b = within_step 7 b 0x80 0x8F _ refl
ladder_rule (suc (suc (suc (suc (suc (suc (suc (suc k)))))))) b = sym (broken-step (suc (suc (suc (suc (suc (suc (suc (suc k)))))))) b (omega arith))
