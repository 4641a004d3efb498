-- The tables move as the grammar says, computed over the whole table.
use mathlib.Core.Path.{◌≡◌, refl, ap, sym, subst, ◌∙◌}
use mathlib.Core.Bool.{Bool, true, false, cond}
use mathlib.Core.List.{List, [], map}
use Prim.Native.Nat.{ℕ, suc, ◌<◌, ◌≤◌}
use native.Mathlib.Omega.{arith}
use native.Mathlib.Decide.{dec_lt}
use lib.Dec.{T, eqb, leb, eqb→eq, eqb_refl, le→leb}
use lib.ListN.{length, get_or, replicate, get_or-eq_default}
use Rattle.utf8.specs.States.{text_broken, step_of}
use Rattle.utf8.specs.Tables.{line_width, ranges, never_appears, classes, at_octet, class_of, moves, move_of, looked_up, table_step}
use Rattle.utf8.proofs.Finite.{below, below_at, below_all}
use Rattle.utf8.proofs.States.{broken-step, far_step}
use Rattle.utf8.proofs.Classes.{far_class, class_lt}

-- the lines of the moves are the states, 0 to the last, each of sixteen numbers
pub move_lines : map length moves ≡ replicate (suc text_broken) line_width
move_lines = refl

-- a test that is asked where another passes
where_so : (t u : Bool) → T (cond t u true) → T t → T u
where_so true u h t = h
where_so false u h t = absurd t

abbrev move-right : ℕ → ℕ → Bool
move-right k b = eqb (table_step k b) (step_of k b)

-- the tables move as the grammar says, whatever the number of the state and of the octet
pub move_rule : (k b : ℕ) → table_step k b ≡ step_of k b
unfolding step_of
move_rule k b =
    elim (dec_lt k (length moves)) [
      | yes s ↦
          elim (dec_lt b 256) [
            | yes o ↦ eqb→eq (table_step k b) (step_of k b) (below_at 256 (move-right k) (below_at (length moves) (λ (x : ℕ). below 256 (move-right x)) tt k s) b o)
            | no o ↦
                let h : 256 ≤ b = omega arith in
                ap (move_of k) (far_class b h)
                ∙ eqb→eq (move_of k never_appears) text_broken (below_at (length moves) (λ (x : ℕ). eqb (move_of x never_appears) text_broken) tt k s)
                ∙ sym (far_step k b h)
          ]
      | no s ↦
          ap (λ (l : List ℕ). get_or l (class_of b) text_broken) (get_or-eq_default moves [] {n = k} (omega arith))
          ∙ sym (broken-step k b (omega arith))
    ]

-- a plain octet between characters moves to there
pub plain_step : (b : ℕ) → b < 0x80 → step_of 0 b ≡ 0
unfolding step_of
plain_step b h = eqb→eq (step_of 0 b) 0 (below_at 0x80 (λ (x : ℕ). eqb (step_of 0 x) 0) tt b h)

-- ---- octets of one class, and they alone, are alike in every state: there is no class too few, and none too many

pub same_class : (a b : ℕ) → class_of a ≡ class_of b → (k : ℕ) → step_of k a ≡ step_of k b
same_class a b e k = sym (move_rule k a) ∙ ap (move_of k) e ∙ move_rule k b

abbrev moves-alike : ℕ → ℕ → Bool
moves-alike c d = below (length moves) (λ (k : ℕ). eqb (move_of k c) (move_of k d))

abbrev told-apart : ℕ → ℕ → Bool
told-apart c d = cond (moves-alike c d) (eqb c d) true

pub class_same : (a b : ℕ) → ((k : ℕ) → step_of k a ≡ step_of k b) → class_of a ≡ class_of b
class_same a b h =
    let c : ℕ = class_of a in
    let d : ℕ = class_of b in
    let e : (k : ℕ) → move_of k c ≡ move_of k d = λ k. move_rule k a ∙ h k ∙ sym (move_rule k b) in
    eqb→eq c d
    (where_so (moves-alike c d) (eqb c d)
    (below_at (length ranges) (told-apart c) (below_at (length ranges) (λ (x : ℕ). below (length ranges) (told-apart x)) tt c (class_lt a)) d (class_lt b))
    (below_all (length moves) (λ (k : ℕ). eqb (move_of k c) (move_of k d)) (λ k. subst (λ (x : ℕ). T (eqb (move_of k c) x)) (e k) (eqb_refl (move_of k c)))))

abbrev no_move : ℕ → ℕ → Bool
no_move k c = cond (leb (length ranges) c) (eqb (move_of k c) text_broken) true

-- a column that is no class has no move
pub no-class : (k c : ℕ) → length ranges ≤ c → move_of k c ≡ text_broken
no-class k c h =
    elim (dec_lt k (length moves)) [
      | yes s ↦
          elim (dec_lt c line_width) [
            | yes l ↦
                eqb→eq (move_of k c) text_broken
                (where_so (leb (length ranges) c) (eqb (move_of k c) text_broken)
                (below_at line_width (no_move k) (below_at (length moves) (λ (x : ℕ). below line_width (no_move x)) tt k s) c l) (le→leb (length ranges) c h))
            | no l ↦
                get_or-eq_default (get_or moves k []) text_broken {n = c}
                (subst (λ (n : ℕ). n ≤ c) (sym (eqb→eq _ line_width (below_at (length moves) (λ (x : ℕ). eqb (length (get_or moves x [])) line_width) tt k s))) (omega arith))
          ]
      | no s ↦ ap (λ (l : List ℕ). get_or l c text_broken) (get_or-eq_default moves [] {n = k} (omega arith))
    ]

-- ---- a lookup in the tables

class-there : (b : ℕ) → b < 256 → at_octet 0 classes b ≡ class_of b
class-there b h = eqb→eq _ _ (below_at 256 (λ (x : ℕ). eqb (at_octet 0 classes x) (class_of x)) tt b h)

move-there : (k c : ℕ) → k < length moves → c < length ranges → get_or (get_or moves k []) c 0 ≡ move_of k c
move-there k c s h =
    eqb→eq _ _
    (below_at (length ranges) (λ (y : ℕ). eqb (get_or (get_or moves k []) y 0) (move_of k y))
    (below_at (length moves) (λ (x : ℕ). below (length ranges) (λ (y : ℕ). eqb (get_or (get_or moves x []) y 0) (move_of x y))) tt k s) c h)

pub class-column : (b : ℕ) → b < 256 → at_octet 0 classes b < line_width
class-column b h = let l : class_of b < length ranges = class_lt b in rw (class-there b h) (omega arith)

pub looked-up : (k b : ℕ) → k ≤ text_broken → b < 256 → looked_up classes moves k b ≡ step_of k b
looked-up k b s h = rw (class-there b h) (move-there k (class_of b) (omega arith) (class_lt b)) ∙ move_rule k b
