-- The class rule, computed over the whole table.
use mathlib.Core.Path.{◌≡◌, refl, ap, sym, ◌∙◌}
use mathlib.Core.Bool.{Bool, true, false, not}
use mathlib.Core.List.{List, [], ◌∷◌, map}
use Prim.Native.Nat.{ℕ, suc, ◌+◌, ◌-◌, ◌/◌, ◌%◌, ◌<◌, ◌≤◌}
use native.Mathlib.Omega.{arith}
use native.Mathlib.Decide.{dec_lt}
use lib.Dec.{T, eqb, ltb, ltb→lt}
use lib.ListN.{length, get_or, replicate, get_or-eq_default}
use borrow.Author.Tests.{ne_eqb}
use Rattle.utf8.specs.Grammar.{Range, ◌to◌}
use Rattle.utf8.specs.Tables.{line_width, ranges, never_appears, among, in_class, classes, class_of}
use Rattle.utf8.proofs.Finite.{below, below_at}

pub far_class : (b : ℕ) → 256 ≤ b → class_of b ≡ never_appears
far_class b h = ap (λ (l : List ℕ). get_or l (b % line_width) never_appears) (get_or-eq_default classes [] {n = b / line_width} (omega arith))

pub class_lt : (b : ℕ) → class_of b < length ranges
class_lt b =
    elim (dec_lt b 256) [
      | yes l ↦ ltb→lt (class_of b) (length ranges) (below_at 256 (λ (x : ℕ). ltb (class_of x) (length ranges)) tt b l)
      | no l ↦ let e : class_of b ≡ never_appears = far_class b (omega arith) in rw e (omega arith)
    ]

abbrev alike : Bool → Bool → Bool
alike true t = t
alike false t = not t

alike_eq : (s t : Bool) → T (alike s t) → s ≡ t
alike_eq true true h = refl
alike_eq true false h = absurd h
alike_eq false true h = absurd h
alike_eq false false h = refl

abbrev class-right : ℕ → ℕ → Bool
class-right b c = alike (in_class c b) (eqb c (class_of b))

-- the class rule: the ranges of a class have an octet just where it is the octet's class
pub class_rule : (b c : ℕ) → b < 256 → in_class c b ≡ eqb c (class_of b)
class_rule b c h =
    elim (dec_lt c (length ranges)) [
      | yes l ↦
          alike_eq (in_class c b) (eqb c (class_of b))
          (below_at (length ranges) (class-right b) (below_at 256 (λ (x : ℕ). below (length ranges) (class-right x)) tt b h) c l)
      | no l ↦
          ap (λ rs. among rs b) (get_or-eq_default ranges [] {n = c} (omega arith))
          ∙ sym (ne_eqb c (class_of b) (λ e. omega (arith, e, class_lt b)))
    ]

-- ---- the table and the ranges have the octets, and nothing else

pub class_lines : map length classes ≡ replicate line_width line_width
class_lines = refl

abbrev octets_in : List Range → ℕ
octets_in [] = 0
octets_in ((lo to hi) ∷ rs) = suc hi - lo + octets_in rs

abbrev all_octets_in : List (List Range) → ℕ
all_octets_in [] = 0
all_octets_in (rs ∷ rss) = octets_in rs + all_octets_in rss

-- as many octets as there are, so that none stands twice, and none above FF
pub range_octets : all_octets_in ranges ≡ 256
range_octets = refl
