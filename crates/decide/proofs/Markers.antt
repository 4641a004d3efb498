-- What follows a marker, by tests of its number.
use mathlib.Core.Path.{◌≡◌, refl}
use mathlib.Core.Bool.{false, cond}
use Prim.Native.Nat.{ℕ, zero, suc, ◌<◌, ◌≤◌}
use native.Mathlib.Omega.{arith}
use lib.Dec.{ltb, eqb}
use borrow.Author.Tests.{lt-ltb, le-ltb, ne_eqb}
use Rattle.format.specs.Decide.{Kind, leaf, integer, double, string, object, sized, Body, xml, date, array, bytes, objects, dictionary, raw, four, eight, kind_of}
use Rattle.decide.specs.Outcomes.{body_no}

-- two functions agree at the first n numbers, and past them
abbrev Same : {A : Type 0} → (ℕ → A) → (ℕ → A) → ℕ → Type 0
Same f g zero = (b : ℕ) → f b ≡ g b
Same f g (suc n) = (f zero ≡ g zero) × Same (λ b. f (suc b)) (λ b. g (suc b)) n

same : {A : Type 0} (f g : ℕ → A) (n : ℕ) → Same f g n → (b : ℕ) → f b ≡ g b
same f g zero e b = e b
same f g (suc n) e zero = e.0
same f g (suc n) e (suc b) = same (λ b. f (suc b)) (λ b. g (suc b)) n e.1 b

abbrev pub kind_by : ℕ → Kind
kind_by b =
    cond (ltb b 0x04) leaf (cond (ltb 17 b) leaf (cond (eqb b 0x04) integer (cond (eqb b 0x05) double (cond (eqb b 0x06) string (cond (eqb b 0x0A) object (sized (body_no b)))))))

abbrev pub body_by : ℕ → Body
body_by b =
    cond (ltb b 0x08) xml (cond (eqb b 0x08) date (cond (eqb b 0x09) array (cond (ltb b 0x0C) xml (cond (eqb b 0x0C) bytes (cond (ltb b 0x0F) (raw four)
    (cond (eqb b 0x0F) (raw eight) (cond (eqb b 0x10) objects (cond (eqb b 0x11) dictionary xml))))))))

-- past the markers
abbrev past : ℕ → ℕ
past b = suc (suc (suc (suc (suc (suc (suc (suc (suc (suc (suc (suc (suc (suc (suc (suc (suc (suc b)))))))))))))))))

past_lt : (b n : ℕ) → n ≤ 18 → ltb (past b) n ≡ false
past_lt b n h = le-ltb (past b) n (omega arith)

past_eq : (b n : ℕ) → n < 18 → eqb (past b) n ≡ false
past_eq b n h = ne_eqb (past b) n (λ (e : past b ≡ n). omega (arith, e))

kind-past : (b : ℕ) → kind_by (past b) ≡ leaf
kind-past b = simp (past_lt b 0x04 (omega arith), lt-ltb 17 (past b) (omega arith))

body-past : (b : ℕ) → body_by (past b) ≡ xml
body-past b =
    simp (
      past_lt b 0x08 (omega arith),
      past_eq b 0x08 (omega arith),
      past_eq b 0x09 (omega arith),
      past_lt b 0x0C (omega arith),
      past_eq b 0x0C (omega arith),
      past_lt b 0x0F (omega arith),
      past_eq b 0x0F (omega arith),
      past_eq b 0x10 (omega arith),
      past_eq b 0x11 (omega arith),
    )

pub kind-by : (b : ℕ) → kind_by b ≡ kind_of b
unfolding kind_of
kind-by = same kind_by kind_of 18 (refl, (refl, (refl, (refl, (refl, (refl, (refl, (refl, (refl, (refl, (refl, (refl, (refl, (refl, (refl, (refl, (refl, (refl, kind-past))))))))))))))))))

pub body-by : (b : ℕ) → body_by b ≡ body_no b
unfolding kind_of
body-by = same body_by body_no 18 (refl, (refl, (refl, (refl, (refl, (refl, (refl, (refl, (refl, (refl, (refl, (refl, (refl, (refl, (refl, (refl, (refl, (refl, body-past))))))))))))))))))
