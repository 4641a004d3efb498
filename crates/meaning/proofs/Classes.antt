-- Classes and integers, as a row shows them.
use mathlib.Core.Path.{◌≡◌, refl}
use mathlib.Core.Bool.{Bool, true, false, cond}
use mathlib.Core.List.{List, [], ◌∷◌}
use Prim.Native.Nat.{ℕ, suc, ◌+◌, ◌-◌, ◌^◌, ◌<◌, ◌≤◌}
use native.Mathlib.Omega.{arith}
use borrow.Author.Tests.{lt-ltb, le-leb, eqb-true, eqb-false}
use lib.Dec.{ltb, eqb}
use lib.IntN.{ℤ, pos, negsuc}
use lib.ListN.{length, get_or}
use lib.Seq.{drop-cons}
use lib.Signed.{mag}
use Rattle.rows.specs.declared.Cursor.{Cursor}
use Rattle.rows.specs.declared.Span.{Span}
use Rattle.rows.specs.declared.Trait.{Trait}
use Rattle.rows.specs.Memory.{no_span, span, put}
use Rattle.wire.specs.Sign.{integer_of, column_of}
use Rattle.wire.proofs.Sign.{bits-low, bits-high, integer_remainder}
use Rattle.format.specs.Standard.{is_star}
use Rattle.format.specs.Decide.{class_of, object_class, vector_class}
use Rattle.format.specs.Unfold.{part}
use Rattle.format.specs.RowTest.{signed_fits}
use Rattle.format.proofs.Tests.{on_bool, or_true}
use Rattle.format.proofs.Lists.{part_length}
use Rattle.meaning.proofs.Ground.{Land}
use Rattle.meaning.proofs.Lands.{Valid, Class, classless, class, Full}
use Rattle.meaning.proofs.Posts.{wp_classed, Gives}

-- ---- numbers

-- an integer of 29 bits, in a column of 64
signed-fits : (v : ℤ) → mag v < 2 ^ 28 → signed_fits 28 (column_of v) ≡ true
unfolding signed_fits column_of
signed-fits (pos n) l = rw (bits-low 63 n (omega arith), lt-ltb n (2 ^ 28) l)
signed-fits (negsuc n) l =
    rw (bits-high 63 n (omega arith), le-leb (2 ^ 64 - 2 ^ 28) (2 ^ 64 - suc n) (omega arith), lt-ltb (2 ^ 64 - suc n) (2 ^ 64) (omega arith))
    (or_true (ltb (2 ^ 64 - suc n) (2 ^ 28)))

pub signed-column : (w : ℕ) → signed_fits 28 (column_of (integer_of w)) ≡ true
signed-column w = signed-fits (integer_of w) (integer_remainder w).0

-- ---- classes

-- an object's: an empty one is none
pub object-class : (L : Land) (b z : ℕ) → Valid L (span b z) → Class L Full (cond (eqb z 0) 0 1) (span b z)
object-class L b z v = on_bool (eqb z 0)
    (λ e. let f : z ≡ 0 = eqb-true z 0 e in let h : b ≡ 0 = v.within.empty f in rw (f, h) classless)
    (λ e. let f : 0 < z = (let h = eqb-false z 0 e in omega arith) in rw e (class v f))

-- whether a text is `*`
star-length : (xs : List ℕ) → (length xs ≡ 1 → ⊥) → is_star xs ≡ false
star-length [] h = refl
star-length (b ∷ []) h = absurd (h refl)
star-length (b ∷ c ∷ xs) h = refl

pub star-other : (B : List ℕ) (b z : ℕ) → b + z ≤ length B → (z ≡ 1 → ⊥) → is_star (part B b z) ≡ false
star-other B b z l h = star-length (part B b z) (λ e. h (let f = part_length B b z l in omega arith))

pub star-one : (B : List ℕ) (b z : ℕ) → b + z ≤ length B → z ≡ 1 → is_star (part B b z) ≡ eqb (get_or B b 0) 0x2A
unfolding part
star-one B b z l h = let f : b < length B = omega arith in rw (h, drop-cons B b 0)

pub wp_vector : {Q : Unit {0} → List ℕ → Cursor → Type 0} (row : ℕ) (star : Bool) (s : Span) (R : List ℕ) (c : Cursor)
    → (star ≡ true → Q tt (put (put (put R row 6 0) row 4 0) row 5 0) c)
    → (star ≡ false → Q tt (put (put (put R row 6 1) row 4 s.begin) row 5 s.size) c) → Gives Q (vector_class row star s R c)
unfolding vector_class
wp_vector row true s R c h k = wp_classed row R c 0 no_span (h refl)
wp_vector row false s R c h k = wp_classed row R c 1 s (k refl)

pub wp_object : {Q : Unit {0} → List ℕ → Cursor → Type 0} (row : ℕ) (t : Trait) (R : List ℕ) (c : Cursor)
    → Q tt (put (put (put R row 6 (cond (eqb t.size 0) 0 1)) row 4 t.begin) row 5 t.size) c → Gives Q (object_class row t R c)
unfolding object_class
wp_object row t R c h = wp_classed row R c (cond (eqb t.size 0) 0 1) (class_of t) h
