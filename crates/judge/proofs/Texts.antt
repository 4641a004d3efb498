-- Texts that are known.
use mathlib.Core.Path.{◌≡◌, refl}
use mathlib.Core.Bool.{Bool, true, false, cond, not, ◌&&◌}
use mathlib.Core.List.{List}
use Prim.Native.Nat.{ℕ}
use lib.Dec.{eqb, ltb}
use Rattle.rows.specs.declared.Span.{Span}
use Rattle.rows.specs.Memory.{span, col_kind, col_key_size, col_body_begin, col_body_size, col_class_mark, col}
use Rattle.rows.specs.Kinds.{kind_object}
use Rattle.utf8.specs.Grammar.{valid_text, follow}
use Rattle.format.specs.Standard.{is_star}
use Rattle.format.specs.Unfold.{part, body_of, key_text}
use Rattle.format.specs.RowTest.{has_text, has_class, number_writable, body_writable}
use Rattle.format.proofs.Tests.{on_bool, both}
use Rattle.judge.specs.declared.Known.{Known}
use Rattle.judge.specs.Pass.{is_valid, Valid, row_writable, last_key, last_body}

-- what is asked of a class, beside that it is a text
abbrev named : List ℕ → List ℕ → ℕ → Bool
named R B i = cond (eqb (col R i col_kind) kind_object) (ltb 0 (col R i col_body_size)) (not (is_star (body_of R B i)))

none-valid : (B : List ℕ) → is_valid B (span 0 0)
unfolding part valid_text follow
none-valid B = refl

-- nothing is known at first
pub fresh_valid : (B : List ℕ) (k : Known) → ((k.key.begin ≡ 0) × (k.key.size ≡ 0)) × ((k.body.begin ≡ 0) × (k.body.size ≡ 0)) → Valid B k
fresh_valid B k ((a, b), (c, d)) = (rw (a, b) (none-valid B), rw (c, d) (none-valid B))

-- the last texts that were judged are texts, behind a row that can be written
module _ (R B : List ℕ) (i : ℕ) (known : Span) (h : row_writable R B i ≡ true) (valid : is_valid B known) where
  written : (number_writable R i (col R i col_kind) ≡ true) × (body_writable R B i (col R i col_kind) ≡ true) × (valid_text (key_text R B i) ≡ true)
  unfolding row_writable
  written =
      let (more, key) = both _ (valid_text (key_text R B i)) h in
      let (number, body) = both (number_writable R i (col R i col_kind)) (body_writable R B i (col R i col_kind)) more in
      (number, body, key)

  pub last-key-valid : is_valid B (last_key R i known)
  unfolding last_key
  last-key-valid = on_bool (eqb (col R i col_key_size) 0) (λ t. rw t valid) (λ t. rw t written.2)

  pub last-body-valid : is_valid B (last_body R i known)
  unfolding last_body body_writable
  last-body-valid = by (has_text (col R i col_kind)) (has_class (col R i col_kind) && eqb (col R i col_class_mark) 1) written.1
    where
      by : (t c : Bool) → cond t (valid_text (body_of R B i)) (cond c (valid_text (body_of R B i) && named R B i) true) ≡ true
          → is_valid B (cond t (span (col R i col_body_begin) (col R i col_body_size)) (cond c (span (col R i col_body_begin) (col R i col_body_size)) known))
      by true c e = e
      by false true e = (both (valid_text (body_of R B i)) (named R B i) e).0
      by false false e = valid
