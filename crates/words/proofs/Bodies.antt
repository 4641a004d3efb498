-- What a size word is of, by its purpose; and a body, by how many bytes are to come.
use Rattle.std.proofs.Common.{◌≡◌, List, ℕ, zero, suc, ◌-◌, ◌≤◌, refl, arith}
use Rattle.rows.specs.declared.Cursor.{Cursor}
use Rattle.rows.specs.declared.Span.{Span}
use Rattle.rows.specs.Memory.{Memory}
use Rattle.wire.specs.Word.{size_of}
use Rattle.format.specs.declared.Frame.{Frame}
use Rattle.format.specs.declared.Work.{Work}
use Rattle.format.specs.Codes.{mode_raw, purpose_xml, purpose_dictionary}
use Rattle.format.specs.Decide.{xml, on_rows, closed}
use Rattle.format.specs.Step.{Word, size_word, body_sized, worded, broken, wait, ends, at_text, xml_text, at_raw, texting, filling}
use Rattle.format.specs.Numbers.{with_body, with_word, with_raw, work, work_of, no_trait, body_purpose}
use Rattle.states.specs.Purposes.{IsWord, IsRaw}
use Rattle.states.proofs.Purposes.{between, purposed, raw_of, raws}

word-is : {A : Type 0} (a : A) (w : Work) (f : Word → A) → IsWord w → (w.purpose ≡ 1 → ⊥) → (w.purpose ≡ 2 → ⊥) → w.purpose ≤ purpose_dictionary
    → with_word a w f ≡ f (size_word w.row (with_body xml w.purpose (λ b. b)))
word-is a w f h n k l =
    between (λ p. with_word a (purposed w p) f ≡ f (size_word w.row (with_body xml p (λ b. b)))) purpose_xml 8
    (refl, (refl, (refl, (refl, (refl, (refl, (refl, (refl, tt)))))))) w.purpose (omega arith) (omega arith)

module _ (ts : List Frame) (c : Cursor) (m : Memory) where
  -- a word that is neither an integer's nor an object's, up to the last body
  pub word-of-body : (w : Work) (n : ℕ) → IsWord w → (w.purpose ≡ 1 → ⊥) → (w.purpose ≡ 2 → ⊥) → w.purpose ≤ purpose_dictionary
      → with_word (broken m) w (λ y. worded ts y n c m) ≡ body_sized ts w.row (with_body xml w.purpose (λ b. b)) (size_of n) c m
  unfolding worded
  word-of-body w n h i j l = word-is (broken m) w (λ y. worded ts y n c m) h i j l

  -- bytes of a text
  pub no_text : (row : ℕ) (s : Span) (n : ℕ) → n ≡ 0 → texting ts row s n c m ≡ ends ts (on_rows (closed row)) c m
  unfolding texting
  no_text row s n z = rw z

  pub more-text : (row : ℕ) (s : Span) (n : ℕ) → (n ≡ 0 → ⊥) → texting ts row s n c m ≡ wait (at_text (xml_text row) s (n - 1) 0) ts c m
  unfolding texting
  more-text row s zero z = absurd (z refl)
  more-text row s (suc n) z = let d : suc n - 1 ≡ n = omega arith in rw d

  -- raw bytes
  pub no_bytes : (purpose row : ℕ) (s : Span) (n : ℕ) → IsRaw purpose → n ≡ 0
      → with_raw (broken m) purpose row (λ r. filling ts r s n c m) ≡ ends ts (on_rows (closed row)) c m
  unfolding filling
  no_bytes purpose row s n h z =
      between (λ p. with_raw (broken m) p row (λ r. filling ts r s n c m) ≡ ends ts (on_rows (closed row)) c m) 6 3 (rw z, (rw z, (rw z, tt))) purpose (omega arith) (omega arith)

  pub more_bytes : (purpose row : ℕ) (s : Span) (n : ℕ) → IsRaw purpose → (n ≡ 0 → ⊥)
      → with_raw (broken m) purpose row (λ r. filling ts r s n c m) ≡ wait (at_raw (raw_of purpose row) s (n - 1)) ts c m
  unfolding filling
  more_bytes purpose row s zero h z = absurd (z refl)
  more_bytes purpose row s (suc n) h z = let d : suc n - 1 ≡ n = omega arith in rw d (raws (broken m) purpose row (λ r. filling ts r s (suc n) c m) h)

pub raw_work : (purpose row left : ℕ) (s : Span) → IsRaw purpose → work mode_raw purpose row left 0 s no_trait 0 0 ≡ work_of (at_raw (raw_of purpose row) s left)
unfolding work_of body_purpose
raw_work purpose row left s h =
    between (λ p. work mode_raw p row left 0 s no_trait 0 0 ≡ work_of (at_raw (raw_of p row) s left)) 6 3 (refl, (refl, (refl, tt))) purpose (omega arith) (omega arith)
