-- What the numbers of a work are for: where its purpose is in range, a row of tests of it chooses one thing.
use mathlib.Core.Path.{◌≡◌, refl, sym, ap, subst, ◌∙◌}
use mathlib.Core.Bool.{Bool, true, false, cond}
use Prim.Native.Nat.{ℕ, zero, suc, ◌+◌, ◌-◌, ◌≤◌, ◌<◌}
use native.Mathlib.Omega.{arith}
use lib.Dec.{eqb}
use borrow.Author.Tests.{eqb-false, ne_eqb, lt-leb}
use Rattle.format.specs.declared.Work.{Work}
use Rattle.format.specs.Step.{Use, for_external, Text, xml_text, table_text}
use Rattle.format.specs.Step.{Word, integer_word, text_word, Number, double_bits, Flag, objects_flag}
use Rattle.format.specs.Step.{Raw, byte_array, at_word, at_number}
use Rattle.rows.specs.Memory.{no_span}
use Rattle.format.specs.Numbers.{body_purpose, work, no_trait, no_work, work_of}
use Rattle.format.specs.Numbers.{with_use, with_text, with_word, with_number, with_flag, with_raw}
use Rattle.states.specs.Purposes.{IsUse, IsText, IsWord, IsNumber, IsFlag, IsRaw}
use Rattle.format.specs.Codes.{purpose_xml, purpose_dictionary, purpose_string, purpose_key, purpose_dynamic_key, purpose_class, purpose_external, purpose_name}
use Rattle.format.specs.Codes.{purpose_vector_class, mode_word, mode_number}

-- ---- numbers in a range, one by one

abbrev pub Each : (ℕ → Type 0) → ℕ → Type 0
Each P zero = Unit
Each P (suc n) = P zero × Each (λ k. P (suc k)) n

each : (P : ℕ → Type 0) (n : ℕ) → Each P n → (k : ℕ) → k < n → P k
each P zero e k h = absurd (omega arith)
each P (suc n) e zero h = e.0
each P (suc n) e (suc k) h = each (λ k. P (suc k)) n e.1 k (omega arith)

-- n numbers from `low` on
pub between : (P : ℕ → Type 0) (low n : ℕ) → Each (λ k. P (low + k)) n → (p : ℕ) → low ≤ p → p < low + n → P p
between P low n e p h l =
    let q : low + (p - low) ≡ p = omega arith in
    subst P q (each (λ k. P (low + k)) n e (p - low) (omega arith))

-- ---- what a purpose chooses

abbrev pub purposed : Work → ℕ → Work
purposed w p =
    record {
      mode = w.mode;
      purpose = p;
      row = w.row;
      left = w.left;
      part = w.part;
      span = w.span;
      kind = w.kind;
      count = w.count;
      done = w.done;
    }

abbrev pub use_of : Work → Use
use_of w = with_use for_external w (λ u. u)

pub uses : {A : Type 0} (a : A) (w : Work) (f : Use → A) → IsUse w → with_use a w f ≡ f (use_of w)
uses a w f h =
    between (λ p. with_use a (purposed w p) f ≡ f (use_of (purposed w p))) purpose_string 7
    (refl, (refl, (refl, (refl, (refl, (refl, (refl, tt))))))) w.purpose (omega arith) (omega arith)

abbrev pub text_of : Work → Text
text_of w = with_text (xml_text 0) w (λ x. x)

pub texts : {A : Type 0} (a : A) (w : Work) (f : Text → A) → IsText w → with_text a w f ≡ f (text_of w)
texts {A} a w f h = by (eqb w.purpose purpose_xml) (eqb-false w.purpose purpose_xml)
  where
    by : (t : Bool) → (t ≡ false → w.purpose ≡ purpose_xml → ⊥)
        → cond t (f (xml_text w.row)) (with_use a w (λ u. f (table_text u))) ≡ f (cond t (xml_text w.row) (with_use (xml_text 0) w table_text))
    by true n = refl
    by false n = uses a w (λ u. f (table_text u)) (h (n refl)) ∙ ap f (sym (uses (xml_text 0) w table_text (h (n refl))))

abbrev pub word_of : Work → Word
word_of w = with_word (integer_word 0) w (λ x. x)

pub words : {A : Type 0} (a : A) (w : Work) (f : Word → A) → IsWord w → with_word a w f ≡ f (word_of w)
words a w f h =
    between (λ p. with_word a (purposed w p) f ≡ f (word_of (purposed w p))) 1 17
    (refl, (refl, (refl, (refl, (refl, (refl, (refl, (refl, (refl, (refl, (refl, (refl, (refl, (refl, (refl, (refl, (refl, tt)))))))))))))))))
    w.purpose (omega arith) (omega arith)

abbrev pub number_of : Work → Number
number_of w = with_number (double_bits 0) w (λ x. x)

pub numbers : {A : Type 0} (a : A) (w : Work) (f : Number → A) → IsNumber w → with_number a w f ≡ f (number_of w)
numbers a w f h =
    between (λ p. with_number a (purposed w p) f ≡ f (number_of (purposed w p))) 1 2 (refl, (refl, tt)) w.purpose (omega arith) (omega arith)

abbrev pub flag_of : Work → Flag
flag_of w = with_flag (objects_flag 0 0) w (λ x. x)

pub flags : {A : Type 0} (a : A) (w : Work) (f : Flag → A) → IsFlag w → with_flag a w f ≡ f (flag_of w)
flags a w f h =
    between (λ p. with_flag a (purposed w p) f ≡ f (flag_of (purposed w p))) 7 4 (refl, (refl, (refl, (refl, tt)))) w.purpose (omega arith) (omega arith)

abbrev pub raw_of : ℕ → ℕ → Raw
raw_of purpose row = with_raw (byte_array row) purpose row (λ x. x)

pub raws : {A : Type 0} (a : A) (purpose row : ℕ) (f : Raw → A) → IsRaw purpose → with_raw a purpose row f ≡ f (raw_of purpose row)
raws a purpose row f h =
    between (λ p. with_raw a p row f ≡ f (raw_of p row)) 6 3 (refl, (refl, (refl, tt))) purpose (omega arith) (omega arith)

-- ---- works, by their purpose

higher : (p n : ℕ) → n ≤ p → (p ≡ n → ⊥) → n < p
higher p n h e = omega arith

-- no use is left but the last
pub last_use : (p : ℕ) → (purpose_dictionary < p) × (p < 18)
    → (p ≡ purpose_string → ⊥) → (p ≡ purpose_key → ⊥) → (p ≡ purpose_dynamic_key → ⊥) → (p ≡ purpose_class → ⊥) → (p ≡ purpose_external → ⊥) → (p ≡ purpose_name → ⊥) → p ≡ purpose_vector_class
last_use p h a b c d e f =
    let l : purpose_name < p = higher p purpose_name (higher p purpose_external (higher p purpose_class (higher p purpose_dynamic_key (higher p purpose_key (higher p purpose_string h.0 a) b) c) d) e) f in
    ends l h.1
  where
    ends : purpose_name < p → p < 18 → p ≡ purpose_vector_class
    ends l m = omega arith

-- the word of an integer, an object or a body
pub low_word : (w : Work) (left part : ℕ) → 0 < w.purpose → w.purpose ≤ purpose_dictionary
    → work mode_word w.purpose w.row left part no_span no_trait 0 0 ≡ with_word no_work w (λ x. work_of (at_word x left part))
unfolding work_of body_purpose
low_word w left part h l =
    between (λ p. work mode_word p w.row left part no_span no_trait 0 0 ≡ with_word no_work (purposed w p) (λ x. work_of (at_word x left part))) 1 10
    (refl, (refl, (refl, (refl, (refl, (refl, (refl, (refl, (refl, (refl, tt)))))))))) w.purpose (omega arith) (omega arith)

-- the work of eight bytes
pub number-work : (w : Work) (left part : ℕ) → IsNumber w → work mode_number w.purpose w.row left part no_span no_trait 0 0 ≡ work_of (at_number (number_of w) left part)
unfolding work_of
number-work w left part h =
    between (λ p. work mode_number p w.row left part no_span no_trait 0 0 ≡ work_of (at_number (number_of (purposed w p)) left part)) 1 2
    (refl, (refl, tt)) w.purpose (omega arith) (omega arith)

-- the word of a string
pub high_word : {A : Type 0} (a : A) (w : Work) (f : Word → A) → purpose_dictionary < w.purpose → with_word a w f ≡ with_use a w (λ u. f (text_word u))
high_word a w f h =
    simp (ne_eqb w.purpose 1 (λ (e : w.purpose ≡ 1). omega arith), ne_eqb w.purpose 2 (λ (e : w.purpose ≡ 2). omega arith), lt-leb w.purpose purpose_dictionary h)
