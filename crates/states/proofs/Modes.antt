-- A work whose mode is one of ours: which it is.
use mathlib.Core.Path.{◌≡◌, refl}
use mathlib.Core.Bool.{true}
use Prim.Native.Nat.{suc, ℕ, ◌≤◌, ◌<◌}
use native.Mathlib.Omega.{arith}
use native.Mathlib.Decide.{dec_lt}
use borrow.Author.Tests.{ltb-true, leb-true, ne_eqb, lt-leb}
use Rattle.rows.specs.Memory.{open_limit}
use Rattle.format.specs.declared.Work.{Work}
use Rattle.format.specs.Step.{Mode, at_marker, at_word, at_number, at_flag, at_text, at_raw, astray, Use, text_word, table_text}
use Rattle.format.specs.Numbers.{mode_of, work_key, with_use, depth_fits}
use Rattle.format.proofs.Tests.{clash}
use Rattle.states.specs.Purposes.{IsUse, IsText, IsWord, IsNumber, IsFlag, IsRaw}
use Rattle.states.proofs.Purposes.{between, purposed, text_of, texts, word_of, number_of, flag_of, raw_of}
use Rattle.format.specs.Codes.{purpose_xml, purpose_byte_array, purpose_fours, purpose_eights, purpose_object_vector, purpose_dictionary, purpose_string, purpose_key}
use Rattle.format.specs.Codes.{purpose_dynamic_key, purpose_class, purpose_external, purpose_name, purpose_vector_class, mode_marker, mode_word, mode_number}
use Rattle.format.specs.Codes.{mode_flag, mode_text, mode_raw}
use Rattle.rows.specs.Memory.{open_most}
use Rattle.format.specs.Codes.{purpose_array}

lost-mode : {X : Type 0} (x : Mode) (d : ℕ) → x ≡ astray → depth_fits x d ≡ true → X
lost-mode x d e h = clash (let q : depth_fits astray d ≡ true = rw e at h in cc)

-- a number is between two, unless that is refused
within : (low high p : ℕ) → (((low < p) × (p < high) → ⊥) → (low < p) × (p < high)) → (low < p) × (p < high)
within low high p f = elim (dec_lt low p) [
  | no l ↦ f (λ (r : (low < p) × (p < high)). l r.0)
  | yes l ↦ elim (dec_lt p high) [ no k ↦ f (λ (r : (low < p) × (p < high)). k r.1) | yes k ↦ (l, k) ]
]

abbrev pub moded : Work → ℕ → ℕ → Work
moded w mode p =
    record {
      mode = mode;
      purpose = p;
      row = w.row;
      left = w.left;
      part = w.part;
      span = w.span;
      kind = w.kind;
      count = w.count;
      done = w.done;
    }

module _ (w : Work) where
  no_use : (f : Use → Mode) → (IsUse w → ⊥) → with_use astray w f ≡ astray
  no_use f h =
      rw (
        ne_eqb w.purpose purpose_string (λ (e : w.purpose ≡ purpose_string). h (omega arith, omega arith)),
        ne_eqb w.purpose purpose_key (λ (e : w.purpose ≡ purpose_key). h (omega arith, omega arith)),
        ne_eqb w.purpose purpose_dynamic_key (λ (e : w.purpose ≡ purpose_dynamic_key). h (omega arith, omega arith)),
        ne_eqb w.purpose purpose_class (λ (e : w.purpose ≡ purpose_class). h (omega arith, omega arith)),
        ne_eqb w.purpose purpose_external (λ (e : w.purpose ≡ purpose_external). h (omega arith, omega arith)),
        ne_eqb w.purpose purpose_name (λ (e : w.purpose ≡ purpose_name). h (omega arith, omega arith)),
        ne_eqb w.purpose purpose_vector_class (λ (e : w.purpose ≡ purpose_vector_class). h (omega arith, omega arith)),
      )

  -- a mode that is ours, with a value in work
  shallow : (x : Mode) (d : ℕ) → mode_of w ≡ x → depth_fits (mode_of w) d ≡ true → depth_fits x d ≡ true
  shallow x d e h = rw e at h

  -- ---- markers

  pub mode-marker : w.mode ≡ mode_marker → mode_of w ≡ at_marker (work_key w)
  unfolding mode_of
  mode-marker e = rw e

  pub fits-marker : (d : ℕ) → w.mode ≡ mode_marker → depth_fits (mode_of w) d ≡ true → d < suc open_most
  unfolding open_limit
  fits-marker d e h = let l : d ≤ open_most = leb-true d open_most (shallow (at_marker (work_key w)) d (mode-marker e) h) in omega arith

  -- ---- words

  pub mode-word : w.mode ≡ mode_word → IsWord w → mode_of w ≡ at_word (word_of w) w.left w.part
  unfolding mode_of
  mode-word e h =
      rw e
      (between (λ p. mode_of (moded w mode_word p) ≡ at_word (word_of (purposed w p)) w.left w.part) 1 17
      (refl, (refl, (refl, (refl, (refl, (refl, (refl, (refl, (refl, (refl, (refl, (refl, (refl, (refl, (refl, (refl, (refl, tt)))))))))))))))))
      w.purpose (omega arith) (omega arith))

  no_word : w.mode ≡ mode_word → (IsWord w → ⊥) → mode_of w ≡ astray
  unfolding mode_of
  no_word e n = elim (dec_lt 0 w.purpose) [
    | no z ↦ let q : w.purpose ≡ 0 = omega arith in rw (e, q)
    | yes l ↦
        let g : 18 ≤ w.purpose = elim (dec_lt w.purpose 18) [ yes k ↦ absurd (n (l, k)) | no k ↦ omega arith ] in
        rw (
          e,
          ne_eqb w.purpose 1 (λ (q : w.purpose ≡ 1). omega arith),
          ne_eqb w.purpose 2 (λ (q : w.purpose ≡ 2). omega arith),
          lt-leb w.purpose purpose_dictionary (omega arith),
        ) (no_use (λ u. at_word (text_word u) w.left w.part) (λ (u : IsUse w). omega arith))
  ]

  pub fits_word : (d : ℕ) → w.mode ≡ mode_word → depth_fits (mode_of w) d ≡ true → (d < open_most) × IsWord w
  unfolding open_limit
  fits_word d e h =
      let r : IsWord w = within 0 (suc purpose_vector_class) w.purpose (λ n. lost-mode (mode_of w) d (no_word e n) h) in
      (ltb-true d open_most (shallow (at_word (word_of w) w.left w.part) d (mode-word e r) h), r)

  -- ---- eight bytes

  pub mode-number : w.mode ≡ mode_number → IsNumber w → mode_of w ≡ at_number (number_of w) w.left w.part
  unfolding mode_of
  mode-number e h =
      rw e
      (between (λ p. mode_of (moded w mode_number p) ≡ at_number (number_of (purposed w p)) w.left w.part) 1 2 (refl, (refl, tt)) w.purpose (omega arith) (omega arith))

  no_number : w.mode ≡ mode_number → (IsNumber w → ⊥) → mode_of w ≡ astray
  unfolding mode_of
  no_number e n =
      rw (
        e,
        ne_eqb w.purpose 1 (λ (q : w.purpose ≡ 1). n (omega arith, omega arith)),
        ne_eqb w.purpose 2 (λ (q : w.purpose ≡ 2). n (omega arith, omega arith)),
      )

  pub fits-number : (d : ℕ) → w.mode ≡ mode_number → depth_fits (mode_of w) d ≡ true → (d < open_most) × IsNumber w
  unfolding open_limit
  fits-number d e h =
      let r : IsNumber w = within 0 purpose_xml w.purpose (λ n. lost-mode (mode_of w) d (no_number e n) h) in
      (ltb-true d open_most (shallow (at_number (number_of w) w.left w.part) d (mode-number e r) h), r)

  -- ---- flags

  pub mode-flag : w.mode ≡ mode_flag → IsFlag w → mode_of w ≡ at_flag (flag_of w)
  unfolding mode_of
  mode-flag e h =
      rw e (between (λ p. mode_of (moded w mode_flag p) ≡ at_flag (flag_of (purposed w p))) 7 4 (refl, (refl, (refl, (refl, tt)))) w.purpose (omega arith) (omega arith))

  no_flag : w.mode ≡ mode_flag → (IsFlag w → ⊥) → mode_of w ≡ astray
  unfolding mode_of
  no_flag e n =
      rw (
        e,
        ne_eqb w.purpose purpose_fours (λ (q : w.purpose ≡ purpose_fours). n (omega arith, omega arith)),
        ne_eqb w.purpose purpose_eights (λ (q : w.purpose ≡ purpose_eights). n (omega arith, omega arith)),
        ne_eqb w.purpose purpose_object_vector (λ (q : w.purpose ≡ purpose_object_vector). n (omega arith, omega arith)),
        ne_eqb w.purpose purpose_dictionary (λ (q : w.purpose ≡ purpose_dictionary). n (omega arith, omega arith)),
      )

  pub fits-flag : (d : ℕ) → w.mode ≡ mode_flag → depth_fits (mode_of w) d ≡ true → (d < open_most) × IsFlag w
  unfolding open_limit
  fits-flag d e h =
      let r : IsFlag w = within purpose_byte_array purpose_string w.purpose (λ n. lost-mode (mode_of w) d (no_flag e n) h) in
      (ltb-true d open_most (shallow (at_flag (flag_of w)) d (mode-flag e r) h), r)

  -- ---- texts

  pub mode-text : w.mode ≡ mode_text → IsText w → mode_of w ≡ at_text (text_of w) w.span w.left w.part
  unfolding mode_of
  mode-text e h = rw e (texts astray w (λ x. at_text x w.span w.left w.part) h)

  no_text : w.mode ≡ mode_text → (w.purpose ≡ purpose_xml → ⊥) → (IsUse w → ⊥) → mode_of w ≡ astray
  unfolding mode_of
  no_text e x n = rw (e, ne_eqb w.purpose purpose_xml x) (no_use (λ u. at_text (table_text u) w.span w.left w.part) n)

  pub fits-text : (d : ℕ) → w.mode ≡ mode_text → depth_fits (mode_of w) d ≡ true → (d < open_most) × IsText w
  unfolding open_limit
  fits-text d e h =
      let r : IsText w = λ x. within purpose_dictionary (suc purpose_vector_class) w.purpose (λ n. lost-mode (mode_of w) d (no_text e x n) h) in
      (ltb-true d open_most (shallow (at_text (text_of w) w.span w.left w.part) d (mode-text e r) h), r)

  -- ---- raw bytes

  pub mode-raw : w.mode ≡ mode_raw → IsRaw w.purpose → mode_of w ≡ at_raw (raw_of w.purpose w.row) w.span w.left
  unfolding mode_of
  mode-raw e h =
      rw e (between (λ p. mode_of (moded w mode_raw p) ≡ at_raw (raw_of p w.row) w.span w.left) 6 3 (refl, (refl, (refl, tt))) w.purpose (omega arith) (omega arith))

  no-raw : w.mode ≡ mode_raw → (IsRaw w.purpose → ⊥) → mode_of w ≡ astray
  unfolding mode_of
  no-raw e n =
      rw (
        e,
        ne_eqb w.purpose purpose_byte_array (λ (q : w.purpose ≡ purpose_byte_array). n (omega arith, omega arith)),
        ne_eqb w.purpose purpose_fours (λ (q : w.purpose ≡ purpose_fours). n (omega arith, omega arith)),
        ne_eqb w.purpose purpose_eights (λ (q : w.purpose ≡ purpose_eights). n (omega arith, omega arith)),
      )

  pub fits-raw : (d : ℕ) → w.mode ≡ mode_raw → depth_fits (mode_of w) d ≡ true → (d < open_most) × IsRaw w.purpose
  unfolding open_limit
  fits-raw d e h =
      let r : IsRaw w.purpose = within purpose_array purpose_object_vector w.purpose (λ n. lost-mode (mode_of w) d (no-raw e n) h) in
      (ltb-true d open_most (shallow (at_raw (raw_of w.purpose w.row) w.span w.left) d (mode-raw e r) h), r)

  -- ---- no other

  module _ (p : w.mode ≡ mode_marker → ⊥) (q : w.mode ≡ mode_word → ⊥) (r : w.mode ≡ mode_number → ⊥) (s : w.mode ≡ mode_flag → ⊥) (t : w.mode ≡ mode_text → ⊥) (u : w.mode ≡ mode_raw → ⊥) where
    other-mode : mode_of w ≡ astray
    unfolding mode_of
    other-mode =
        rw (ne_eqb w.mode mode_marker p, ne_eqb w.mode mode_word q, ne_eqb w.mode mode_number r, ne_eqb w.mode mode_flag s, ne_eqb w.mode mode_text t, ne_eqb w.mode mode_raw u)

    pub no_mode : (d : ℕ) → depth_fits (mode_of w) d ≡ true → ⊥
    no_mode d h = lost-mode (mode_of w) d other-mode h
