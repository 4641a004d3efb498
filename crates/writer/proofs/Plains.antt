-- The bytes of a row that holds no values, by its kind.
use mathlib.Core.Path.{◌≡◌, refl, ap, sym, ◌∙◌}
use mathlib.Core.Bool.{not}
use mathlib.Core.List.{List, [], ◌∷◌, ◌++◌}
use Prim.Native.Nat.{ℕ, ◌/◌, ◌^◌, ◌<◌}
use native.Mathlib.Omega.{arith}
use lib.Dec.{eqb}
use lib.ListN.{length}
use lib.Signed.{mag}
use mir.Syntax.{w64}
use mir.Val.{SFits, to_z, of_z}
use mir.ValLaws.{to_z-of_z}
use Rattle.std.specs.Prelude.{ℤ}
use Rattle.rows.specs.Memory.{col_kind, col_flag, col_number, col}
use Rattle.rows.specs.Kinds as kinds
use Rattle.std.specs.Prelude.{Option, Some}
use Rattle.std.specs.Option.{IsSome}
use Rattle.wire.specs.U29.{u29}
use Rattle.wire.specs.Sign.{of_column, bits_of}
use Rattle.wire.proofs.Sign as sign
use Rattle.format.specs.Standard.{Tree, boolean, integer, double, date, text_bytes, size_bytes, flag_byte, encode_plain}
use Rattle.format.specs.Unfold.{body_of, node}
use Rattle.format.specs.Writing.{Stream, these, emit_in}
use Rattle.format.proofs.Tested.{kind-is}
use Rattle.writer.specs.Pieces.{Plainly}
use Rattle.writer.proofs.Bounds.{row, Others}

-- ---- numbers

-- the bits of what was read of a column
pub column_bits : (n : ℕ) {v : ℤ} {b : Option ℕ} → SFits w64 v → v ≡ of_column n → b ≡ bits_of (to_z w64 (of_z w64 v)) → b ≡ bits_of (of_column n)
column_bits n {v = v} f e g = g ∙ ap bits_of (to_z-of_z w64 v f ∙ e)

module _ (n : ℕ) {b : Option ℕ} (g : b ≡ bits_of (of_column n)) where
  pub integer_in : mag (of_column n) < 2 ^ 28 → IsSome b
  integer_in l = rw (g, sign.bits-of (of_column n) l) refl

  pub integer-bytes : {k : ℕ} → b ≡ Some k → 0x04 ∷ u29 k ≡ encode_plain (integer (of_column n))
  unfolding encode_plain
  integer-bytes {k} h = let q : bits_of (of_column n) ≡ Some k = cc in rw (sign.has-bits (of_column n) k q).1

-- ---- by the kind k

module _ (R B : List ℕ) (j : ℕ) (f : ℕ → Tree) (F : Tree → Stream) {k : ℕ} (e : k ≡ col R j col_kind) where
  kinded : {c : ℕ} → k ≡ c → col R j col_kind ≡ c
  kinded h = sym e ∙ h

  abbrev here : Stream
  here = emit_in F (node f R B j)

  pub undefined-is : k ≡ kinds.kind_undefined → these (0x00 ∷ []) ≡ here
  unfolding emit_in node encode_plain
  undefined-is h = rw (kinded h)

  -- those with a number
  module _ {n : ℕ} (g : n ≡ col R j col_number) where
    pub boolean-is : k ≡ kinds.kind_boolean → these (encode_plain (boolean (not (eqb n 0)))) ≡ here
    unfolding emit_in node
    boolean-is h = rw (kinded h, ← g)

    pub integer-is : k ≡ kinds.kind_integer → these (encode_plain (integer (of_column n))) ≡ here
    unfolding emit_in node
    integer-is h = rw (kinded h, ← g)

    pub double-is : k ≡ kinds.kind_double → these (encode_plain (double n)) ≡ here
    unfolding emit_in node
    double-is h = rw (kinded h, ← g)

    pub date-is : k ≡ kinds.kind_date → these (encode_plain (date n)) ≡ here
    unfolding emit_in node
    date-is h = rw (kinded h, ← g)

  -- those with a body
  module _ (s : List ℕ) (b : s ≡ body_of R B j) where
    pub string-is : k ≡ kinds.kind_string → these (0x06 ∷ text_bytes s) ≡ here
    unfolding emit_in node encode_plain
    string-is h = rw (kinded h, ← b)

    pub document_is : k ≡ kinds.kind_xml_document → these (0x07 ∷ text_bytes s) ≡ here
    unfolding emit_in node encode_plain
    document_is h = rw (kinded h, ← b)

    pub xml-is : k ≡ kinds.kind_xml → these (0x0B ∷ text_bytes s) ≡ here
    unfolding emit_in node encode_plain
    xml-is h = rw (kinded h, ← b)

    pub bytes-is : k ≡ kinds.kind_byte_array → these (0x0C ∷ text_bytes s) ≡ here
    unfolding emit_in node encode_plain
    bytes-is h = rw (kinded h, ← b)

    module _ {w : ℕ} (g : w ≡ col R j col_flag) where
      pub ints-is : k ≡ kinds.kind_int_vector → these (0x0D ∷ size_bytes (length s / 4) ++ flag_byte (not (eqb w 0)) ∷ s) ≡ here
      unfolding emit_in node encode_plain
      ints-is h = rw (kinded h, ← g, ← b)

      pub uints-is : k ≡ kinds.kind_uint_vector → these (0x0E ∷ size_bytes (length s / 4) ++ flag_byte (not (eqb w 0)) ∷ s) ≡ here
      unfolding emit_in node encode_plain
      uints-is h = rw (kinded h, ← g, ← b)

      pub doubles-is : k ≡ kinds.kind_double_vector → these (0x0F ∷ size_bytes (length s / 8) ++ flag_byte (not (eqb w 0)) ∷ s) ≡ here
      unfolding emit_in node encode_plain
      doubles-is h = rw (kinded h, ← g, ← b)

  -- null, and kinds that there are not
  pub null_is : Plainly R B j → Others
      (kinds.kind_double_vector ∷ kinds.kind_uint_vector ∷ kinds.kind_int_vector ∷ kinds.kind_byte_array ∷ kinds.kind_xml ∷ kinds.kind_date ∷ kinds.kind_xml_document
      ∷ kinds.kind_string
      ∷ kinds.kind_double ∷ kinds.kind_integer ∷ kinds.kind_boolean ∷ kinds.kind_undefined ∷ []) k → these (0x01 ∷ []) ≡ here
  unfolding emit_in node encode_plain
  null_is p o =
      let c = kinded refl in
      kind-is k 0 (omega arith) (λ h. rw (kinded h)) λ l.
      kind-is k kinds.kind_undefined l (λ h. absurd (o.0.0.0.0.0.0.0.0.0.0.0.1 h)) λ l.
      kind-is k kinds.kind_null l (λ h. rw (kinded h)) λ l.
      kind-is k kinds.kind_boolean l (λ h. absurd (o.0.0.0.0.0.0.0.0.0.0.1 h)) λ l.
      kind-is k kinds.kind_integer l (λ h. absurd (o.0.0.0.0.0.0.0.0.0.1 h)) λ l.
      kind-is k kinds.kind_double l (λ h. absurd (o.0.0.0.0.0.0.0.0.1 h)) λ l.
      kind-is k kinds.kind_string l (λ h. absurd (o.0.0.0.0.0.0.0.1 h)) λ l.
      kind-is k kinds.kind_xml_document l (λ h. absurd (o.0.0.0.0.0.0.1 h)) λ l.
      kind-is k kinds.kind_date l (λ h. absurd (o.0.0.0.0.0.1 h)) λ l.
      kind-is k kinds.kind_array l (λ h. absurd (p.no-array (kinded h))) λ l.
      kind-is k kinds.kind_object l (λ h. absurd (p.no-object (kinded h))) λ l.
      kind-is k kinds.kind_xml l (λ h. absurd (o.0.0.0.0.1 h)) λ l.
      kind-is k kinds.kind_byte_array l (λ h. absurd (o.0.0.0.1 h)) λ l.
      kind-is k kinds.kind_int_vector l (λ h. absurd (o.0.0.1 h)) λ l.
      kind-is k kinds.kind_uint_vector l (λ h. absurd (o.0.1 h)) λ l.
      kind-is k kinds.kind_double_vector l (λ h. absurd (o.1 h)) λ l.
      kind-is k kinds.kind_object_vector l (λ h. absurd (p.no-vector (kinded h))) λ l.
      kind-is k kinds.kind_dictionary l (λ h. absurd (p.no-dictionary (kinded h))) λ l.
      kind-is k kinds.kind_reference l (λ h. rw (kinded h)) λ l.
      absurd (omega (arith, (row p.fit j (omega arith)).formed.high))
