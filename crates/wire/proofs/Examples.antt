-- Worked examples: the forms of a U29 where a byte more begins, and their ends; the sign rule, and dates, at the ends of their ranges and past them.
use Rattle.std.proofs.Common.{Some, None}
use mathlib.Core.Path.{◌≡◌, refl}
use mathlib.Core.List.{[], ◌∷◌, map}
use Prim.Native.Nat.{◌-◌, ◌^◌}
use lib.IntN.{pos, negsuc}
use lib.Ieee as ieee
use Rattle.wire.specs.Date.{finite, refused_date, moment_of}
use Rattle.wire.specs.Sign.{residue, integer_of, bits_of, column_of}
use Rattle.wire.specs.U29.{more_of, groups, u29}

forms : map u29 (0x00 ∷ 0x7f ∷ 0x80 ∷ 0x3fff ∷ 0x4000 ∷ 0x1fffff ∷ 0x200000 ∷ 0x1fffffff ∷ [])
    ≡ (0x00 ∷ []) ∷ (0x7f ∷ []) ∷ (0x81 ∷ 0x00 ∷ []) ∷ (0xff ∷ 0x7f ∷ []) ∷ (0x81 ∷ 0x80 ∷ 0x00 ∷ []) ∷ (0xff ∷ 0xff ∷ 0x7f ∷ [])
    ∷ (0x80 ∷ 0xc0 ∷ 0x80 ∷ 0x00 ∷ []) ∷ (0xff ∷ 0xff ∷ 0xff ∷ 0xff ∷ []) ∷ []
unfolding u29 more_of groups
forms = refl

-- 0, -1, the ends of the range, the ends of 30 bits and one below
remainders : map (residue (2 ^ 29))
    (pos 0 ∷ negsuc 0 ∷ negsuc (2 ^ 28 - 1) ∷ pos (2 ^ 28 - 1) ∷ pos (2 ^ 29 - 1) ∷ negsuc (2 ^ 29 - 1) ∷ negsuc (2 ^ 29) ∷ [])
    ≡ 0 ∷ 0x1fff_ffff ∷ 0x1000_0000 ∷ 0x0fff_ffff ∷ 0x1fff_ffff ∷ 0 ∷ 0x1fff_ffff ∷ []
remainders = refl

written : map bits_of
    (pos 0 ∷ negsuc 0 ∷ negsuc (2 ^ 28 - 1) ∷ pos (2 ^ 28 - 1) ∷ pos (2 ^ 28) ∷ negsuc (2 ^ 28) ∷ pos (2 ^ 29 - 1) ∷ negsuc (2 ^ 29) ∷ [])
    ≡ Some 0 ∷ Some 0x1fff_ffff ∷ Some 0x1000_0000 ∷ Some 0x0fff_ffff ∷ None ∷ None ∷ None ∷ None ∷ []
unfolding bits_of
written = refl

columns : map column_of (pos 0 ∷ negsuc 0 ∷ negsuc 1 ∷ negsuc (2 ^ 28 - 1) ∷ pos (2 ^ 63 - 1) ∷ negsuc (2 ^ 63 - 1) ∷ [])
    ≡ 0 ∷ 0xffff_ffff_ffff_ffff ∷ 0xffff_ffff_ffff_fffe ∷ 0xffff_ffff_f000_0000 ∷ 0x7fff_ffff_ffff_ffff ∷ 0x8000_0000_0000_0000 ∷ []
unfolding column_of
columns = refl

-- no U29 gives 2 ^ 29
turned : map integer_of (0 ∷ 0x0800_0000 ∷ 0x2000_0000 ∷ []) ≡ pos 0 ∷ pos (2 ^ 27) ∷ pos 0 ∷ []
unfolding integer_of
turned = refl

-- dates near 0: 0, -0.0, the smallest, the one before 1, 1, -1.5; 1 January 1969; 2 ^ 53 + 2; about 2 ^ 63, and with a minus; the largest with each sign
moments : map moment_of
    (0 ∷ 0x8000_0000_0000_0000 ∷ 1 ∷ 0xBFEF_FFFF_FFFF_FFFF ∷ 0x3FF0_0000_0000_0000 ∷ 0xBFF8_0000_0000_0000 ∷ 0xC21D_5EC4_B000_0000 ∷ 0x4340_0000_0000_0001
    ∷ 0x43DF_FFFF_FFFF_FFFF ∷ 0x43E0_0000_0000_0000 ∷ 0xC3DF_FFFF_FFFF_FFFF ∷ 0xC3E0_0000_0000_0000 ∷ 0x7FEF_FFFF_FFFF_FFFF ∷ 0xFFEF_FFFF_FFFF_FFFF ∷ [])
    ≡ Some (pos 0) ∷ Some (pos 0) ∷ Some (pos 0) ∷ Some (pos 0) ∷ Some (pos 1) ∷ Some (negsuc 0) ∷ Some (negsuc 31535999999) ∷ Some (pos 9007199254740994)
    ∷ Some (pos 9223372036854774784) ∷ Some (pos (2 ^ 63 - 1)) ∷ Some (negsuc 9223372036854774783) ∷ Some (negsuc (2 ^ 63 - 1)) ∷ Some (pos (2 ^ 63 - 1)) ∷ Some (negsuc (2 ^ 63 - 1)) ∷ []
unfolding moment_of refused_date finite ieee.of_bits ieee.of_fields ieee.odd ieee.to_signed
moments = refl

-- the infinities and NaN, with each sign
no-moments : map moment_of (0x7FF0_0000_0000_0000 ∷ 0xFFF0_0000_0000_0000 ∷ 0x7FF0_0000_0000_0001 ∷ 0x7FF8_0000_0000_0000 ∷ 0xFFFF_FFFF_FFFF_FFFF ∷ [])
    ≡ None ∷ None ∷ None ∷ None ∷ None ∷ []
unfolding moment_of refused_date finite ieee.of_bits ieee.of_fields ieee.odd ieee.to_signed
no-moments = refl
