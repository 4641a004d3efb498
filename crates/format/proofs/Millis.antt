-- Worked examples of dates in rows: the milliseconds of each row, and of the row behind the last.
use Rattle.std.proofs.Common.{Some, None}
use mathlib.Core.Path.{◌≡◌, refl}
use mathlib.Core.List.{List, [], ◌∷◌, ◌++◌, map}
use Prim.Native.Nat.{ℕ}
use lib.IntN.{pos, negsuc}
use lib.Ieee as ieee
use lib.ListN.{take, replicate}
use Rattle.wire.specs.Date as y
use Rattle.utf8.specs.Grammar as g
use Rattle.rows.specs.Memory as m
use Rattle.std.specs.Prelude.{Err}
use Rattle.format.specs.Unfold as v
use Rattle.format.specs.RowTest as f
use Rattle.format.specs.Writing as e
use Rattle.format.specs.Text as t
use Rattle.format.specs.Answers as a
use Rattle.format.proofs.Examples.{row, keyless}

-- an array of the date -1.0, a reference to it, and the double -1.0
abbrev date_and_reference : List ℕ
date_and_reference =
    row 9 keyless 0 0 0 0 3 4 ++ row 8 keyless 0 0 0xBFF0_0000_0000_0000 0 0 2 ++ row 18 keyless 0 0 1 0 0 3 ++ row 5 keyless 0 0 0xBFF0_0000_0000_0000 0 0 4

-- a reference to a reference to the date 1.0
abbrev reference_twice : List ℕ
reference_twice = row 18 keyless 0 0 1 0 0 1 ++ row 18 keyless 0 0 2 0 0 2 ++ row 8 keyless 0 0 0x3FF0_0000_0000_0000 0 0 3

-- a date that no reading gives
abbrev infinite : List ℕ
infinite = row 8 keyless 0 0 0x7FF0_0000_0000_0000 0 0 1

millis :
    (map (a.millis_call date_and_reference []) (0 ∷ 1 ∷ 2 ∷ 3 ∷ 4 ∷ []) ≡ None ∷ Some (negsuc 0) ∷ Some (negsuc 0) ∷ None ∷ None ∷ [])
    × (map (a.millis_call reference_twice []) (0 ∷ 1 ∷ 2 ∷ 3 ∷ []) ≡ None ∷ Some (pos 1) ∷ Some (pos 1) ∷ None ∷ [])
    × (a.millis_call infinite [] 0 ≡ None)
    × (a.millis_call (take 11 reference_twice) [] 0 ≡ None)
    × (a.millis_call (take 35 reference_twice) [] 1 ≡ None)
    × (a.write_call infinite [] (replicate 10 7) ≡ a.output (Err (a.refusal_of 14 0 0)) (replicate 10 7))
unfolding y.finite y.refused_date y.moment_of g.follow g.valid_text m.loan_fault m.col v.part v.home t.moment_at f.span_fits f.mark_fits f.columns_fit f.signed_fits
    f.value_fits f.children f.closes f.gives f.parent_in f.number_in f.given f.well_formed f.number_writable f.body_writable f.key_writable f.writable f.test_from f.tested
    e.writing a.write_call ieee.odd ieee.of_fields ieee.of_bits ieee.to_signed
millis = (refl, refl, refl, refl, refl, refl)
