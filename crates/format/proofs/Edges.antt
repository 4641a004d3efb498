-- Loans at the edge: with just enough of each a small tree is held and read, and with one entry less of any it is neither.
use mathlib.Core.Path.{◌≡◌, refl}
use mathlib.Core.Bool.{true, false}
use mathlib.Core.List.{List, [], ◌∷◌, map}
use mathlib.Core.Option.{some}
use Prim.Native.Nat.{ℕ, ◌*◌}
use lib.IntN.{pos}
use lib.ListN.{replicate}
use Rattle.rows.specs.Memory.{Memory, memory, row_width, span_width, trait_width}
use Rattle.wire.specs.U29 as u
use Rattle.wire.specs.Word as w
use Rattle.wire.specs.Sign as z
use Rattle.utf8.specs.States as x
use Rattle.rows.specs.Memory as m
use Rattle.format.specs.Decide as d
use Rattle.format.specs.Reading as r
use Rattle.format.specs.Standard as t
use Rattle.format.specs.Reading.{Ended, finished, refused, reading}
use Rattle.format.specs.Standard.{Tree, plain, object, integer, string, no_pairs, pair, encode}
use Rattle.format.specs.Holds.{room, of_text, of_class, of_plain, of_tree, of_pairs, of_sealed, can_hold}

-- an object of class `C`, with a sealed member `a` and a dynamic one `b`
abbrev pub small : Tree
small =
    object (some (0x43 ∷ [])) (pair (0x61 ∷ []) (plain (integer (pos 1))) no_pairs) (pair (0x62 ∷ []) (plain (string (0x78 ∷ 0x79 ∷ []))) no_pairs)

-- so many rows, bytes, strings, objects, traits and names
abbrev pub lend : ℕ → ℕ → ℕ → ℕ → ℕ → ℕ → Memory
lend r b t o u n =
    memory (replicate (r * row_width) 0) (replicate b 0) (replicate (t * span_width) 0) (replicate o 0) (replicate (u * trait_width) 0) (replicate (n * span_width) 0)

-- just enough of each loan for it; then one entry less of each
abbrev pub edges : List Memory
edges =
    lend 3 5 4 1 1 1 ∷ lend 2 5 4 1 1 1 ∷ lend 3 4 4 1 1 1 ∷ lend 3 5 3 1 1 1 ∷ lend 3 5 4 0 1 1 ∷ lend 3 5 4 1 0 1 ∷ lend 3 5 4 1 1 0 ∷ []

-- what it takes
pub small-room : of_tree small ≡ room 3 5 4 1 1 1
unfolding of_tree of_plain of_class of_text of_pairs of_sealed
small-room = refl

-- the first can hold it, and no other
pub edges-held : map (λ m. can_hold m small) edges ≡ true ∷ false ∷ false ∷ false ∷ false ∷ false ∷ false ∷ []
unfolding can_hold of_tree of_plain of_class of_text of_pairs of_sealed
edges-held = refl

-- how a reading of it ends: the bytes taken; or a refusal's number, told value and place
abbrev pub end_of : Ended → List ℕ
end_of (finished c m) = c.at ∷ []
end_of (refused n told place m) = n ∷ told ∷ place ∷ []

-- the first reads it, and each other is refused with 10 of its loan
pub edges-read : map (λ m. end_of (reading m (encode small))) edges
    ≡ (15 ∷ []) ∷ (10 ∷ 1 ∷ 11 ∷ []) ∷ (10 ∷ 2 ∷ 12 ∷ []) ∷ (10 ∷ 3 ∷ 14 ∷ []) ∷ (10 ∷ 4 ∷ 2 ∷ []) ∷ (10 ∷ 5 ∷ 6 ∷ []) ∷ (10 ∷ 6 ∷ 6 ∷ []) ∷ []
unfolding u.part_of u.groups u.more_of u.u29 w.size_of w.shape_of z.integer_of z.column_of z.of_column x.step_of x.fold_of m.message_limit m.open_limit m.loan_fault m.zeroed d.kind_of
    d.new_row d.marker d.closed d.numbered d.integer_end d.bodied d.classed d.object_class d.counted d.reserved d.stored d.text_end d.entered d.trait_holds d.named d.trait_end
    d.sealed_key r.byte r.u29 r.chars r.text_of r.text r.entries r.pair r.pairs_by r.pairs r.names r.dynamics r.members r.inlined r.object_of r.marked r.value r.ended
    r.reading t.count_pairs t.name_bytes t.trait_word t.encode_plain t.object_head t.encode t.encode_pairs t.encode_values t.encode_dynamic
edges-read = refl
