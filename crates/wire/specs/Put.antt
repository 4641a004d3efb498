-- Bytes into an output.
use Rattle.std.specs.Prelude.{Option, Some, None, cond, List, ℕ, ◌+◌, leb, length}
use Rattle.std.proofs.lemmas.List.Edits.{sets}

-- an answer, with the list that it left
pub data With1 (A : Type 0) : Type 0 where
  with1 : A → List ℕ → With1 A

-- all of the bytes at a place of the output, with the place behind them, or none where they don't fit
unfoldable pub put_at : List ℕ → ℕ → List ℕ → With1 (Option ℕ)
put_at out at bytes =
    cond (leb (at + length bytes) (length out)) (with1 (Some (at + length bytes)) (sets out at bytes)) (with1 None out)
