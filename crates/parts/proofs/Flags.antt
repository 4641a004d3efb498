-- A flag is its byte, and what the byte decides.
use Prim.Native.Nat.{ℕ}
use Rattle.std.specs.Prelude.{Result as Answer, Ok}
use Rattle.format.specs.declared.Refusal.{Refusal}
use Rattle.format.specs.Decide.{on_rows, flagged}
use Rattle.format.specs.Reading.{by, byte}
use Rattle.scan.specs.declared.Reading.{Reading}
use Rattle.scan.specs.Reads.{Reads, flag}
use Rattle.scan.proofs.Laws.{then}

pub flag-read : (f : ℕ → ℕ) (row : ℕ) {b : ℕ} {g g' g'' : Reading} {y : Answer Unit Refusal} → Reads (Ok b) g g' byte → Reads y g' g'' (by (on_rows (flagged row (f b)))) → Reads y g g'' (flag f row)
unfolding flag
flag-read f row p q = then _ _ p q
