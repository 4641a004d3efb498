-- The four bytes, and their number.
use mathlib.Core.Path.{sym, ◌∙◌}
use Rattle.wire.proofs.Big.{number-short, number-there, bytes-are, number-of_four}
use Rattle.wire.proofs.read_be32.Goals as goal

pub returns-in_err-bytes : goal.returns-in_err-bytes
returns-in_err-bytes c = c.from_residual.ensures ∙ sym (number-short 4 _ _ (sym c.bytes_at.ensures ∙ c.in_err-bytes.was))

pub returns : goal.returns
returns c =
    let e = sym c.bytes_at.ensures ∙ c.in_ok-bytes.was in
    number-there 4 _ _ e (c.from_be_bytes.ensures ∙ number-of_four c.in_ok-bytes.bytes (bytes-are 4 _ _ e))
