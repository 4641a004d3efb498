-- The eight bytes, and their number.
use mathlib.Core.Path.{sym, ◌∙◌}
use Rattle.wire.proofs.Big.{number-short, number-there, bytes-are, number-of_eight}
use Rattle.wire.proofs.read_be64.Goals as goal

pub returns-in_err-bytes : goal.returns-in_err-bytes
returns-in_err-bytes c = c.from_residual.ensures ∙ sym (number-short 8 _ _ (sym c.bytes_at.ensures ∙ c.in_err-bytes.was))

pub returns : goal.returns
returns c =
    let e = sym c.bytes_at.ensures ∙ c.in_ok-bytes.was in
    number-there 8 _ _ e (c.from_be_bytes.ensures ∙ number-of_eight c.in_ok-bytes.bytes (bytes-are 8 _ _ e))
