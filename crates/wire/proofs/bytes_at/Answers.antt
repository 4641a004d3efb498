-- The bytes from a place on, and the first of them.
use native.Mathlib.Omega.{arith}
use mathlib.Core.Logic.{inl, inr}
use mathlib.Core.Path.{sym, ap, ◌∙◌}
use Prim.Native.Nat.{◌<◌}
use lib.ListN.{length, take}
use Rattle.std.specs.Array.{IsFirstChunk}
use Rattle.std.proofs.lemmas.Slice.{between_to_end}
use Rattle.wire.proofs.Big.{first_slice, bytes-there, bytes-short}
use Rattle.wire.proofs.bytes_at.Goals as goal

pub returns-in_err-get : goal.returns-in_err-get
returns-in_err-get g c =
    c.from_residual.ensures ∙ sym (bytes-short g.row.N c.args.at c.args.src.now
    (elim c.in_err-get.ensures.lookup.0 [ inl h ↦ omega arith | inr h ↦ absurd (omega arith) ]))

pub returns-in_err-bytes : goal.returns-in_err-bytes
returns-in_err-bytes g c =
    let h = c.in_ok-get.ensures.lookup.0 in
    let f : length c.in_ok-get.field-0.now < g.row.N = c.in_err-bytes.ensures.cases in
    c.from_residual-in_err-bytes.ensures ∙ sym (bytes-short g.row.N c.args.at c.args.src.now (omega (arith, f, h.3)))

pub returns : goal.returns
returns g c =
    let h = c.in_ok-get.ensures.lookup.0 in
    let f : IsFirstChunk c.in_ok-get.field-0.now c.in_ok-bytes.bytes.now g.row.N = c.in_ok-bytes.ensures.cases in
    let e = f.same ∙ ap (take g.row.N) (h.2 ∙ between_to_end c.args.src.now c.args.at (length c.args.src.now) (omega arith)) ∙ first_slice g.row.N c.args.at c.args.src.now in
    rw e (sym (bytes-there g.row.N c.args.at c.args.src.now (omega (arith, f.enough, h.3))))
