-- A U29 has four bytes at most, so that it always has room in the array.
use native.Mathlib.Omega.{arith}
use mathlib.Core.Path.{sym, ap}
use Prim.Native.Nat.{ℕ, ◌≤◌}
use lib.ListN.{length}
use lib.Seq.{length-take-le}
use Rattle.writer.proofs.Bytes as bytes
use Rattle.writer.proofs.Streams as streams
use Rattle.format.specs.Writing.{these}
use Rattle.wire.specs.U29.{u29}
use Rattle.wire.proofs.U29.{u29-length, more_le}
use Rattle.writer.proofs.Writer.u29.Goals as goal

short : (n : ℕ) → length (u29 n) ≤ 4
short n = omega (arith, u29-length n, more_le n)

pub unwrap-size-requires : goal.unwrap-size-requires
unwrap-size-requires c = bytes.form-there _ _ c.put_u29.ensures (short c.args.n)

pub slice_bounds-form-end : goal.slice_bounds-form-end
slice_bounds-form-end c = bytes.form-size _ _ c.put_u29.ensures (short c.args.n) c.unwrap-size.ensures

pub slice_bounds-bytes-end : goal.slice_bounds-bytes-end
slice_bounds-bytes-end c = sym (length-take-le _ _ (bytes.form-size _ _ c.put_u29.ensures (short c.args.n) c.unwrap-size.ensures))

pub returns : goal.returns
returns c = streams.renamed _ _ (ap these (bytes.form-part _ _ c.put_u29.ensures (short c.args.n) c.unwrap-size.ensures)) c.bytes.ensures
