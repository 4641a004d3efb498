-- The shortest form of a number, where it fits.
use native.Mathlib.Omega.{arith}
use mathlib.Core.Path.{sym, ap, ◌∙◌}
use Prim.Native.Nat.{ℕ, ◌+◌}
use lib.Seq.{sets}
use Rattle.wire.specs.U29.{form_of, u29}
use Rattle.wire.proofs.Room as room
use Rattle.wire.proofs.U29.{more_le, u29-length}
use Rattle.wire.proofs.put_u29.Goals as goal

pub overflow_add-k : goal.overflow_add-k
overflow_add-k c = omega (arith, more_le c.args.n, c.u29_more-k.ensures)

pub put_form-requires : goal.put_form-requires
put_form-requires c = (
  omega (arith, more_le c.args.n, c.u29_more-k.ensures),
  omega (
    arith,
    room.room (c.u29_more-k.result + 1) c.args.at c.args.out.now c.fits.ensures c.if-not-fits.false,
  ),
)

pub overflow_add-result : goal.overflow_add-result
overflow_add-result c = omega (
  arith,
  more_le c.args.n,
  c.u29_more-k.ensures,
)

pub returns : goal.returns
unfolding u29
returns c = room.put_whole (c.u29_more-k.result + 1) c.args.at c.args.out.now c.fits.ensures (u29 c.args.n) (u29-length c.args.n
    ∙ ap (λ (k : ℕ). k + 1) (sym c.u29_more-k.ensures)) c.if-not-fits.false
    (c.put_form.ensures ∙ ap (λ (k : ℕ). sets c.args.out.now c.args.at (form_of k c.args.n))
    c.u29_more-k.ensures)

pub returns-then-not-fits : goal.returns-then-not-fits
returns-then-not-fits c = room.put_full (c.u29_more-k.result + 1) c.args.at c.args.out.now c.fits.ensures (u29 c.args.n) (u29-length
    c.args.n ∙ ap (λ (k : ℕ). k + 1) (sym c.u29_more-k.ensures)) c.if-not-fits.true
