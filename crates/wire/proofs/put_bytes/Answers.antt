-- A copy into the part of the output, where it is long enough.
use Rattle.wire.proofs.Room as room
use Rattle.wire.proofs.put_bytes.Goals as goal

pub returns-then-not-fits : goal.returns-then-not-fits
returns-then-not-fits g c = room.put_full g.row.N c.args.at c.args.out.now c.fits.ensures c.args.bytes.now c.told-bytes c.if-not-fits.true

pub returns : goal.returns
returns g c =
    room.put_whole g.row.N c.args.at c.args.out.now c.fits.ensures c.args.bytes.now c.told-bytes c.if-not-fits.false
    (rw c.store.ensures
    (room.put_part c.args.at g.row.N c.args.out.now c.args.bytes.now c.told-bytes (room.room g.row.N c.args.at c.args.out.now c.fits.ensures c.if-not-fits.false)))
