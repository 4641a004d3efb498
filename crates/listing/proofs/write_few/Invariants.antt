use Rattle.std.proofs.Common.{◌≡◌, ◌*◌, length, take}
use Rattle.listing.specs.Hex.{hex_of}
use Rattle.listing.proofs.write_few.Given as goal

-- the bytes so far are spelled
abbrev pub invariant-loop-i : goal.invariant-loop-i
invariant-loop-i g l = record {
  size : length l.digits ≡ 64;
  spelled : take (2 * l.i) l.digits ≡ hex_of (take l.i l.bytes);
}
