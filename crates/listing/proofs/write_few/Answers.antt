-- Two digits of each byte go behind those of the bytes before it, and all are ASCII.
use Rattle.std.proofs.Common.{◌∙◌, arith, rules, length-set}
use Rattle.std.proofs.Output.{has_written_of_eq}
use Rattle.std.proofs.lemmas.Str.{IsUtf8-from_ascii}
use Rattle.listing.specs.Hex.{hex_of}
use Rattle.listing.proofs.Digits.{IsAscii-hex_of, spelled_more, spelled_all}
use Rattle.listing.proofs.write_few.Goals as goal

pub loop-i-init : goal.loop-i-init
unfolding hex_of
loop-i-init g c = search rules

pub loop-i-preserved : goal.loop-i-preserved
loop-i-preserved g c = record {
  size = simp length-set c.loop-i.invariant.size;
  spelled =
      spelled_more c.args.bytes.now c.loop-i.digits c.loop-i.i _ _ c.loop-i-test.true (omega arith) c.digit.ensures c.digit-in-loop-i.ensures
      c.loop-i.invariant.spelled;
}

pub unreachable-requires : goal.unreachable-requires
unreachable-requires g c =
    let all = spelled_all c.args.bytes.now c.loop-i.digits c.loop-i.i c.loop-i-test.false (omega arith) c.loop-i.invariant.spelled in
    c.in_default.ensures.cases.0
    (rw all (IsUtf8-from_ascii (hex_of c.args.bytes.now) (IsAscii-hex_of c.args.bytes.now (λ k. (c.type_inv.bytes k).fits))))

pub returns : goal.returns
returns g c = λ plain ok.
    let all = spelled_all c.args.bytes.now c.loop-i.digits c.loop-i.i c.loop-i-test.false (omega arith) c.loop-i.invariant.spelled in
    has_written_of_eq _ _ _ _ _ (c.in-Ok.ensures.cases.0 ∙ all) (c.write_str.ensures.writes plain ok)
