-- By what the word is of.
use Rattle.std.proofs.Common.{◌≡◌, rules}
use Rattle.format.specs.Step.{opened, texting, filling, byte_array}
use Rattle.format.specs.Numbers.{work_of, use_work, no_trait}
use Rattle.resume.proofs.Moves.{waits, after_given, not_given}
use Rattle.words.proofs.open_body.Goals as goal

pub returns-in_err-p-in-Xml-clause-steps : goal.returns-in_err-p-in-Xml-clause-steps
unfolding opened
returns-in_err-p-in-Xml-clause-steps c = rw c.in-Xml.is (not_given (λ ts s. texting ts c.args.row s c.args.n) c.in_err-p-in-Xml.ensures.rooms c.from_residual.ensures)

pub returns-in_ok-p-in-Xml-clause-steps : goal.returns-in_ok-p-in-Xml-clause-steps
unfolding opened
returns-in_ok-p-in-Xml-clause-steps c = rw c.in-Xml.is (after_given (λ ts s. texting ts c.args.row s c.args.n) c.in_ok-p-in-Xml.ensures.rooms c.texting.ensures.steps)

pub returns-in-Date-clause-steps : goal.returns-in-Date-clause-steps
unfolding opened work_of
returns-in-Date-clause-steps c = rw c.in-Date.is (waits (search rules))

pub returns-in-Array-clause-steps : goal.returns-in-Array-clause-steps
unfolding opened work_of use_work
returns-in-Array-clause-steps c = let e : c.default-in-Array.result ≡ no_trait = search rules in rw c.in-Array.is (waits (rw (c.string_work.ensures, e)))

pub returns-in_err-p-in-Bytes-clause-steps : goal.returns-in_err-p-in-Bytes-clause-steps
unfolding opened
returns-in_err-p-in-Bytes-clause-steps c = rw c.in-Bytes.is (not_given (λ ts s. filling ts (byte_array c.args.row) s c.args.n) c.in_err-p-in-Bytes.ensures.rooms c.from_residual-in_err-p-in-Bytes.ensures)

pub returns-in_ok-p-in-Bytes-clause-steps : goal.returns-in_ok-p-in-Bytes-clause-steps
unfolding opened
returns-in_ok-p-in-Bytes-clause-steps c = rw c.in-Bytes.is (after_given (λ ts s. filling ts (byte_array c.args.row) s c.args.n) c.in_ok-p-in-Bytes.ensures.rooms c.filling.ensures.steps)

pub returns-in-Objects-clause-steps : goal.returns-in-Objects-clause-steps
unfolding opened work_of
returns-in-Objects-clause-steps c = rw c.in-Objects.is (waits c.flag_work.ensures)

pub returns-in-Dictionary-clause-steps : goal.returns-in-Dictionary-clause-steps
unfolding opened work_of
returns-in-Dictionary-clause-steps c = rw c.in-Dictionary.is (waits c.flag_work-in-Dictionary.ensures)
