-- By the mode.
use Rattle.states.proofs.Modes.{fits-marker, fits_word, fits-number, fits-flag, fits-text, fits-raw, no_mode}
use Rattle.resume.proofs.Moves.{as_is}
use Rattle.step.proofs.Acts.{acts_marker, acts_word, acts_number, acts_flag, acts_text, acts_raw}
use Rattle.step.proofs.act.Goals as goal

pub marker_byte-requires : goal.marker_byte-requires
marker_byte-requires c = fits-marker c.args.w _ c.in-1.is c.requires

pub word_byte-requires-clause-open : goal.word_byte-requires-clause-open
word_byte-requires-clause-open c = (fits_word c.args.w _ c.in-2.is c.requires).0

pub word_byte-requires-clause-word : goal.word_byte-requires-clause-word
word_byte-requires-clause-word c = (fits_word c.args.w _ c.in-2.is c.requires).1

pub number_byte-requires-clause-open : goal.number_byte-requires-clause-open
number_byte-requires-clause-open c = (fits-number c.args.w _ c.in-3.is c.requires).0

pub number_byte-requires-clause-number : goal.number_byte-requires-clause-number
number_byte-requires-clause-number c = (fits-number c.args.w _ c.in-3.is c.requires).1

pub flag_done-requires-clause-open : goal.flag_done-requires-clause-open
flag_done-requires-clause-open c = (fits-flag c.args.w _ c.in-4.is c.requires).0

pub flag_done-requires-clause-flag : goal.flag_done-requires-clause-flag
flag_done-requires-clause-flag c = (fits-flag c.args.w _ c.in-4.is c.requires).1

pub text_byte-requires-clause-open : goal.text_byte-requires-clause-open
text_byte-requires-clause-open c = (fits-text c.args.w _ c.in-5.is c.requires).0

pub text_byte-requires-clause-text : goal.text_byte-requires-clause-text
text_byte-requires-clause-text c = (fits-text c.args.w _ c.in-5.is c.requires).1

pub raw_byte-requires-clause-open : goal.raw_byte-requires-clause-open
raw_byte-requires-clause-open c = (fits-raw c.args.w _ c.in-6.is c.requires).0

pub raw_byte-requires-clause-bytes : goal.raw_byte-requires-clause-bytes
raw_byte-requires-clause-bytes c = (fits-raw c.args.w _ c.in-6.is c.requires).1

pub returns-in-1-clause-steps : goal.returns-in-1-clause-steps
returns-in-1-clause-steps c = as_is (acts_marker c.args.w _ c.in-1.is) c.marker_byte.ensures.steps

pub returns-in-2-clause-steps : goal.returns-in-2-clause-steps
returns-in-2-clause-steps c = as_is (acts_word c.args.w _ c.in-2.is (fits_word c.args.w _ c.in-2.is c.requires).1) c.word_byte.ensures.steps

pub returns-in-3-clause-steps : goal.returns-in-3-clause-steps
returns-in-3-clause-steps c = as_is (acts_number c.args.w _ c.in-3.is (fits-number c.args.w _ c.in-3.is c.requires).1) c.number_byte.ensures.steps

pub returns-in-4-clause-steps : goal.returns-in-4-clause-steps
returns-in-4-clause-steps c = as_is (acts_flag c.args.w _ c.in-4.is (fits-flag c.args.w _ c.in-4.is c.requires).1) c.flag_done.ensures.steps

pub returns-in-5-clause-steps : goal.returns-in-5-clause-steps
returns-in-5-clause-steps c = as_is (acts_text c.args.w _ c.in-5.is (fits-text c.args.w _ c.in-5.is c.requires).1) c.text_byte.ensures.steps

pub returns-in-6-clause-steps : goal.returns-in-6-clause-steps
returns-in-6-clause-steps c = as_is (acts_raw c.args.w _ c.in-6.is (fits-raw c.args.w _ c.in-6.is c.requires).1) c.raw_byte.ensures.steps

pub returns-in_default-clause-steps : goal.returns-in_default-clause-steps
returns-in_default-clause-steps c =
    absurd (no_mode c.args.w c.in_default.in_default-own.rest.0.0.0.0.0.1 c.in_default.in_default-own.rest.0.0.0.0.1
    c.in_default.in_default-own.rest.0.0.0.1 c.in_default.in_default-own.rest.0.0.1 c.in_default.in_default-own.rest.0.1 c.in_default.in_default-own.rest.1 _ c.requires)
