-- By the width.
use Rattle.format.specs.Numbers.{body_purpose}
use Rattle.words.proofs.raw_purpose.Goals as goal

pub returns-in-Four : goal.returns-in-Four
unfolding body_purpose
returns-in-Four c = rw c.in-Four.is

pub returns-in-Eight : goal.returns-in-Eight
unfolding body_purpose
returns-in-Eight c = rw c.in-Eight.is
