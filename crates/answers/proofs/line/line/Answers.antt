-- `answers::line::line` meets its contract.
use Rattle.answers.proofs.line.line.Goals as goal

pub returns-in-Yes : goal.returns-in-Yes
returns-in-Yes c = rw (c.in-Ok.is, c.in-Yes.is) c.word_and_number.ensures

pub returns-in-Unsure : goal.returns-in-Unsure
returns-in-Unsure c = rw (c.in-Ok.is, c.in-Unsure.is) c.word_and_number-in-Unsure.ensures
