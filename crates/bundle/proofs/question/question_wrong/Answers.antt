-- `bundle::question::question_wrong` meets its contract.
use Rattle.bundle.proofs.question.question_wrong.Goals as goal

pub returns : goal.returns
returns c = rw (c.outside-3.ensures, c.outside-2.ensures, c.outside.ensures)
