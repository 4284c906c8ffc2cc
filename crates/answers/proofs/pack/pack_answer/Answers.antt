-- `answers::pack::pack_answer` meets its contract.
use Rattle.answers.proofs.pack.pack_answer.Goals as goal

pub returns-in-Yes : goal.returns-in-Yes
returns-in-Yes c = rw (c.in-Ok.is, c.in-Yes.is) c.pack.ensures
