-- `spelling::put_name` meets its contract.
use Rattle.spelling.specs.Line.{name_text}
use Rattle.text.proofs.Written.{wrote_more}
use Rattle.spelling.proofs.put_name.Goals as goal

pub returns : goal.returns
unfolding name_text
returns c = wrote_more c.word-next.ensures c.number.ensures
