-- `spelling::put_entity` meets its contract.
use Rattle.spelling.specs.Line.{entity_text}
use Rattle.text.proofs.Written.{wrote_more}
use Rattle.spelling.proofs.put_entity.Goals as goal

pub returns : goal.returns
unfolding entity_text
returns c = wrote_more c.word-next.ensures c.number.ensures
