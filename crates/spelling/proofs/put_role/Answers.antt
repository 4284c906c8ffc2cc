-- `spelling::put_role` meets its contract.
use Rattle.spelling.specs.Line.{role_text}
use Rattle.text.proofs.Written.{wrote_more}
use Rattle.spelling.proofs.put_role.Goals as goal

pub returns : goal.returns
unfolding role_text
returns c = wrote_more c.put_entity-next.ensures c.put_name.ensures
