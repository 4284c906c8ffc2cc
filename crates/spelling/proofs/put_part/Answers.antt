-- `spelling::put_part` meets its contract.
use Rattle.text.proofs.Written.{wrote_more}
use Rattle.spelling.proofs.put_part.Goals as goal

pub returns : goal.returns
returns c = wrote_more c.word-next.ensures c.put_role_in.ensures
