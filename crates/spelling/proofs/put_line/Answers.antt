-- `spelling::put_line` meets its contract.
use Rattle.records.specs.Bytes.{credential_in}
use Rattle.spelling.specs.Line.{line_of}
use Rattle.text.proofs.Written.{wrote_more}
use Rattle.spelling.proofs.put_line.Goals as goal

pub returns : goal.returns
unfolding line_of credential_in
returns c =
    wrote_more (wrote_more (wrote_more c.put_role_in-head.ensures c.word-next.ensures) c.put_body-body.ensures) c.word.ensures
