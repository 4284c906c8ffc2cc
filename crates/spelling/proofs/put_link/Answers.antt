-- `spelling::put_link` meets its contract.
use Rattle.spelling.proofs.Texts.{wrote_as, name_as}
use Rattle.text.proofs.Written.{wrote_more}
use Rattle.spelling.proofs.put_link.Goals as goal

pub returns : goal.returns
returns c =
    wrote_more c.put_role_in-next.ensures
    (wrote_as (name_as c.number_in.ensures) c.put_name.ensures)
