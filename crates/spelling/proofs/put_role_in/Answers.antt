-- `spelling::put_role_in` meets its contract.
use Rattle.spelling.proofs.Texts.{wrote_as, role_as}
use Rattle.spelling.proofs.put_role_in.Goals as goal

pub returns : goal.returns
returns c =
    wrote_as (role_as c.number_in.ensures c.number_in-2.ensures) c.put_role.ensures
