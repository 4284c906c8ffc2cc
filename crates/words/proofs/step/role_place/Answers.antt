-- `words::step::role_place` meets its contract.
use Rattle.words.proofs.Given.{place_most}
use Rattle.words.proofs.step.role_place.Goals as goal

pub returns : goal.returns
returns c =
    let role = c.args.role in
    (c.place.ensures, rw c.place.ensures (place_most role.entity role.name))
