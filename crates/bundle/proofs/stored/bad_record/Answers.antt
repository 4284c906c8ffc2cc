-- `bundle::stored::bad_record` meets its contract.
use Rattle.bundle.proofs.Parts.{wrong_found}
use Rattle.bundle.proofs.stored.bad_record.Goals as goal

pub returns : goal.returns
returns c =
    let place = c.after-place.ensures in
    wrong_found c.args.bundle.now _ _ _ _ _ c.requires.1 place.0 place.1 c.wrong_in.ensures
