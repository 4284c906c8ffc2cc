-- `bundle::layout::bad_beside` meets its contract.
use Rattle.bundle.proofs.Parts.{beside_found}
use Rattle.bundle.proofs.layout.bad_beside.Goals as goal

pub returns : goal.returns
returns c =
    beside_found c.args.bundle.now c.args.n _ _ _ c.requires.2 c.records_in.ensures.0 c.beside_wrong.ensures
