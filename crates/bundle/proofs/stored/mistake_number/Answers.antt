-- `bundle::stored::mistake_number` meets its contract.
use mathlib.Core.Path.{◌∙◌}
use Rattle.bundle.proofs.Parts.{mistake_found}
use Rattle.bundle.proofs.stored.mistake_number.Goals as goal

pub returns : goal.returns
returns c =
    let place = c.after-place.ensures in
    c.number_of.ensures ∙ mistake_found c.args.bundle.now _ c.args.i _ _ c.mistake_in.result c.requires.1 place.0 place.1 c.mistake_in.ensures
