-- `bundle::stored::mistake_in` meets its contract.
use Rattle.bundle.proofs.Parts.{mistaken_part}
use Rattle.bundle.proofs.stored.mistake_in.Goals as goal

pub returns : goal.returns
returns c =
    let args = c.args in
    mistaken_part args.sizes args.bytes.now args.start c.mistake_of.result c.mistake_of.ensures
