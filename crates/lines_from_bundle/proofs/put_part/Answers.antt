-- `lines_from_bundle::put_part` meets its contract.
use Rattle.base.proofs.Parts.{part_is}
use Rattle.spelling.proofs.Texts.{wrote_as}
use Rattle.lines_from_bundle.proofs.put_part.Goals as goal

pub returns : goal.returns
returns c =
    let args = c.args in
    wrote_as (part_is args.bytes.now args.start 12) c.word.ensures
