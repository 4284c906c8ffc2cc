-- `bundle::read::read_beside` meets its contract.
use Rattle.std.specs.Prelude.{Err}
use mathlib.Core.Path.{◌∙◌, ap}
use Rattle.bundle.proofs.Stages.{beside_refused, beside_passed}
use Rattle.bundle.proofs.read.read_beside.Goals as goal

pub returns-then-j-blocks : goal.returns-then-j-blocks
returns-then-j-blocks c =
    ap Err c.at.ensures ∙ beside_refused c.args.bundle.now _ _ c.requires.1 c.lowest_bad_beside-j.ensures c.if-j-blocks.true

pub returns : goal.returns
returns c =
    c.read_records.ensures ∙ beside_passed c.args.bundle.now _ _ c.requires.1 c.lowest_bad_beside-j.ensures c.if-j-blocks.false
