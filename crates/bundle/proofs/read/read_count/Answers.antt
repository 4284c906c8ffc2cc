-- `bundle::read::read_count` meets its contract.
use Rattle.std.specs.Prelude.{Err}
use mathlib.Core.Path.{◌∙◌, ap}
use Rattle.bundle.proofs.Stages.{count_refused, count_passed}
use Rattle.bundle.proofs.read.read_count.Goals as goal

pub returns-then-blocks-sizes : goal.returns-then-blocks-sizes
returns-then-blocks-sizes c =
    ap Err c.at.ensures ∙ count_refused c.args.bundle.now _ _ c.requires.3 c.requires.1 c.if-blocks-sizes.true

pub returns : goal.returns
returns c =
    c.read_beside.ensures ∙ count_passed c.args.bundle.now _ _ c.requires.3 c.requires.1 c.if-blocks-sizes.false
