-- `bundle::read::read_first` meets its contract.
use Rattle.std.specs.Prelude.{Err}
use mathlib.Core.Path.{sym, ◌∙◌, ap}
use Rattle.bundle.proofs.Stages.{first_refused, first_passed, found_first}
use Rattle.bundle.proofs.read.read_first.Goals as goal

pub returns-then-first_wrong : goal.returns-then-first_wrong
returns-then-first_wrong c =
    let bytes = c.args.bundle.now in
    ap Err c.at.ensures ∙ first_refused bytes (sym (found_first bytes _ c.first_wrong.ensures) ∙ c.if-first_wrong.true)

pub returns : goal.returns
returns c =
    let bytes = c.args.bundle.now in
    c.read_count.ensures ∙ first_passed bytes (sym (found_first bytes _ c.first_wrong.ensures) ∙ c.if-first_wrong.false)
