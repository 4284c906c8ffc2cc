-- `search::search_opening` meets its contract.
use mathlib.Core.Path.{sym, ◌∙◌}
use Rattle.base.proofs.Flags.{or_false}
use Rattle.search.specs.Promise.{lent}
use Rattle.search.proofs.Judging.{refused_rightly}
use Rattle.search.proofs.search_opening.Goals as goal

pub returns-then-wrong-short : goal.returns-then-wrong-short
returns-then-wrong-short c =
    let sizes = c.sizes_of-sizes.ensures.0 in
    let lent' = lent c.args.sure.now c.args.possible.now c.args.slip.now in
    refused_rightly c.args.bundle.now _ lent' _ _ _ (rw sizes at c.question_wrong-wrong.ensures) c.if-wrong-short.true c.refuse.ensures

pub work_out-requires : goal.work_out-requires
work_out-requires c =
    let (right, enough) = or_false _ _ c.if-wrong-short.false in
    (rw c.sizes_of-sizes.ensures.0 at (sym c.question_wrong-wrong.ensures ∙ right), enough)

pub returns : goal.returns
returns c = c.work_out.ensures
