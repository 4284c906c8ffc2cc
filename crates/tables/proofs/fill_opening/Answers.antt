-- `tables::fill_opening` meets its contract.
use Rattle.bundle.proofs.Refusals.{reads_accepted}
use Rattle.base.proofs.Refused.{handed_on}
use Rattle.tables.specs.Open.{open_names}
use Rattle.tables.specs.Promise.{tables, TablesWith}
use Rattle.tables.proofs.Promised.{refused_read}
use Rattle.tables.proofs.fill_opening.Goals as goal

pub fill_accepted-requires : goal.fill_accepted-requires
fill_accepted-requires c = reads_accepted _ _ c.in_ok-sizes.ensures

pub returns : goal.returns
returns c = c.fill_accepted.ensures

pub returns-in_err-sizes : goal.returns-in_err-sizes
returns-in_err-sizes c =
    let bytes = c.args.bundle.now in
    let before = tables c.args.sure.now c.args.possible.now in
    let is_open = open_names c.args.names bytes in
    handed_on (TablesWith is_open bytes before before) c.from_residual.ensures (refused_read bytes before is_open _ _ c.in_err-sizes.ensures)
