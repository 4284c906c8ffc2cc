-- `lines_from_bundle::from_bundle` meets its contract.
use native.Mathlib.Omega.{arith}
use Rattle.base.proofs.Refused.{widened_on}
use Rattle.bundle.specs.Rows.{reader_rows}
use Rattle.bundle.proofs.Determined.{reads_refused}
use Rattle.bundle.proofs.Places.{reader_place}
use Rattle.bundle.proofs.Refusals.{reads_accepted}
use Rattle.desk.specs.Answer.{Gives}
use Rattle.lines_from_bundle.specs.Prints.{LinesFrom}
use Rattle.lines_from_bundle.proofs.Prints.{bundle_refused}
use Rattle.lines_from_bundle.proofs.from_bundle.Goals as goal

pub from_records-requires : goal.from_records-requires
from_records-requires c = (reads_accepted _ _ c.in_ok-sizes.ensures, c.requires)

pub returns-in_err-sizes : goal.returns-in_err-sizes
returns-in_err-sizes c room =
    let bundle = c.args.bundle.now in
    let due = reads_refused bundle _ _ c.in_err-sizes.ensures in
    widened_on (Gives (reader_rows bundle) (LinesFrom bundle) c.args.text.now) c.from_residual.ensures
    (bundle_refused bundle _ _ _ (omega (arith, reader_place bundle _ _ due)) c.in_err-sizes.ensures)
