-- `lines_from_bundle::listing_for` meets its contract.
use native.Mathlib.Omega.{arith}
use Rattle.bundle.specs.Rows.{reader_rows}
use Rattle.bundle.proofs.Refusals.{reader_numbers}
use Rattle.listed.proofs.Given.{no_problem}
use Rattle.desk.specs.Answer.{listed_as}
use Rattle.desk.proofs.Given.{prints_answer}
use Rattle.lines_from_bundle.specs.Prints.{LinesFrom}
use Rattle.lines_from_bundle.proofs.listing_for.Goals as goal

pub from_bundle-wrote-requires : goal.from_bundle-wrote-requires
from_bundle-wrote-requires c = omega arith

pub returns : goal.returns
returns c room =
    let bundle = c.args.bundle.now in
    let made = c.from_bundle-wrote in (
      prints_answer (reader_rows bundle) (LinesFrom bundle) (reader_numbers bundle) _ _ made.result (made.ensures room) c.listing_of.ensures,
      no_problem (listed_as made.result) _ c.listing_of.ensures,
    )
