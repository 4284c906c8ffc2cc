-- `bundle_from_lines::listing_for` meets its contract.
use native.Mathlib.Omega.{arith}
use Rattle.listed.proofs.Given.{no_problem}
use Rattle.desk.specs.Answer.{listed_as}
use Rattle.desk.proofs.Given.{prints_answer}
use Rattle.bundle_from_lines.specs.Prints.{bundle_rows, BundleFrom}
use Rattle.bundle_from_lines.proofs.Prints.{numbered}
use Rattle.bundle_from_lines.proofs.listing_for.Goals as goal

pub from_input-wrote-requires : goal.from_input-wrote-requires
from_input-wrote-requires c = omega arith

pub returns : goal.returns
returns c room =
    let input = c.args.input.now in
    let made = c.from_input-wrote in (
      prints_answer (bundle_rows input) (BundleFrom input) (numbered input) _ _ made.result (made.ensures room) c.listing_of.ensures,
      no_problem (listed_as made.result) _ c.listing_of.ensures,
    )
