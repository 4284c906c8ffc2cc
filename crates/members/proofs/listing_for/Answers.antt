-- `members::listing_for` meets its contract.
use Rattle.listed.proofs.Given.{no_problem}
use Rattle.members.proofs.Prints.{prints_list}
use Rattle.members.proofs.listing_for.Goals as goal

pub returns : goal.returns
returns c room = (
  prints_list c.args.input.now c.args.text.now _ c.list-listed.result _ room c.list-listed.ensures c.listing_of.ensures,
  no_problem c.list-listed.result _ c.listing_of.ensures,
)
