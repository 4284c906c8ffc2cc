-- `bundle::edition::edition_for` meets its contract.
use native.Mathlib.Omega.{arith}
use borrow.Author.Tests.{le-leb, lt-leb}
use Rattle.bundle.specs.Edition.{first_names, edition_for}
use Rattle.bundle.proofs.edition.edition_for.Goals as goal

pub returns-then-names-le-FIRST_NAMES : goal.returns-then-names-le-FIRST_NAMES
unfolding edition_for
returns-then-names-le-FIRST_NAMES c = rw (le-leb c.args.names first_names (omega (arith, c.if-names-le-FIRST_NAMES.true)))

pub returns-else-names-le-FIRST_NAMES : goal.returns-else-names-le-FIRST_NAMES
unfolding edition_for
returns-else-names-le-FIRST_NAMES c = rw (lt-leb c.args.names first_names (omega (arith, c.if-names-le-FIRST_NAMES.false)))
