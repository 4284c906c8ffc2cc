-- `tables::fill` meets its contract: no names are opened, so that the roles of absent shelves are open alone.
use Rattle.tables.proofs.Opened.{open_alone}
use Rattle.tables.proofs.fill.Goals as goal

pub returns : goal.returns
returns c =
    let bytes = c.args.bundle.now in
    rw (open_alone bytes) at c.fill_opening.ensures
