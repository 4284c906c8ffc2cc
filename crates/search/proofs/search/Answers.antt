-- `search::search` meets its contract: no names are opened, so that the roles of absent shelves are open alone.
use Rattle.tables.proofs.Opened.{open_alone}
use Rattle.search.proofs.search.Goals as goal

pub returns : goal.returns
returns c =
    let bytes = c.args.bundle.now in
    rw (open_alone bytes) at c.search_opening.ensures
