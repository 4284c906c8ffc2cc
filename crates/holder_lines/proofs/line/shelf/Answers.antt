-- `holder_lines::line::shelf` meets its contract.
use Rattle.holder_lines.proofs.Passes.{shelf_there, shelf_not}
use Rattle.holder_lines.proofs.line.shelf.Goals as goal

pub returns-then-shelves-i-eq1 : goal.returns-then-shelves-i-eq1
returns-then-shelves-i-eq1 c =
    let args = c.args in
    shelf_there args.shelves args.i c.if-shelves-i-eq1.true c.put-spaced.ensures c.number.ensures

pub returns : goal.returns
returns c = let args = c.args in shelf_not args.shelves args.i args.text.now args.at c.if-shelves-i-eq1.false
