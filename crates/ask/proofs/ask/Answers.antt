-- `ask::ask` meets its contract.
use Rattle.ask.proofs.Answered.{asked}
use Rattle.ask.proofs.ask.Goals as goal

pub returns : goal.returns
returns c =
    asked c.args.input.now _ _ _ _ _ _ _ c.bundle_start-start.ensures.0
    c.byte-d.ensures.0 c.byte-a.ensures.0 c.byte-r.ensures.0 c.search.ensures
