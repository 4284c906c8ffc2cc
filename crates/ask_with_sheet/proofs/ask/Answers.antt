-- `ask_with_sheet::ask` meets its contract.
use Rattle.ask_with_sheet.proofs.Answered.{asked}
use Rattle.ask_with_sheet.proofs.ask.Goals as goal

pub returns : goal.returns
returns c =
    asked c.args.input.now _ _ _ _ _ _ _ _ c.bundle_start-sheet.ensures.0
    c.bundle_start-bundle.ensures.0 c.byte.ensures.0 c.byte-2.ensures.0 c.byte-3.ensures.0
    c.search_with_sheet.ensures
