-- `capi::portertrunk_search_with_sheet` meets its contract.
use Rattle.capi.proofs.Unpacking.{packed_promise}
use Rattle.capi.proofs.portertrunk_search_with_sheet.Goals as goal

pub returns : goal.returns
returns c = packed_promise _ _ _ c.pack_answer.ensures c.search_with_sheet.ensures
