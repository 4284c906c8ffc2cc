-- `capi::portertrunk_search` meets its contract.
use Rattle.capi.proofs.Unpacking.{packed_promise}
use Rattle.capi.proofs.portertrunk_search.Goals as goal

pub returns : goal.returns
returns c = packed_promise _ _ _ c.pack_answer.ensures c.search.ensures
