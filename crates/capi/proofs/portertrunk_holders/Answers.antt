-- `capi::portertrunk_holders` meets its contract.
use Rattle.capi.proofs.Holders.{packed_holders}
use Rattle.capi.proofs.portertrunk_holders.Goals as goal

pub returns : goal.returns
returns c = packed_holders _ _ _ _ _ c.holders.ensures c.pack_storage.ensures
