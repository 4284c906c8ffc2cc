-- `capi::portertrunk_tables` meets its contract.
use Rattle.capi.proofs.Unpacking.{packed_tables}
use Rattle.capi.proofs.portertrunk_tables.Goals as goal

pub returns : goal.returns
returns c = packed_tables _ _ _ c.pack_filled.ensures c.fill.ensures
