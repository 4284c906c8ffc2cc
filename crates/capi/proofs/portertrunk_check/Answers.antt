-- `capi::portertrunk_check` meets its contract.
use Rattle.capi.proofs.Unpacking.{packed_check}
use Rattle.capi.proofs.portertrunk_check.Goals as goal

pub returns-in-Ok : goal.returns-in-Ok
returns-in-Ok c = packed_check _ _ _ _ _ _ c.in-Ok.is c.check.ensures c.pack.ensures

pub returns-in-Err : goal.returns-in-Err
returns-in-Err c = packed_check _ _ _ _ _ _ c.in-Err.is c.check.ensures c.pack-in-Err.ensures
