-- `capi::pack::pack_filled` meets its contract.
use Rattle.capi.proofs.pack.pack_filled.Goals as goal

pub returns-in-Ok : goal.returns-in-Ok
returns-in-Ok c = rw c.in-Ok.is c.pack.ensures

pub returns-in-Err : goal.returns-in-Err
returns-in-Err c = rw c.in-Err.is c.pack-in-Err.ensures
