-- `capi::pack::pack_wrote` meets its contract.
use Rattle.capi.proofs.Written.{packs_length, packs_refused}
use Rattle.capi.proofs.pack.pack_wrote.Goals as goal

pub returns-in-Ok : goal.returns-in-Ok
returns-in-Ok c = packs_length _ _ _ c.in-Ok.is c.pack_below.ensures

pub returns-in-Err : goal.returns-in-Err
returns-in-Err c = packs_refused _ _ _ _ c.in-Err.is c.pack_below-in-Err.ensures
