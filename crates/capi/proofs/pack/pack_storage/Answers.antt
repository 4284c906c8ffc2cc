-- `capi::pack::pack_storage` meets its contract.
use Rattle.std.specs.Prelude.{Ok}
use mathlib.Core.Path.{refl, ap, ◌∙◌}
use Rattle.capi.proofs.Holders.{packs_held, packs_ill, packs_refusal}
use Rattle.capi.proofs.pack.pack_storage.Goals as goal

pub returns-in-Some : goal.returns-in-Some
returns-in-Some c = packs_held _ _ _ _ _ (c.in-Ok.is ∙ ap Ok c.in-Some.is) refl refl c.pack.ensures

pub returns-in-None : goal.returns-in-None
returns-in-None c = packs_ill _ _ (c.in-Ok.is ∙ ap Ok c.in-None.is) c.pack-in-None.ensures

pub returns-in-Err : goal.returns-in-Err
returns-in-Err c = packs_refusal _ _ _ _ c.in-Err.is c.pack-in-Err.ensures
