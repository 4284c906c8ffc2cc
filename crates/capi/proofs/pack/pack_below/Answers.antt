-- `capi::pack::pack_below` meets its contract.
use native.Mathlib.Omega.{arith}
use Rattle.capi.proofs.pack.pack_below.Goals as goal

pub returns : goal.returns
returns c = omega arith
