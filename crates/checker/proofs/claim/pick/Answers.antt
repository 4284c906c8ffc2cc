-- `checker::claim::pick` meets its contract.
use Rattle.checker.proofs.Lookups.{pick_last}
use Rattle.checker.proofs.claim.pick.Goals as goal

pub returns-in_default : goal.returns-in_default
returns-in_default c = pick_last _ _ _ _ c.in_default.in_default-own.rest.0.1 c.in_default.in_default-own.rest.1
