-- `checker::claim::stated_by` meets its contract.
use mathlib.Core.Path.{sym, ◌∙◌}
use Rattle.checker.proofs.Lookups.{claim_stated}
use Rattle.checker.proofs.claim.stated_by.Goals as goal

pub returns : goal.returns
returns c =
    let args = c.args in
    claim_stated args.credential _ args.member (sym c.in_ok-role.was ∙ c.head_of.ensures)
