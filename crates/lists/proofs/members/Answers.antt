-- `lists::members` meets its contract.
use borrow.Author.Rules.{rules}
use Rattle.rt0.specs.Credential.{◌·◌}
use Rattle.base.proofs.Refused.{handed_on}
use Rattle.bundle.specs.Held.{holding_in}
use Rattle.lists.specs.Asked.{RightMembers}
use Rattle.lines.specs.Text.{person_text}
use Rattle.lines.specs.Sizes.{members_bytes}
use Rattle.lists.specs.Promise.{role_row, MembersPromise}
use Rattle.lists.proofs.Promised.{tables_of, refused_tables}
use Rattle.lists.proofs.members.Goals as goal

pub list_members-requires : goal.list_members-requires
list_members-requires c = tables_of _ _ _ _ _ _ _ c.in_ok-filled.ensures

pub returns-in_err-filled : goal.returns-in_err-filled
returns-in_err-filled c =
    let bytes = c.args.bundle.now in
    let ρ = c.args.entity · c.args.name in
    handed_on (MembersPromise bytes ρ c.args.text.now c.args.text.now) c.from_residual.ensures
    (refused_tables (RightMembers (holding_in bytes) ρ) person_text bytes (role_row bytes ρ) members_bytes _ _ _ _ _ _ (search rules) (search rules)
    c.in_err-filled.ensures)
