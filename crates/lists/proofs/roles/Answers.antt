-- `lists::roles` meets its contract.
use borrow.Author.Rules.{rules}
use Rattle.base.proofs.Refused.{handed_on}
use Rattle.bundle.specs.Held.{holding_in}
use Rattle.lists.specs.Asked.{RightRoles}
use Rattle.lines.specs.Text.{role_text}
use Rattle.lines.specs.Sizes.{roles_bytes}
use Rattle.lists.specs.Promise.{person_row, RolesPromise}
use Rattle.lists.proofs.Promised.{tables_of, refused_tables}
use Rattle.lists.proofs.roles.Goals as goal

pub list_roles-requires : goal.list_roles-requires
list_roles-requires c = tables_of _ _ _ _ _ _ _ c.in_ok-filled.ensures

pub returns-in_err-filled : goal.returns-in_err-filled
returns-in_err-filled c =
    let bytes = c.args.bundle.now in
    let D = c.args.person in
    handed_on (RolesPromise bytes D c.args.text.now c.args.text.now) c.from_residual.ensures
    (refused_tables (RightRoles (holding_in bytes) D) role_text bytes (person_row bytes D) roles_bytes _ _ _ _ _ _ (search rules) (search rules)
    c.in_err-filled.ensures)
