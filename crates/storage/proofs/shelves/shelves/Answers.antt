-- `storage::shelves::shelves` meets its contract.
use mathlib.Core.Path.{sym, ◌∙◌}
use Rattle.sheet.specs.Types.{types_by}
use Rattle.storage.proofs.Said.{no_head_held, held_found}
use Rattle.storage.proofs.shelves.shelves.Goals as goal

pub returns-in_default : goal.returns-in_default
returns-in_default c =
    no_head_held (types_by c.args.sheet.now) c.args.kept (sym c.head_of.ensures ∙ c.in_default.is)

pub returns : goal.returns
returns c =
    held_found (types_by c.args.sheet.now) c.args.kept _ _ _ _ _ _ (sym c.head_of.ensures ∙ c.in-Some.is)
    c.sides_of-name.ensures c.single.ensures c.subjects.ensures c.held_if.ensures c.held_if-2.ensures
