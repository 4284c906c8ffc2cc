-- `storage::typing::structurally` meets its contract.
use mathlib.Core.Path.{sym, ◌∙◌}
use Rattle.sheet.specs.Types.{types_by}
use Rattle.storage.proofs.Said.{no_head_typed, typed_found}
use Rattle.storage.proofs.typing.structurally.Goals as goal

pub returns-in_default : goal.returns-in_default
returns-in_default c =
    no_head_typed (types_by c.args.sheet.now) c.args.kept (sym c.head_of.ensures ∙ c.in_default.is)

pub returns : goal.returns
returns c =
    typed_found (types_by c.args.sheet.now) c.args.kept _ _ _ _ (sym c.head_of.ensures ∙ c.in-Some.is)
    c.traces.ensures c.body.ensures c.three_conditions.ensures
