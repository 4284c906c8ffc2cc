-- `records::mistake::mistake_of` meets its contract.
use native.Mathlib.Omega.{arith}
use mathlib.Core.Path.{sym, ◌∙◌}
use Rattle.records.proofs.Mistakes.{unknown_form, number_of_parts, entity_out_of_range, name_out_of_range, byte_not_zero, nothing_wrong}
use Rattle.records.proofs.mistake.mistake_of.Goals as goal

pub returns-in-0 : goal.returns-in-0
returns-in-0 c = unknown_form _ _ _ (sym c.in-0.is ∙ c.first_kind.ensures)

pub returns-in-1 : goal.returns-in-1
returns-in-1 c = number_of_parts _ _ _ (sym c.in-1.is ∙ c.first_kind.ensures)

pub returns-in-2 : goal.returns-in-2
returns-in-2 c = entity_out_of_range _ _ _ (sym c.in-2.is ∙ c.first_kind.ensures)

pub returns-in-3 : goal.returns-in-3
returns-in-3 c = name_out_of_range _ _ _ (sym c.in-3.is ∙ c.first_kind.ensures)

pub returns-in-4 : goal.returns-in-4
returns-in-4 c = byte_not_zero _ _ _ (sym c.in-4.is ∙ c.first_kind.ensures)

pub returns-in_default : goal.returns-in_default
returns-in_default c =
    let args = c.args in
    nothing_wrong args.entities args.names args.«record».now (omega (arith, c.first_kind.ensures, c.in_default.in_default-own.rest.0, c.in_default.in_default-own.rest.1))
