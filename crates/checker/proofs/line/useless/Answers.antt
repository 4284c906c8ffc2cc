-- `checker::line::useless` meets its contract.
use mathlib.Core.Path.{refl}
use Rattle.checker.proofs.line.useless.Goals as goal

pub returns-in-Some-Entity : goal.returns-in-Some-Entity
returns-in-Some-Entity c =
    let entity_is = rw c.in-Some-Entity.is at c.in-Some-Entity.field-0-is in
    rw (c.in-Some-Entity.is, entity_is) refl
