-- `records::form::head_of` meets its contract.
use mathlib.Core.Path.{refl}
use Rattle.records.proofs.form.head_of.Goals as goal

pub returns-in-Role : goal.returns-in-Role
returns-in-Role c = rw (c.in_ok-head.was, c.in-Role.is) refl
