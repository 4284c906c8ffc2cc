-- `records::form::role_at` meets its contract.
use Rattle.records.proofs.form.role_at.Goals as goal

pub returns : goal.returns
returns c = rw (c.byte.ensures.0, c.byte-2.ensures.0)
