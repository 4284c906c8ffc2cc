-- `tables::start::is_absent` meets its contract.
use Rattle.tables.proofs.start.is_absent.Goals as goal

pub returns-in_default : goal.returns-in_default
returns-in_default c = rw (← c.mark_at.ensures, c.in_default.is)

pub returns-in-Present : goal.returns-in-Present
returns-in-Present c = rw (← c.mark_at.ensures, c.in-Some.is, c.in-Present.is)

pub returns-in-Absent : goal.returns-in-Absent
returns-in-Absent c = rw (← c.mark_at.ensures, c.in-Some.is, c.in-Absent.is)
