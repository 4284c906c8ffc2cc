-- `lines::members::member_line` meets its contract.
use Rattle.lines.specs.Text.{person_text}
use Rattle.lines.proofs.Growing.{passed_line}
use Rattle.lines.proofs.members.member_line.Goals as goal

pub returns-then-sure-possible : goal.returns-then-sure-possible
returns-then-sure-possible c before ls p = passed_line person_text _ _ _ ls c.if-sure-possible.true c.number-keyed.ensures c.mark.ensures p
