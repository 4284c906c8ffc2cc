-- `lines::roles::role_line` meets its contract.
use Rattle.text.proofs.Written.{wrote_more}
use Rattle.lines.specs.Text.{role_text}
use Rattle.lines.proofs.Growing.{passed_line}
use Rattle.lines.proofs.roles.role_line.Goals as goal

pub returns-then-sure-possible : goal.returns-then-sure-possible
returns-then-sure-possible c before ls p =
    passed_line role_text _ _ _ ls c.if-sure-possible.true
    (wrote_more (wrote_more c.number-first.ensures c.put-spaced.ensures) c.number-keyed.ensures) c.mark.ensures p
