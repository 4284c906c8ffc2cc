-- `search::refuse` meets its contract.
use Rattle.search.proofs.Judging.{refused_reader, refused_question, refused_memory}
use Rattle.base.proofs.Refused.{handed_on}
use Rattle.answers.specs.Answer.{outcome_of}
use Rattle.search.specs.Concluded.{RefusedAs}
use Rattle.search.proofs.refuse.Goals as goal

pub returns-then-wrong : goal.returns-then-wrong
returns-then-wrong c = rw c.at.ensures (refused_question _ _ _ c.in_ok-read.ensures c.if-wrong.true)

pub returns : goal.returns
returns c = rw c.at-2.ensures (refused_memory _ _ _ c.in_ok-read.ensures c.if-wrong.false)

pub returns-in_err-read : goal.returns-in_err-read
returns-in_err-read c =
    handed_on (λ r. RefusedAs c.args.bundle.now c.args.wrong (outcome_of r)) c.from_residual.ensures
    (refused_reader c.args.bundle.now c.args.wrong _ _ c.in_err-read.ensures)
