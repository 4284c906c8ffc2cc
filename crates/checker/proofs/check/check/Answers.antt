-- `checker::check::check` meets its contract.
use mathlib.Core.Path.{sym, ◌∙◌}
use Rattle.base.proofs.Refused.{handed_on}
use Rattle.bundle.specs.Question.{question}
use Rattle.bundle.proofs.Refusals.{reads_accepted}
use Rattle.checker.specs.Rows.{Checks}
use Rattle.checker.proofs.Refusals.{reader_refused, question_refused, slip_answered}
use Rattle.checker.proofs.check.check.Goals as goal

pub returns-then-question_wrong : goal.returns-then-question_wrong
returns-then-question_wrong c =
    let args = c.args in
    rw c.at.ensures
    (question_refused args.bundle.now _ args.slip.now _ (reads_accepted _ _ c.in_ok-sizes.ensures) (sym c.question_wrong.ensures ∙ c.if-question_wrong.true))

pub returns-in_err-sizes : goal.returns-in_err-sizes
returns-in_err-sizes c =
    let args = c.args in
    handed_on (Checks args.bundle.now (question args.d args.a args.r) args.slip.now) c.from_residual.ensures
    (reader_refused args.bundle.now (question args.d args.a args.r) args.slip.now _ _ c.in_err-sizes.ensures)

pub invariant_of-accepted : goal.invariant_of-accepted
invariant_of-accepted c = record { accepts = reads_accepted _ _ c.in_ok-sizes.ensures }

pub returns : goal.returns
returns c =
    slip_answered c.args.bundle.now _ c.args.slip.now _ (reads_accepted _ _ c.in_ok-sizes.ensures) _
    (sym c.question_wrong.ensures ∙ c.if-question_wrong.false) c.check_slip.ensures
