-- `answers::line::refusal` meets its contract.
use native.Mathlib.Omega.{arith}
use lib.ListN.{length-append}
use Rattle.text.proofs.Decimal.{five_digits}
use Rattle.text.proofs.Written.{wrote_more}
use Rattle.answers.proofs.Text.{holds_written}
use Rattle.answers.proofs.line.refusal.Goals as goal

pub returns : goal.returns
returns c =
    holds_written c.empty.ensures
    (wrote_more (wrote_more (wrote_more (wrote_more c.word-worded.ensures c.number.ensures) c.put-spaced.ensures) c.number-2.ensures) c.put.ensures)
    (simp length-append (omega (arith, five_digits c.args.kind (omega arith), five_digits c.args.place (omega arith))))
