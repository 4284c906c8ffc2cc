-- `answers::line::message` meets its contract.
use native.Mathlib.Omega.{arith}
use Rattle.answers.proofs.Text.{message_fits, holds_written}
use Rattle.answers.proofs.line.message.Goals as goal

pub returns : goal.returns
returns c =
    rw (message_fits c.args.words.now c.if-words-gt-CAPACITY.false) (holds_written c.empty-2.ensures c.word.ensures (omega arith))
