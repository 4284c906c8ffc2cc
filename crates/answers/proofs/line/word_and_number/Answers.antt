-- `answers::line::word_and_number` meets its contract.
use native.Mathlib.Omega.{arith}
use mathlib.Core.List.{◌++◌}
use lib.ListN.{length-append}
use Rattle.text.specs.Decimal.{decimal}
use Rattle.text.proofs.Decimal.{five_digits}
use Rattle.text.proofs.Written.{wrote_more}
use Rattle.answers.specs.Line.{newline}
use Rattle.answers.proofs.Text.{holds_written}
use Rattle.answers.proofs.line.word_and_number.Goals as goal

pub returns : goal.returns
returns c =
    holds_written {shown = c.args.letters.now ++ decimal c.args.n ++ newline} c.empty.ensures
    (wrote_more (wrote_more c.word.ensures c.number.ensures) c.put.ensures)
    (simp length-append (omega (arith, five_digits c.args.n (omega arith))))
