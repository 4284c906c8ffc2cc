-- `lines::line::end_line` meets its contract.
use Rattle.text.proofs.Written.{wrote_more}
use Rattle.lines.proofs.line.end_line.Goals as goal

pub returns : goal.returns
returns c =
    wrote_more (wrote_more (wrote_more (wrote_more c.word-worded.ensures c.number-first.ensures) c.put-spaced.ensures) c.number-second.ensures)
    c.put.ensures
