-- `holder_lines::line::write_line` meets its contract.
use Rattle.holder_lines.proofs.Passes.{line_well, line_ill}
use Rattle.holder_lines.proofs.line.write_line.Goals as goal

pub returns-in-Some : goal.returns-in-Some
returns-in-Some c =
    line_well _ _ _ c.in-Some.is c.number-numbered.ensures c.word-well.ensures c.write_shelves-held.ensures c.put.ensures

pub returns-in-None : goal.returns-in-None
returns-in-None c =
    line_ill _ _ c.in-None.is c.number-numbered-in-None.ensures c.word.ensures
