-- `holder_lines::line::write_shelves` meets its contract.
use Rattle.text.specs.Written.{Wrote}
use Rattle.holder_lines.specs.Text.{shelves_text}
use Rattle.holder_lines.proofs.line.write_shelves.Given as goal

abbrev pub invariant-loop-i : goal.invariant-loop-i
invariant-loop-i l = Wrote l.initial.text l.at (shelves_text l.shelves l.i) l.text l.next
