-- `checker::line::Accepted::first_broken` meets its contract. The invariants: no line before i is wrong, and no premise of line i before j.
use mathlib.Core.Path.{◌≡◌}
use Rattle.base.proofs.Lowest.{Missed}
use Rattle.bundle.specs.Held.{book_in}
use Rattle.checker.specs.Premise.{premise_wrong_at, line_wrong}
use Rattle.checker.proofs.line.Accepted.first_broken.Given as goal

abbrev pub invariant-loop-j : goal.invariant-loop-j
invariant-loop-j l = (l.first ≡ l.lines) × Missed (premise_wrong_at (book_in l.self.bytes.now) l.slip l.i) l.j

abbrev pub invariant-lines : goal.invariant-lines
invariant-lines l = (l.first ≡ l.lines) × Missed (line_wrong (book_in l.self.bytes.now) l.slip) l.i
