-- `letters::read::fill_records` meets its contract. The invariant: the records of the lines passed are stored.
use lib.ListN.{length}
use Rattle.text.specs.Written.{Wrote}
use Rattle.letters.proofs.Filling.{candidates_to}
use Rattle.letters.proofs.read.fill_records.Given as goal

abbrev pub invariant-loop-line : goal.invariant-loop-line
invariant-loop-line l = Wrote l.initial.records 0 (candidates_to l.text (length l.yielded)) l.records l.place
