-- `lines::members::write_members` meets its contract. The invariant: the lines of the persons passed are written.
use Rattle.lines.specs.Text.{person_text}
use Rattle.lines.specs.Numbered.{members_up_to}
use Rattle.lines.specs.Passing.{Passed}
use Rattle.lines.proofs.members.write_members.Given as goal

abbrev pub invariant-loop-i : goal.invariant-loop-i
invariant-loop-i l = Passed person_text (members_up_to l.sure l.possible l.i) l.initial.text l.text l.tally
