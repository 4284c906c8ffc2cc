-- `lines::roles::write_roles` meets its contract. The invariant: the lines of the words passed are written.
use Rattle.lines.specs.Text.{role_text}
use Rattle.lines.specs.Numbered.{roles_up_to}
use Rattle.lines.specs.Passing.{Passed}
use Rattle.lines.proofs.roles.write_roles.Given as goal

abbrev pub invariant-loop-i : goal.invariant-loop-i
invariant-loop-i l = Passed role_text (roles_up_to l.sure l.possible l.d l.i) l.initial.text l.text l.tally
