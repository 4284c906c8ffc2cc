-- `premises::premise::between` meets its contract. The invariant: the test fails below x.
use Rattle.base.proofs.Lowest.{Missed}
use Rattle.premises.specs.Premise.{is_between}
use Rattle.premises.proofs.premise.between.Given as goal

abbrev pub invariant-loop-x : goal.invariant-loop-x
invariant-loop-x l = Missed (is_between l.words l.members l.name l.member) l.x
