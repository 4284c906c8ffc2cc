-- `premises::premise::link_premises` meets its contract.
use Rattle.premises.specs.Premise.{link_premises}
use Rattle.premises.proofs.premise.link_premises.Goals as goal

pub returns : goal.returns
unfolding link_premises
returns c =
    rw (c.of.ensures, c.line_of-2.ensures, c.line_of.ensures, c.between-x.ensures, c.word-members.ensures)
