-- `checker::line::premise` meets its contract.
use Rattle.checker.proofs.Lookups.{premise_read}
use Rattle.checker.proofs.line.premise.Goals as goal

pub returns : goal.returns
returns c =
    rw (c.byte.ensures.0, c.byte-2.ensures.0) (premise_read c.args.slip.now c.args.i c.args.j c.requires.1)
