-- `read_bundle::line_for` meets its contract.
use Rattle.bundle.proofs.Refusals.{reads_accepted}
use Rattle.read_bundle.proofs.Prints.{prints_refused}
use Rattle.read_bundle.proofs.line_for.Goals as goal

pub line_of-requires : goal.line_of-requires
line_of-requires c = reads_accepted _ _ (rw c.in-Ok.is at c.read.ensures)

pub returns-in-Err : goal.returns-in-Err
returns-in-Err c =
    record {
      shown = _;
      holds = c.refusal.ensures;
      allowed = prints_refused c.args.input.now _ _ (rw c.in-Err.is at c.read.ensures);
    }
