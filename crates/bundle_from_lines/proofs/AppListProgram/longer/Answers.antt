-- `bundle_from_lines`: what is answered to the bytes of a full buffer is the answer to every input that is longer.
use native.Mathlib.Omega.{arith}
use Rattle.bundle_from_lines.proofs.Prints.{lists_onward}
use Rattle.bundle_from_lines.proofs.AppListProgram.longer.Goals as goal

pub returns : goal.returns
returns c long room =
    let (out, problem) = c.listing_for.ensures room in
    (lists_onward c.args.buffer.now _ _ (omega (arith, long)) out, problem)
