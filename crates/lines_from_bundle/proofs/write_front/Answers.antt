-- `lines_from_bundle::write_front` meets its contract.
use borrow.Author.Rules.{rules}
use mathlib.Core.Path.{sym}
use lib.Seq.{length-take-le}
use Rattle.lines_from_bundle.proofs.write_front.Goals as goal

pub slice_bounds-write_lines-end : goal.slice_bounds-write_lines-end
slice_bounds-write_lines-end c = sym (length-take-le _ _ (search rules))
