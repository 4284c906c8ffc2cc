-- `listed::say` meets its contract: a whole input is not cut.
use Rattle.std.proofs.Common.{rules}
use Rattle.said.proofs.Saying.{whole_end}
use Rattle.listed.proofs.Saying.{listed_whole}
use Rattle.listed.proofs.say.Goals as goal

pub returns-in-Ok-Whole : goal.returns-in-Ok-Whole
returns-in-Ok-Whole g c long read room =
    let whole = whole_end c.in-Ok-Whole.n c.min-end.result (search rules) c.min-end.ensures read in
    let (out, problem) = c.listing_for.ensures room in
    listed_whole g.P.ListProgram.prints g.P.ListProgram.unreadable c.args.got c.args.buffer.now c.listing_for.new.text c.listing_for.result c.in-Ok-Whole.n
    (search rules) (rw whole at out) problem
