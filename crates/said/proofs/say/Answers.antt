-- `said::say` meets its contract: a whole input is not cut, and an input longer than the buffer is longer than the longest, for which the
-- program's law says what is printed.
use Rattle.std.proofs.Common.{rules}
use Rattle.said.proofs.Saying.{whole_end, said_whole, said_longer}
use Rattle.said.proofs.say.Goals as goal

pub returns-in-Ok-Whole : goal.returns-in-Ok-Whole
returns-in-Ok-Whole g c long read =
    let n = c.in-Ok-Whole.n in
    let whole = whole_end n c.min-end.result (search rules) c.min-end.ensures read in
    said_whole g.P.Program.prints g.P.Program.unreadable c.args.got c.args.buffer.now record { out = c.line_for.result; problem = c.empty.result } n
    (search rules) (rw whole at c.line_for.ensures) c.empty.ensures.0

pub returns-in-Ok-Longer : goal.returns-in-Ok-Longer
returns-in-Ok-Longer g c long read =
    said_longer g.P.Program.prints g.P.Program.unreadable c.args.got c.args.buffer.now record { out = c.longer.result; problem = c.empty-in-Ok-Longer.result } _ _
    g.met.P.Program.prints_longer long (search rules) c.longer.ensures c.empty-in-Ok-Longer.ensures.0
