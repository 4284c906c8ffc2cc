-- `lines::roles::write_roles` meets its contract. The invariant: the lines of the words passed are written.
use borrow.Author.Rules.{rules}
use Rattle.lines.proofs.Passes.{roles_start, roles_more, roles_few, roles_written}
use Rattle.lines.proofs.roles.write_roles.Goals as goal

pub loop-i-init : goal.loop-i-init
loop-i-init c = let args = c.args in roles_start args.sure.now args.possible.now args.d (search rules) (search rules) (search rules)

pub role_line-tally-requires : goal.role_line-tally-requires
role_line-tally-requires c =
    let args = c.args in
    roles_few args.sure.now args.possible.now args.d c.loop-i.i (search rules) c.loop-i.invariant

pub loop-i-preserved : goal.loop-i-preserved
loop-i-preserved c =
    let args = c.args in
    roles_more args.sure.now args.possible.now args.d c.loop-i.i _ _ (rw c.word_at.ensures at c.has.ensures)
    (rw c.word_at-in-loop-i.ensures at c.has-in-loop-i.ensures) c.loop-i.invariant c.role_line-tally.ensures

pub returns : goal.returns
returns c =
    let args = c.args in
    roles_written args.sure.now args.possible.now args.d c.loop-i.i (search rules) c.loop-i.invariant c.end_line.ensures
