-- `lines::members::write_members` meets its contract. The invariant: the lines of the persons passed are written.
use borrow.Author.Rules.{rules}
use Rattle.lines.proofs.Passes.{members_start, members_more, members_few, members_written}
use Rattle.lines.proofs.members.write_members.Goals as goal

pub loop-i-init : goal.loop-i-init
loop-i-init c = members_start c.args.sure c.args.possible (search rules) (search rules) (search rules)

pub member_line-tally-requires : goal.member_line-tally-requires
member_line-tally-requires c = members_few _ _ c.loop-i.i (search rules) c.loop-i.invariant

pub loop-i-preserved : goal.loop-i-preserved
loop-i-preserved c = members_more _ _ c.loop-i.i _ _ c.has.ensures c.has-in-loop-i.ensures c.loop-i.invariant c.member_line-tally.ensures

pub returns : goal.returns
returns c = members_written _ _ c.loop-i.i (search rules) c.loop-i.invariant c.end_line.ensures
