-- `search::slip::write_slip` meets its contract.
use borrow.Author.Rules.{rules}
use Rattle.rt0.specs.Word.{none_words}
use Rattle.search.proofs.Finishing.{ready, written}
use Rattle.search.proofs.slip.write_slip.Goals as goal

pub write_rounds-requires : goal.write_rounds-requires
unfolding none_words
write_rounds-requires c =
    let pre = c.requires in
    ready c.args.bundle.now _ _ pre.0 c.args.slip.now _ _
    c.fact_number-goal.ensures pre.1 pre.2 pre.3 c.write_steps.ensures (search rules)

pub returns : goal.returns
returns c =
    written c.args.bundle.now _ _ c.requires.0 _ _ _ _ _
    c.fact_number-goal.ensures c.write_rounds.ensures
