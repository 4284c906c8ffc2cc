-- `search::slip::state_members` meets its contract. The invariant: the members before i have lines.
use Rattle.ledger.specs.Ledger.{Extended}
use Rattle.bundle.specs.Held.{book_in}
use Rattle.ledger.specs.Writing.{Unsaid, AllStated}
use Rattle.search.proofs.slip.state_members.Given as goal

abbrev pub invariant-loop-i : goal.invariant-loop-i
invariant-loop-i l =
    Extended (book_in l.bundle) l.initial.index l.initial.slip l.lines l.index l.slip l.count × Unsaid l.index l.goal
    × AllStated l.index l.given.first l.given.word l.i
