-- `search::slip::one_round` meets its contract. The invariant: the words said are those after the first records.
use mathlib.Core.Path.{◌≡◌}
use Rattle.tables.proofs.Rounds.{round_to}
use Rattle.premises.specs.Fact.{Backed}
use Rattle.ledger.specs.Ledger.{Extended}
use Rattle.bundle.specs.Held.{held, book_in}
use Rattle.ledger.specs.Writing.{Unsaid}
use Rattle.search.proofs.slip.one_round.Given as goal

abbrev pub invariant-loop-n : goal.invariant-loop-n
invariant-loop-n l =
    Extended (book_in l.bundle) l.initial.index l.initial.slip l.lines l.index l.slip l.count × Unsaid l.index l.goal
    × (l.said ≡ round_to l.sizes.entities (held l.bundle) l.n l.initial.said) × Backed l.said l.index × (l.words ≡ l.initial.said)
