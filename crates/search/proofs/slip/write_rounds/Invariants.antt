-- `search::slip::write_rounds` meets its contract. The invariant: the words said are those after so many rounds.
use mathlib.Core.Path.{◌≡◌}
use Rattle.rt0.specs.Word.{times_words}
use Rattle.words.specs.Sizes.{width}
use Rattle.ledger.specs.Ledger.{Extended}
use Rattle.bundle.specs.Held.{held, book_in}
use Rattle.ledger.specs.Writing.{Writing, Unsaid}
use Rattle.search.proofs.slip.write_rounds.Given as goal

abbrev pub invariant-loop-round : goal.invariant-loop-round
invariant-loop-round l =
    Writing l.bundle l.sizes.entities l.said l.index l.slip l.count × Extended (book_in l.bundle) l.initial.index l.initial.slip 0 l.index l.slip l.count
    × Unsaid l.index l.goal × (l.said ≡ times_words l.sizes.entities width (held l.bundle) l._round l.initial.said)
