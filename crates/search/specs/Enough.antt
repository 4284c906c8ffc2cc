-- As much lent memory as the search asks for: with it refusal 8 is never due.
use Rattle.std.specs.Prelude.{◌≤◌, length}
use Rattle.rt0.specs.Sizes.{slip_bytes}
use Rattle.words.specs.Sizes.{table_words}
use Rattle.search.specs.Promise.{Lent}

pub record Enough (m : Lent) : Type 0 where
  pub sure : table_words ≤ length m.sure
  pub possible : table_words ≤ length m.possible
  pub slip : slip_bytes ≤ length m.slip
