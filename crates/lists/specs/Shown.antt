-- What the two tables of an accepted bundle show, as the lists are read off them.
use Rattle.std.specs.Prelude.{ℕ, List}
use Rattle.rt0.specs.Holding.{Holding}
use Rattle.rt0.specs.Word.{Shows}
use Rattle.words.specs.Sizes.{most_entities, width}
use Rattle.lists.specs.Asked.{SureIn, PossibleIn}

pub record TablesOf (h : Holding) (sure possible : List ℕ) : Type 0 where
  pub sure_shown : Shows most_entities width sure (SureIn h)
  pub possible_shown : Shows most_entities width possible (PossibleIn h)
