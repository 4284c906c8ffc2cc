-- Where the rounds lead: a table at rest, and how many rounds led to it; in words that are lent, which may be more than a table's.
use Rattle.std.specs.Prelude.{ℕ, ◌^◌, ◌<◌, ◌≤◌, ◌≡◌, List, get_or, take, drop}
use Rattle.rt0.specs.Credential.{Credential}
use Rattle.rt0.specs.Word.{Settled, Fits}
use Rattle.rt0.specs.Sizes.{most_rounds}
use Rattle.words.specs.Sizes.{most_entities, width, table_words}

-- from the words start the rounds come to rest at the words ws, after so many rounds; the words are sets of entities up to E
pub record AtRest (E : ℕ) (cs : List Credential) (start : List ℕ) (rounds : ℕ) (ws : List ℕ) : Type 0 where
  pub settled : Settled E width cs start rounds ws
  pub most : rounds ≤ most_rounds
  pub fits : Fits E most_entities width ws

-- the rounds have come to rest in the first table_words words of lent words, of 32 bits each, of which the others stay
pub record RestsIn (E : ℕ) (cs : List Credential) (start before : List ℕ) (rounds : ℕ) (after : List ℕ) : Type 0 where
  pub rests : AtRest E cs start rounds (take table_words after)
  pub rest : drop table_words after ≡ drop table_words before
  pub small : (i : ℕ) → get_or after i 0 < 2 ^ 32
