-- The promise of the tables, for every bundle and all lent words: it fixes the answer and every word of both tables. It is over what the
-- tables depend on: the entities and names, which roles are open, and the credentials that count.
use Rattle.std.specs.Prelude.{ℕ, ◌*◌, ◌^◌, ◌<◌, ◌≤◌, ◌≡◌, Bool, ◌||◌, ◌⊎◌, List, [], ◌∷◌, ◌++◌, length, get_or, drop, ltb, Result, Ok, Err}
use Rattle.rt0.specs.Membership.{Assignment, Member}
use Rattle.rt0.specs.Table.{distinct_heads}
use Rattle.rt0.specs.Table.{Rounds as IsRounds}
use Rattle.rt0.specs.Completion.{Open, Completable}
use Rattle.rt0.specs.Holding.{Holding}
use Rattle.rt0.specs.Word.{Shows}
use Rattle.base.specs.declared.refusal.Refusal.{Refusal}
use Rattle.base.specs.Refused.{number_of, place_of}
use Rattle.base.specs.Refusals.{Row, row, AtZero, Judged}
use Rattle.bundle.specs.declared.read.Sizes.{Sizes}
use Rattle.bundle.specs.Layout.{sizes_in}
use Rattle.bundle.specs.Rows.{reader_rows, no_sizes}
use Rattle.bundle.specs.Held.{open_of, holding_with}
use Rattle.tables.specs.declared.Filled.{Filled}
use Rattle.words.specs.Sizes.{most_entities, width, table_words}

-- the two tables that are lent
pub record Tables : Type 0 where
  pub sure : List ℕ
  pub possible : List ℕ

abbrev pub tables : List ℕ → List ℕ → Tables
tables sure possible = record { sure = sure; possible = possible }

-- the first table_words words show the assignment, role A.r at word width (A − 1) + r − 1 and D at bit D − 1; the others stay. There are
-- as many words as before, each of 32 bits
pub record TableLeft (P : Assignment) (before after : List ℕ) : Type 0 where
  pub shows : Shows most_entities width after P
  pub rest : drop table_words after ≡ drop table_words before
  pub size : length after ≡ length before
  pub small : (i : ℕ) → get_or after i 0 < 2 ^ 32

-- the tables of a holding, and the number of rounds
pub record FilledWith (h : Holding) (before after : Tables) (count : ℕ) : Type 0 where
  -- the least number of rounds over the credentials that count
  pub rounds : IsRounds h.held count
  pub few_rounds : count ≤ most_entities * length (distinct_heads h.held)
  -- the members with no completion, and under at least one
  pub sure : TableLeft (Member h.held) before.sure after.sure
  pub possible : TableLeft (Completable h.entities h.names h.is_open h.held) before.possible after.possible

-- refusal 8: a lent table is too short
abbrev pub TablesShort : Tables → Type 0
TablesShort m = (length m.sure < table_words) ⊎ (length m.possible < table_words)

abbrev pub tables_wrong : Tables → Bool
tables_wrong m = ltb (length m.sure) table_words || ltb (length m.possible) table_words

abbrev pub short_row : Tables → Row
short_row m = row 8 (AtZero (TablesShort m))

-- the table of refusals: the reader's rows, then 8
abbrev pub table_rows : List ℕ → Tables → List Row
table_rows bytes m = reader_rows bytes ++ (short_row m ∷ [])

-- tables that were filled, with these sizes and so many rounds
abbrev pub filled : Sizes → ℕ → Filled
filled s n = record { sizes = s; rounds = n }

-- the sizes and the rounds that an answer says
abbrev pub sizes_of : Result Filled (Refusal ℕ) → Sizes
sizes_of (Ok given) = given.sizes
sizes_of (Err why) = no_sizes

abbrev pub rounds_of : Result Filled (Refusal ℕ) → ℕ
rounds_of (Ok given) = given.rounds
rounds_of (Err why) = 0

-- a refusal says no sizes and no rounds, and touches nothing
pub record TablesRefused (before after : Tables) (o : Result Filled (Refusal ℕ)) : Type 0 where
  pub sizes : sizes_of o ≡ no_sizes
  pub rounds : rounds_of o ≡ 0
  pub untouched : after ≡ before

-- an answer says the bundle's sizes, and leaves its tables
pub record TablesGiven (is_open : Open) (bytes : List ℕ) (before after : Tables) (o : Result Filled (Refusal ℕ)) : Type 0 where
  pub sizes : sizes_of o ≡ sizes_in bytes
  pub filled : FilledWith (holding_with is_open bytes) before after (rounds_of o)

-- where these roles are open
abbrev pub TablesWith : Open → List ℕ → Tables → Tables → Result Filled (Refusal ℕ) → Type 0
TablesWith is_open bytes before after o =
    Judged (table_rows bytes before) (number_of o) (place_of o) (TablesRefused before after o) (TablesGiven is_open bytes before after o)

-- by the bundle's marks alone
abbrev pub TablesPromise : List ℕ → Tables → Tables → Result Filled (Refusal ℕ) → Type 0
TablesPromise bytes = TablesWith (open_of bytes) bytes
