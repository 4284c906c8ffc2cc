-- The promise of the search, for every bundle, question and lent memory, over what the answer depends on: the entities and names, which
-- roles are open, and the credentials that count.
use Rattle.std.specs.Prelude.{ℕ, ◌*◌, ◌≤◌, ◌<◌, ◌≡◌, Bool, ◌||◌, ◌⊎◌, List, [], ◌∷◌, ◌++◌, length, ltb}
use Rattle.rt0.specs.Credential.{Role}
use Rattle.rt0.specs.Membership.{Member}
use Rattle.rt0.specs.Table.{Rounds, distinct_heads}
use Rattle.rt0.specs.Completion.{Open, Completable, Verdict, YES, NO, UNSURE, Answers}
use Rattle.rt0.specs.Book.{Book}
use Rattle.rt0.specs.Holding.{Holding}
use Rattle.rt0.specs.Sizes.{slip_bytes}
use Rattle.base.specs.Refusals.{Row, row, AtZero, Judged}
use Rattle.bundle.specs.declared.question.Question.{Question}
use Rattle.bundle.specs.Rows.{reader_rows}
use Rattle.bundle.specs.Held.{open_of, holding_with}
use Rattle.bundle.specs.Question.{role_asked, question_row}
use Rattle.answers.specs.Answer.{Outcome, refusal, answered}
use Rattle.words.specs.Sizes.{most_entities, table_words}
use Rattle.tables.specs.Promise.{TableLeft}
use Rattle.search.specs.Written.{Written}

-- lent memory: the two tables and the slip buffer
pub record Lent : Type 0 where
  pub sure : List ℕ
  pub possible : List ℕ
  pub slip : List ℕ

abbrev pub lent : List ℕ → List ℕ → List ℕ → Lent
lent sure possible slip = record { sure = sure; possible = possible; slip = slip }

-- refusal 8: a lent table or the slip buffer is too short
abbrev pub LentShort : Lent → Type 0
LentShort m = (length m.sure < table_words) ⊎ ((length m.possible < table_words) ⊎ (length m.slip < slip_bytes))

abbrev pub lent_wrong : Lent → Bool
lent_wrong m = ltb (length m.sure) table_words || ltb (length m.possible) table_words || ltb (length m.slip) slip_bytes

abbrev pub lent_row : Lent → Row
lent_row m = row 8 (AtZero (LentShort m))

-- the table of refusals: the reader's rows, the question's, and 8
abbrev pub search_rows : List ℕ → Question → Lent → List Row
search_rows bytes q m = reader_rows bytes ++ (question_row bytes q ∷ lent_row m ∷ [])

-- a refusal has verdict, rounds and lines 0, and leaves every lent word and byte as it was
pub record RefusedWith (before after : Lent) (o : Outcome) : Type 0 where
  pub outcome : o ≡ refusal o.number o.place
  pub untouched : after ≡ before

-- what the slip buffer holds with each word, and how many lines
abbrev pub SlipLeft : Book → Role → ℕ → List ℕ → List ℕ → ℕ → Verdict → Type 0
SlipLeft book ρ D before after lines YES = Written book ρ D before lines after
SlipLeft book ρ D before after lines NO = (lines ≡ 0) × (after ≡ before)
SlipLeft book ρ D before after lines UNSURE = (lines ≡ 0) × (after ≡ before)

-- the answer to a question that is asked of a holding
pub record AnsweredWith (h : Holding) (q : Question) (before after : Lent) (o : Outcome) : Type 0 where
  -- the word, by RT0's own definition from membership and completions
  pub word : Verdict
  pub answers : Answers h.entities h.names h.is_open h.held (role_asked q) q.person word
  pub outcome : o ≡ answered word o.rounds o.lines
  -- the least number of rounds over the credentials that count
  pub rounds : Rounds h.held o.rounds
  pub few_rounds : o.rounds ≤ most_entities * length (distinct_heads h.held)
  -- the members with no completion, and under at least one
  pub sure : TableLeft (Member h.held) before.sure after.sure
  pub possible : TableLeft (Completable h.entities h.names h.is_open h.held) before.possible after.possible
  pub slip : SlipLeft h.book (role_asked q) q.person before.slip after.slip o.lines word

-- the refusal that is due, or, where no row applies, the answer where these roles are open
abbrev pub PromiseWith : Open → List ℕ → Question → Lent → Lent → Outcome → Type 0
PromiseWith is_open bytes q before after o =
    Judged (search_rows bytes q before) o.number o.place (RefusedWith before after o)
    (AnsweredWith (holding_with is_open bytes) q before after o)

-- by the bundle's marks alone
abbrev pub Promise : List ℕ → Question → Lent → Lent → Outcome → Type 0
Promise bytes = PromiseWith (open_of bytes) bytes
