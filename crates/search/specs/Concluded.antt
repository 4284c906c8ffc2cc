-- What stands between the promise of the search and its functions: what the tables show, and the word with its slip.
use Rattle.std.specs.Prelude.{ℕ, ◌≡◌, Bool, cond, ◌⊎◌, List}
use Rattle.rt0.specs.Credential.{Credential}
use Rattle.rt0.specs.Membership.{Member}
use Rattle.rt0.specs.Table.{Rounds}
use Rattle.rt0.specs.Completion.{Open, Completable, Verdict, Answers}
use Rattle.rt0.specs.Holding.{Holding}
use Rattle.rt0.specs.Word.{Shows}
use Rattle.bundle.specs.declared.question.Question.{Question}
use Rattle.bundle.specs.Layout.{entities_of, names_of}
use Rattle.bundle.specs.Held.{held, holding_with}
use Rattle.bundle.specs.Question.{role_asked}
use Rattle.base.specs.Refusals.{Due, Clear}
use Rattle.bundle.specs.Rows.{reader_rows}
use Rattle.answers.specs.Answer.{Outcome, refusal, answered}
use Rattle.words.specs.Sizes.{most_entities, width}
use Rattle.search.specs.Promise.{SlipLeft}

-- the sure table of credentials, with its number of rounds
pub record SureShows (cs : List Credential) (n : ℕ) (words : List ℕ) : Type 0 where
  pub rounds : Rounds cs n
  pub sure : Shows most_entities width words (Member cs)

-- the word, by RT0's own definition, with what the slip buffer then holds
pub record Concluded (h : Holding) (q : Question) (rounds : ℕ) (before after : List ℕ) (o : Outcome) : Type 0 where
  pub word : Verdict
  pub answers : Answers h.entities h.names h.is_open h.held (role_asked q) q.person word
  pub outcome : o ≡ answered word rounds o.lines
  pub slip : SlipLeft h.book (role_asked q) q.person before after o.lines word

-- the same of a bundle for any roles that are open, where the second table shows who is a member under some completion
abbrev pub ConcludedBy : List ℕ → Question → ℕ → List ℕ → List ℕ → List ℕ → Outcome → Type 0
ConcludedBy bytes q rounds possible before after o =
    (is_open : Open) → Shows most_entities width possible (Completable (entities_of bytes) (names_of bytes) is_open (held bytes))
    → Concluded (holding_with is_open bytes) q rounds before after o

-- a refusal: the reader's own where one is due, and else 7 for a wrong question, or 8
pub record RefusedAs (bytes : List ℕ) (wrong : Bool) (o : Outcome) : Type 0 where
  pub outcome : o ≡ refusal o.number o.place
  pub due : Due (reader_rows bytes) o.number o.place ⊎ (Clear (reader_rows bytes) × (o.number ≡ cond wrong 7 8) × (o.place ≡ 0))
