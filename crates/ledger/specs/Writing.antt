-- The promises of the functions that write a slip: what is known while it is written, and what one more line, the lines of a record or a
-- round, and the whole slip leave. E entities, the words ws, n lines written; a prime marks what is left.
use Rattle.std.specs.Prelude.{ℕ, ◌+◌, ◌*◌, ◌<◌, ◌≤◌, ◌≡◌, ◌⊎◌, List, length, get_or, drop}
use Rattle.rt0.specs.Book.{Book}
use Rattle.rt0.specs.Bytes.{lines_of}
use Rattle.rt0.specs.Word.{bit}
use Rattle.rt0.specs.Sizes.{slip_bytes}
use Rattle.bundle.specs.declared.read.Sizes.{Sizes}
use Rattle.bundle.specs.Layout.{names_of, records_of}
use Rattle.bundle.specs.Rows.{Accepts}
use Rattle.bundle.specs.Held.{book_in}
use Rattle.bundle.specs.Access.{record_of}
use Rattle.words.specs.Sizes.{most_entities, table_words, fact_count}
use Rattle.words.specs.Give.{give_of, head_place}
use Rattle.words.specs.Step.{Stepped}
use Rattle.ledger.specs.declared.Given.{Given}
use Rattle.premises.specs.Fact.{HasLine, Backed}
use Rattle.ledger.specs.Ledger.{Ledger, Extended}

-- the sizes of a bundle of E entities
abbrev pub sizes_with : List ℕ → ℕ → Sizes
sizes_with bytes E = record { entities = E; names = names_of bytes; records = records_of bytes }

-- n lines of a slip over an accepted bundle are written, and the index has a line for each fact that the words hold
pub record Writing (bytes : List ℕ) (E : ℕ) (ws index slip : List ℕ) (n : ℕ) : Type 0 where
  pub accepts : Accepts bytes (sizes_with bytes E)
  pub words : length ws ≡ table_words
  pub room : slip_bytes ≤ length slip
  pub ledger : Ledger (book_in bytes) index (lines_of slip n)
  pub backed : Backed ws index

-- k is the number of a record of the bundle
pub record IsRecord (bytes : List ℕ) (k : ℕ) : Type 0 where
  pub above : 1 ≤ k
  pub within : k ≤ records_of bytes

-- the steps are those of the records of the bundle
pub record HasSteps (bytes steps : List ℕ) : Type 0 where
  pub enough : records_of bytes ≤ length steps
  pub stepped : Stepped bytes (records_of bytes) steps

-- the number of the first fact of the head of record k
abbrev pub head_fact : List ℕ → ℕ → ℕ
head_fact bytes k = most_entities * head_place (record_of bytes k)

-- what record k gives
abbrev pub given_by : List ℕ → ℕ → List ℕ → ℕ → ℕ
given_by bytes E ws k = give_of E ws (record_of bytes k)

-- what is at hand of a record of the bundle is the first fact of its head, which is a fact of the tables, and the word that it gives
pub record IsGiven (bytes ws : List ℕ) (g : Given) : Type 0 where
  pub number : IsRecord bytes g.number
  pub first : g.first ≡ head_fact bytes g.number
  pub inside : g.first + most_entities ≤ fact_count
  pub word : g.word ≡ given_by bytes g.entities ws g.number

-- fact f has no line, or the last of n
abbrev pub NoneOrLast : List ℕ → ℕ → ℕ → Type 0
NoneOrLast index n f = (get_or index f 0 ≡ 0) ⊎ (get_or index f 0 ≡ n)

-- at most one more line, after which fact f has one if it is given
pub record AtMostOneMore (bytes index slip : List ℕ) (n f given : ℕ) (index' slip' : List ℕ) (n' : ℕ) : Type 0 where
  pub extended : Extended (book_in bytes) index slip n index' slip' n'
  pub newest : (g : ℕ) → get_or index g 0 ≡ 0 → NoneOrLast index' n' g
  pub stated : given ≡ 1 → HasLine index' f

-- fact f has no line yet
pub record Unsaid (index : List ℕ) (f : ℕ) : Type 0 where
  pub inside : f < fact_count
  pub none : get_or index f 0 ≡ 0

-- more lines, up to that of fact f at most: if f has one it is the last, and if not P holds
pub record Progress (book : Book) (index slip : List ℕ) (n f : ℕ) (index' slip' : List ℕ) (n' : ℕ) (P : Type 0) : Type 0 where
  pub extended : Extended book index slip n index' slip' n'
  pub last : NoneOrLast index' n' f
  pub otherwise : get_or index' f 0 ≡ 0 → P

-- the facts from number f on that a word has, below bit n, have lines
abbrev pub AllStated : List ℕ → ℕ → ℕ → ℕ → Type 0
AllStated index f given n = (i : ℕ) → i < n → bit given i ≡ 1 → HasLine index (f + i)

-- the slip is finished with n lines, of which the last states fact f; the bytes behind them stay
pub record Finished (book : Book) (slip : List ℕ) (f : ℕ) (index' slip' : List ℕ) (n : ℕ) : Type 0 where
  pub ledger : Ledger book index' (lines_of slip' n)
  pub rest : drop (8 * n) slip' ≡ drop (8 * n) slip
  pub size : length slip' ≡ length slip
  pub has : HasLine index' f
  pub last : get_or index' f 0 ≡ n
