-- P1 to P12 of the paper, and the case of a sheet, on real bytes: RT0's list of cases, each with its bundle, the checks of the bundle's blocks and
-- its sheet, if it has one; and when that is right, by the definitions that the promises cite. What is asked and what is to come out is said in RT0's list alone.
use Rattle.std.specs.Prelude.{ℕ, zero, suc, ◌/◌, ◌≡◌, length}
use Rattle.std.proofs.Math.Option.{Option, none, some}
use mathlib.Core.List.{List, [], ◌∷◌, ◌++◌, zip_with}
use Rattle.rt0.specs.Credential.{IsEntity, entity_of, name_of}
use Rattle.rt0.specs.Table.{Rounds}
use Rattle.rt0.specs.Completion.{Open, Verdict, Answers}
use Rattle.rt0.specs.House.{Case, cases, present_but}
use Rattle.block.specs.Block.{block, check_of}
use Rattle.bundle.specs.declared.read.Sizes.{Sizes}
use Rattle.bundle.specs.declared.question.Question.{Question}
use Rattle.bundle.specs.Layout.{entities_of, names_of}
use Rattle.bundle.specs.Held.{shelves, open_of, held as held_in}
use Rattle.bundle.specs.Question.{question, role_asked, Asked}
use Rattle.sheet.specs.Sheet.{RightSheet}
use Rattle.answers.specs.Answer.{Outcome, answered}
use Rattle.search.specs.Promise.{Lent, Promise}
use Rattle.search.specs.Enough.{Enough}
use Rattle.with_sheet.specs.Open.{open_by_sheet}
use Rattle.with_sheet.specs.Promise.{SheetSearch}
use Rattle.house.specs.Bundles.{all_present, guild_absent, upland_absent, both_absent, removed_all_present, removed_guild_absent}
use Rattle.house.specs.Bundles.{empty, empty_absent, in_itself, tomas_absent, student_loose}

-- P11 and P12: the check of block 0 with all shelves present, and that of the house's record block
abbrev pub first_check : ℕ
first_check = 101

abbrev pub record_check : ℕ
record_check = 6884

-- the bundles of the cases in their order, the checks of their blocks, and their sheets
unfoldable pub bundles : List (List ℕ × List ℕ × Option (List ℕ))
bundles =
    (all_present, first_check ∷ record_check ∷ [], none)
    ∷ (all_present, first_check ∷ record_check ∷ [], none)
    ∷ (guild_absent, 110 ∷ record_check ∷ [], none)
    ∷ (upland_absent, 108 ∷ record_check ∷ [], none)
    ∷ (both_absent, 117 ∷ record_check ∷ [], none)
    ∷ (removed_all_present, 97 ∷ 5312 ∷ [], none)
    ∷ (removed_guild_absent, 106 ∷ 5312 ∷ [], none)
    ∷ (empty, 12 ∷ [], none)
    ∷ (empty_absent, 17 ∷ [], none)
    ∷ (in_itself, 16 ∷ 1036 ∷ [], none)
    ∷ (tomas_absent, 111 ∷ record_check ∷ [], none)
    ∷ (tomas_absent, 111 ∷ record_check ∷ [], some student_loose)
    ∷ []

-- a case of RT0's list, its bundle, the checks of the bundle's blocks, and its sheet
pub record CaseOnBytes : Type 0 where
  pub case : Case
  pub bundle : List ℕ
  pub checks : List ℕ
  pub sheet : Option (List ℕ)

abbrev pub on_bytes : Case → List ℕ × List ℕ × Option (List ℕ) → CaseOnBytes
on_bytes k (bytes, checks, sheet) = record { case = k; bundle = bytes; checks = checks; sheet = sheet }

-- P1 to P10, and Tomas without a sheet and with one; P11 and P12 are the two checks that P1 states
unfoldable pub cases_on_bytes : List CaseOnBytes
cases_on_bytes = zip_with on_bytes cases bundles

-- the checks of the first n blocks
unfoldable pub checks_of : List ℕ → ℕ → List ℕ
checks_of bytes zero = []
checks_of bytes (suc k) = checks_of bytes k ++ (check_of (block bytes k) ∷ [])

-- what block 0 is to say, and the question
abbrev pub sizes : CaseOnBytes → Sizes
sizes k = record { entities = k.case.entities; names = k.case.names; records = length k.case.held }

abbrev pub question_of : CaseOnBytes → Question
question_of k = question k.case.asked (entity_of k.case.into) (name_of k.case.into)

-- the open roles, with the sheet if there is one
abbrev pub open_on : Option (List ℕ) → List ℕ → Open
open_on none bytes = open_of bytes
open_on (some sheet) bytes = open_by_sheet sheet bytes

-- what the search promises, with the sheet if there is one
abbrev pub PromiseOn : Option (List ℕ) → List ℕ → Question → Lent → Lent → Outcome → Type 0
PromiseOn none bytes = Promise bytes
PromiseOn (some sheet) bytes = SheetSearch bytes sheet

-- the sheet, if there is one, is right over R names
abbrev pub RightOn : Option (List ℕ) → ℕ → Type 0
RightOn none R = Unit {0}
RightOn (some sheet) R = RightSheet R sheet

-- the word that answers the question, by RT0's membership and completions over what the bytes say
abbrev pub Word : CaseOnBytes → Verdict → Type 0
Word k v =
    Answers (entities_of k.bundle) (names_of k.bundle) (open_on k.sheet k.bundle) (held_in k.bundle) (role_asked (question_of k))
    (question_of k).person v

-- what a case states is so of its bytes
pub record RightOnBytes (k : CaseOnBytes) : Type 0 where
  -- the reader accepts the bundle, and the question is in range
  pub asked : Asked k.bundle (sizes k) (question_of k)
  -- the check of every block
  pub checks : checks_of k.bundle (length k.bundle / 512) ≡ k.checks
  -- the sheet is right
  pub sheet : RightOn k.sheet k.case.names
  -- what the records say
  pub held : held_in k.bundle ≡ k.case.held
  -- what the marks say
  pub marks : (A : ℕ) → IsEntity k.case.entities A → shelves k.bundle A ≡ present_but k.case.absent A
  pub word : Word k k.case.verdict
  -- the least number of rounds
  pub rounds : Rounds (held_in k.bundle) k.case.rounds
  -- and so every answer that keeps the search's promise with enough memory has this word and these rounds
  pub promised : (before after : Lent) (o : Outcome) → Enough before → PromiseOn k.sheet k.bundle (question_of k) before after o
      → o ≡ answered k.case.verdict k.case.rounds o.lines
