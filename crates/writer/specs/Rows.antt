-- The writer's tables of refusals, in the paper's order: 1 to 5, 61 to 65, 12, 13. Places of records are counted from 1.
use Rattle.std.specs.Prelude.{ℕ, ◌+◌, ◌*◌, ◌%◌, ◌<◌, ◌≡◌, Bool, true, ◌||◌, ◌⊎◌, List, [], ◌∷◌, ◌++◌, length, take, Result, Ok, Err, is_ok}
use Rattle.base.specs.declared.refusal.Refusal.{Refusal}
use Rattle.base.specs.Refused.{number_of, place_of}
use Rattle.base.specs.Range.{Outside, outside}
use Rattle.base.specs.Lowest.{LowestBelow}
use Rattle.base.specs.Refusals.{Row, row, AtPlace, AtZero, FromOne, Judged}
use Rattle.records.specs.Mistake.{SomeByte, record_wrong}
use Rattle.bundle.specs.Edition.{most_names}
use Rattle.bundle.specs.Layout.{entities_of, names_of, records_of, blocks_for}
use Rattle.bundle.specs.Rows.{reader_rows}
use Rattle.content.specs.Content.{most_entities, most_records, marks_wrong, listed, whole_records}

-- the length that an answer says
abbrev pub length_of : Result ℕ (Refusal ℕ) → ℕ
length_of (Ok n) = n
length_of (Err why) = 0

-- an answer by a table that says this length where no row applies
abbrev pub JudgedAs : List Row → Result ℕ (Refusal ℕ) → ℕ → Type 0
JudgedAs rows r n = Judged rows (number_of r) (place_of r) (length_of r ≡ 0) (length_of r ≡ n)

-- Both calls, at last.

-- more than 240 records; a buffer of so many bytes is too short
abbrev pub room_rows : ℕ → ℕ → List Row
room_rows count size =
    row 12 (AtPlace 241 (most_records < count))
    ∷ row 13 (AtZero (size < 512 * blocks_for count))
    ∷ []

-- A new bundle.

-- record i of a list is wrong
abbrev pub wrong_listed : ℕ → ℕ → List ℕ → ℕ → Bool
wrong_listed E R list i = record_wrong E R (listed list i)

-- record i of a list is the lowest wrong one, and some byte of it is wrong in way k
pub record LowestListed (E R : ℕ) (list : List ℕ) (k i : ℕ) : Type 0 where
  pub lowest_wrong : LowestBelow (wrong_listed E R list) (whole_records list) i
  pub some_byte : SomeByte E R (listed list i) k

-- unknown form; number of parts not 2 or 3; entity out of range; role name out of range; a byte that should be zero
abbrev pub list_rows : ℕ → ℕ → List ℕ → List Row
list_rows E R list =
    row 61 (FromOne (LowestListed E R list 0))
    ∷ row 62 (FromOne (LowestListed E R list 1))
    ∷ row 63 (FromOne (LowestListed E R list 2))
    ∷ row 64 (FromOne (LowestListed E R list 3))
    ∷ row 65 (FromOne (LowestListed E R list 4))
    ∷ []

-- what is wrong with a list of records: the row that is due, or nothing where none applies
abbrev pub FlawBy : ℕ → ℕ → List ℕ → ℕ → ℕ → Bool → Type 0
FlawBy E R list number place right = Judged (list_rows E R list) number place (Unit {0}) (right ≡ true)

abbrev pub FlawOf : {U : Type 0} → ℕ → ℕ → List ℕ → Result U (Refusal ℕ) → Type 0
FlawOf E R list flaw = FlawBy E R list (number_of flaw) (place_of flaw) (is_ok flaw)

-- E or R out of range, or wrong marks
abbrev pub HeadWrong : ℕ → ℕ → List ℕ → Type 0
HeadWrong E R marks = Outside most_entities E ⊎ (Outside most_names R ⊎ (marks_wrong E marks ≡ true))

abbrev pub head_wrong : ℕ → ℕ → List ℕ → Bool
head_wrong E R marks = outside most_entities E || outside most_names R || marks_wrong E marks

abbrev pub write_rows : ℕ → ℕ → List ℕ → List ℕ → ℕ → List Row
write_rows E R marks list size =
    -- the list of records is not in whole twelves
    row 1 (AtZero (length list % 12 ≡ 0 → ⊥))
    ∷ row 3 (AtZero (HeadWrong E R marks))
    ∷ (list_rows E R list ++ room_rows (whole_records list) size)

-- One record more, behind N.

abbrev pub new_rows : ℕ → ℕ → ℕ → List ℕ → List Row
new_rows E R N bytes =
    row 61 (AtPlace (N + 1) (SomeByte E R bytes 0))
    ∷ row 62 (AtPlace (N + 1) (SomeByte E R bytes 1))
    ∷ row 63 (AtPlace (N + 1) (SomeByte E R bytes 2))
    ∷ row 64 (AtPlace (N + 1) (SomeByte E R bytes 3))
    ∷ row 65 (AtPlace (N + 1) (SomeByte E R bytes 4))
    ∷ []

-- the number of records that stand at the front of a buffer
abbrev pub front_records : List ℕ → ℕ → ℕ
front_records buffer n = records_of (take n buffer)

abbrev pub append_rows : List ℕ → ℕ → List ℕ → List Row
append_rows buffer n bytes =
    -- the length is beyond the buffer, or the record has not twelve bytes
    row 1 (AtZero ((length buffer < n) ⊎ (length bytes ≡ 12 → ⊥)))
    -- the reader's own, a length that it refuses among them
    ∷ (reader_rows (take n buffer)
    ++ (new_rows (entities_of (take n buffer)) (names_of (take n buffer)) (front_records buffer n) bytes
    ++ room_rows (front_records buffer n + 1) (length buffer)))
