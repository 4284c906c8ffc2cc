-- The tables of refusals of letters, in the paper's order. Reading: 3, then 14 at the first wrong line among the first 240, then 12, then 13.
-- Writing: 1, 3, 61 to 65 at the lowest wrong record of the list, 12, 13. Lines and records are counted from 1.
use Rattle.std.specs.Prelude.{ℕ, ◌*◌, ◌%◌, ◌<◌, ◌≡◌, Bool, ◌||◌, ◌⊎◌, List, [], ◌∷◌, ◌++◌, length}
use Rattle.base.specs.Range.{Outside, outside}
use Rattle.base.specs.Refusals.{Row, row, AtPlace, AtZero, FromOne}
use Rattle.bundle.specs.Edition.{most_names}
use Rattle.content.specs.Content.{most_entities, most_records, whole_records}
use Rattle.writer.specs.Rows.{list_rows}
use Rattle.spelling.specs.Line.{RightLine}
use Rattle.letters.specs.Lines.{text_of, credentials_in, line_count, line_at}

-- E or R is out of range
abbrev pub OutOfRange : ℕ → ℕ → Type 0
OutOfRange E R = Outside most_entities E ⊎ Outside most_names R

abbrev pub out_of_range : ℕ → ℕ → Bool
out_of_range E R = outside most_entities E || outside most_names R

-- the line that has k before it is the first wrong one, and among the first 240
pub record FirstWrong (E R : ℕ) (text : List ℕ) (k : ℕ) : Type 0 where
  pub there : k < line_count text
  pub among : k < most_records
  pub wrong : RightLine E R (line_at text k) → ⊥
  pub before : (j : ℕ) → j < k → RightLine E R (line_at text j)

-- a buffer of so many bytes is too short for the records of so many lines
abbrev pub room_rows : ℕ → ℕ → List Row
room_rows lines size = row 13 (AtZero (size < 12 * lines)) ∷ []

-- the lines: a wrong one; anything behind line 240; then whether there is room
abbrev pub line_rows : ℕ → ℕ → List ℕ → ℕ → List Row
line_rows E R text size =
    row 14 (FromOne (FirstWrong E R text))
    ∷ row 12 (AtPlace 241 (most_records < line_count text))
    ∷ room_rows (line_count text) size

-- reading
abbrev pub read_rows : ℕ → ℕ → List ℕ → ℕ → List Row
read_rows E R text size = row 3 (AtZero (OutOfRange E R)) ∷ line_rows E R text size

-- more than 240 records; a buffer of so many bytes is too short for their text
abbrev pub text_rows : List ℕ → ℕ → List Row
text_rows list size =
    row 12 (AtPlace 241 (most_records < whole_records list))
    ∷ row 13 (AtZero (size < length (text_of (credentials_in list))))
    ∷ []

-- writing
abbrev pub write_rows : ℕ → ℕ → List ℕ → ℕ → List Row
write_rows E R list size =
    -- the list of records is not in whole twelves
    row 1 (AtZero (length list % 12 ≡ 0 → ⊥))
    ∷ row 3 (AtZero (OutOfRange E R))
    ∷ (list_rows E R list ++ text_rows list size)
