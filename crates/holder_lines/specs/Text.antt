-- What is said of each record as text: `3 WELL 1 4` with the shelves that must hold it in rising number, or `5 ILL`, a line for each record in
-- their order, and last `END w i` with the numbers of WELL and of ILL lines. Numbers are in decimal.
use Rattle.std.specs.Prelude.{ℕ, zero, suc, ◌+◌, cond, List, [], ◌++◌, Option, Some, None}
use Rattle.records.specs.Form.{credential_of}
use Rattle.bundle.specs.Access.{record_of}
use Rattle.sheet.specs.Types.{types_by}
use Rattle.words.specs.Sizes.{most_entities}
use Rattle.text.specs.Ascii.{ascii, space, newline}
use Rattle.text.specs.Decimal.{decimal}
use Rattle.lines.specs.Text.{end_text}
use Rattle.lines.specs.Numbered.{is_one}
use Rattle.storage.specs.Stored.{stored_for}

-- shelf i + 1, where its bit is 1
abbrev pub shelf_text : ℕ → ℕ → List ℕ
shelf_text shelves i = cond (is_one shelves i) (space ++ decimal (suc i)) []

-- the shelves up to n
unfoldable pub shelves_text : ℕ → ℕ → List ℕ
shelves_text shelves zero = []
shelves_text shelves (suc n) = shelves_text shelves n ++ shelf_text shelves n

-- the line of record n; a refusal is said of no record, and has none
abbrev pub line_text : ℕ → Option ℕ → List ℕ
line_text n (Some shelves) = decimal n ++ ascii " WELL" ++ shelves_text shelves most_entities ++ newline
line_text n None = decimal n ++ ascii " ILL\n"

-- 1 for WELL, and 1 for ILL
abbrev pub well_of : Option ℕ → ℕ
well_of (Some shelves) = 1
well_of None = 0

abbrev pub ill_of : Option ℕ → ℕ
ill_of (Some shelves) = 0
ill_of None = 1

-- the lines of the first n records, by what is said of each number
unfoldable pub lines_text : (ℕ → Option ℕ) → ℕ → List ℕ
lines_text said zero = []
lines_text said (suc n) = lines_text said n ++ line_text (suc n) (said (suc n))

-- how many of them are well typed, and how many ill
unfoldable pub wells : (ℕ → Option ℕ) → ℕ → ℕ
wells said zero = 0
wells said (suc n) = wells said n + well_of (said (suc n))

unfoldable pub ills : (ℕ → Option ℕ) → ℕ → ℕ
ills said zero = 0
ills said (suc n) = ills said n + ill_of (said (suc n))

unfoldable pub holders_text : (ℕ → Option ℕ) → ℕ → List ℕ
holders_text said n = lines_text said n ++ end_text (wells said n) (ills said n)

-- what is said of each number by a bundle and a sheet
abbrev pub said_in : List ℕ → List ℕ → ℕ → Option ℕ
said_in bundle sheet n = stored_for (types_by sheet) (credential_of (record_of bundle n))
