-- The promise of the text of all records, for every bundle, sheet and lent memory: it fixes the answer and every lent byte. The rows are the
-- reader's, then 15 for the sheet, then 8 for memory below the bytes that a text can need.
use Rattle.std.specs.Prelude.{ℕ, ◌≤◌, ◌≡◌, List, [], ◌∷◌, ◌++◌, length, drop, Result, Option}
use Rattle.base.specs.declared.refusal.Refusal.{Refusal}
use Rattle.base.specs.Refused.{number_of, place_of}
use Rattle.base.specs.Refusals.{Row, Judged}
use Rattle.bundle.specs.Layout.{names_of, records_of}
use Rattle.bundle.specs.Rows.{reader_rows}
use Rattle.sheet.specs.Sheet.{sheet_row}
use Rattle.storage.specs.Promise.{SaidOfRecord}
use Rattle.lists.specs.Promise.{short_row, length_of, ListRefused}
use Rattle.holder_lines.specs.Sizes.{holders_bytes}
use Rattle.holder_lines.specs.Text.{holders_text}

-- what is said of each record, 1 to N
abbrev pub SaidOfAll : List ℕ → List ℕ → (ℕ → Option ℕ) → Type 0
SaidOfAll bundle sheet said = (n : ℕ) → 1 ≤ n → n ≤ records_of bundle → SaidOfRecord bundle sheet n (said n)

-- the text of what is said of all records
pub record HoldersGiven (bundle sheet shown : List ℕ) : Type 0 where
  pub said : ℕ → Option ℕ
  pub right : SaidOfAll bundle sheet said
  pub text : shown ≡ holders_text said (records_of bundle)

-- it stands at the front of the lent memory and has the length that is said; every byte behind it stays
pub record HoldersLeft (bundle sheet before after : List ℕ) (o : Result ℕ (Refusal ℕ)) : Type 0 where
  pub shown : List ℕ
  pub given : HoldersGiven bundle sheet shown
  pub written : after ≡ shown ++ drop (length_of o) before
  pub length_said : length_of o ≡ length shown

abbrev pub holders_rows : List ℕ → List ℕ → List ℕ → List Row
holders_rows bundle sheet before = reader_rows bundle ++ (sheet_row (names_of bundle) sheet ∷ short_row holders_bytes before ∷ [])

abbrev pub HoldersPromise : List ℕ → List ℕ → List ℕ → List ℕ → Result ℕ (Refusal ℕ) → Type 0
HoldersPromise bundle sheet before after o =
    Judged (holders_rows bundle sheet before) (number_of o) (place_of o) (ListRefused before after o) (HoldersLeft bundle sheet before after o)
