-- A sheet: one block of 512 bytes that says the code of each of R names. When it is right, and the row of refusal 15.
use Rattle.std.specs.Prelude.{ℕ, zero, suc, ◌≤◌, ◌≡◌, List, length}
use Rattle.rt0.specs.Credential.{IsName}
use Rattle.base.specs.Byte.{byte_at}
use Rattle.base.specs.Refusals.{Row, row, AtZero}
use Rattle.block.specs.Block.{check_of, stored_check}

-- byte i − 1 is the code of name i; 0 is no name, and has no code
abbrev pub code_of : List ℕ → ℕ → ℕ
code_of sheet zero = 0
code_of sheet (suc i) = byte_at sheet i

-- the codes are 1 to 6
abbrev pub IsCode : ℕ → Type 0
IsCode code = (1 ≤ code) × (code ≤ 6)

pub record RightSheet (R : ℕ) (sheet : List ℕ) : Type 0 where
  pub size : length sheet ≡ 512
  -- the check that its bytes have is the one that stands in it
  pub check : check_of sheet ≡ stored_check sheet
  -- every name has a code
  pub codes : (r : ℕ) → IsName R r → IsCode (code_of sheet r)
  -- bytes R to 507 are zero
  pub zeros : (i : ℕ) → R ≤ i → i ≤ 507 → byte_at sheet i ≡ 0
  pub number : byte_at sheet 508 ≡ 100
  pub names : byte_at sheet 509 ≡ R

-- refusal 15: the sheet is not right over R names
abbrev pub sheet_row : ℕ → List ℕ → Row
sheet_row R sheet = row 15 (AtZero (RightSheet R sheet → ⊥))
