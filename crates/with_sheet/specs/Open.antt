-- The open roles of a bundle with a sheet. A present shelf completes the roles of its issuer only where issuers keep what defines them: a role
-- A.r is open if A is absent, or if its name has code 1 or 2, so that no issuer keeps it, and any shelf at all is absent.
use Rattle.std.specs.Prelude.{ℕ, suc, Bool, ◌||◌, List, eqb}
use Rattle.rt0.specs.Completion.{Open, open_with}
use Rattle.rt0.specs.Word.{bits_below}
use Rattle.bundle.specs.Layout.{entities_of}
use Rattle.bundle.specs.Held.{shelves}
use Rattle.sheet.specs.Sheet.{code_of}

-- the name has code 1 or 2
abbrev pub loose : List ℕ → ℕ → Bool
loose sheet r = eqb (code_of sheet r) 1 || eqb (code_of sheet r) 2

abbrev pub open_by_sheet : List ℕ → List ℕ → Open
open_by_sheet sheet bytes = open_with (loose sheet) (shelves bytes) (entities_of bytes)

-- the word of the names with code 1 or 2: r at bit r − 1
unfoldable pub loose_word : List ℕ → ℕ → ℕ
loose_word sheet n = bits_below (λ i. loose sheet (suc i)) n
