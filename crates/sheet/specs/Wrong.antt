-- A sheet that is not right, as tests that compute: its length, its check, and each byte before the check.
use Rattle.std.specs.Prelude.{ℕ, Bool, not, ◌&&◌, ◌||◌, List, length, eqb, ltb, leb}
use Rattle.base.specs.Byte.{byte_at}
use Rattle.base.specs.Range.{outside}
use Rattle.base.specs.Lowest.{any_below}
use Rattle.block.specs.Block.{check_wrong}

-- byte i of a sheet of R names is wrong: below R it is a code, from there to 507 zero, at 508 it is 100 and at 509 R
abbrev pub sheet_byte_wrong : ℕ → ℕ → ℕ → Bool
sheet_byte_wrong R i b =
    ltb i R && outside 6 b
    || (leb R i && ltb i 508) && not (eqb b 0)
    || eqb i 508 && not (eqb b 100)
    || eqb i 509 && not (eqb b R)

abbrev pub wrong_at : ℕ → List ℕ → ℕ → Bool
wrong_at R sheet i = sheet_byte_wrong R i (byte_at sheet i)

unfoldable pub layout_wrong : ℕ → List ℕ → Bool
layout_wrong R sheet = any_below (wrong_at R sheet) 510

abbrev pub sheet_wrong : ℕ → List ℕ → Bool
sheet_wrong R sheet = not (eqb (length sheet) 512) || check_wrong sheet || layout_wrong R sheet
