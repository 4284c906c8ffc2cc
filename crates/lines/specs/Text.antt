-- A list as text: `4 SURE` or `6 MAYBE` for each person, `1 6 SURE` for each role, each with a newline, and last `END s m` with the numbers of
-- SURE and of MAYBE lines. Numbers are in decimal.
use Rattle.std.specs.Prelude.{ℕ, List, [], ◌∷◌, ◌++◌}
use Rattle.rt0.specs.Credential.{Role, ◌·◌}
use Rattle.text.specs.Ascii.{ascii, space, newline}
use Rattle.text.specs.Decimal.{decimal}
use Rattle.lines.specs.Right.{Mark, SURE, MAYBE, Line, count}

abbrev pub person_text : ℕ → List ℕ
person_text D = decimal D

abbrev pub role_text : Role → List ℕ
role_text (A · r) = decimal A ++ space ++ decimal r

-- what stands behind a line's key
abbrev pub mark_text : Mark → List ℕ
mark_text SURE = ascii " SURE\n"
mark_text MAYBE = ascii " MAYBE\n"

-- the lines, with keys written in some way
unfoldable pub lines_text : {K : Type 0} → (K → List ℕ) → List (Line K) → List ℕ
lines_text key_text [] = []
lines_text key_text (l ∷ ls) = key_text l.key ++ mark_text l.mark ++ lines_text key_text ls

abbrev pub end_text : ℕ → ℕ → List ℕ
end_text sure maybe = ascii "END " ++ decimal sure ++ space ++ decimal maybe ++ newline

unfoldable pub list_text : {K : Type 0} → (K → List ℕ) → List (Line K) → List ℕ
list_text key_text ls = lines_text key_text ls ++ end_text (count SURE ls) (count MAYBE ls)
