-- A slip as bytes: eight for each line, the member, the credential's number and three premises of two bytes, low byte first.
use Rattle.std.specs.Prelude.{ℕ, zero, suc, ◌+◌, ◌*◌, ◌/◌, ◌%◌, List, [], ◌∷◌, ◌++◌, get_or}
use Rattle.rt0.specs.Slip.{Line, line}

-- the number that two bytes stand for, low byte first
abbrev pub number : List ℕ → ℕ → ℕ
number bytes i = get_or bytes i 0 + 256 * get_or bytes (i + 1) 0

-- the line that starts at a byte
abbrev pub line_from : List ℕ → ℕ → Line
line_from bytes i =
    line (get_or bytes i 0) (get_or bytes (i + 1) 0) (number bytes (i + 2)) (number bytes (i + 4)) (number bytes (i + 6))

-- the first n lines
unfoldable pub lines_of : List ℕ → ℕ → List Line
lines_of bytes zero = []
lines_of bytes (suc n) = lines_of bytes n ++ (line_from bytes (8 * n) ∷ [])

-- the bytes of a line
abbrev pub bytes_of_line : Line → List ℕ
bytes_of_line (line D c p q s) = D ∷ c ∷ p % 256 ∷ p / 256 ∷ q % 256 ∷ q / 256 ∷ s % 256 ∷ s / 256 ∷ []

-- the bytes of a list of lines
unfoldable pub bytes_of : List Line → List ℕ
bytes_of [] = []
bytes_of (l ∷ ls) = bytes_of_line l ++ bytes_of ls
