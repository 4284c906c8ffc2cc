-- The only record that a line can be the line of: its numbers, each looked for where it stands if the line is right, and the form that the
-- bytes behind them show. Nothing is asked of the bytes between them, as whoever takes the record compares its line with the one read.
use Rattle.std.specs.Prelude.{ℕ, ◌+◌, ◌*◌, ◌%◌, Bool, true, false, cond, ◌&&◌, List, [], ◌∷◌, eqb, leb, drop}
use Rattle.base.specs.Byte.{byte_at}
use Rattle.spelling.specs.Line.{arrow, ampersand}

-- bytes begin with a word
unfoldable pub begins : List ℕ → List ℕ → Bool
begins [] bytes = true
begins (letter ∷ word) [] = false
begins (letter ∷ word) (b ∷ bytes) = eqb b letter && begins word bytes

-- a word stands at a place of a line
abbrev pub word_at : List ℕ → ℕ → List ℕ → Bool
word_at line at word = begins word (drop at line)

abbrev pub digit : ℕ → Bool
digit b = leb 48 b && leb b 57

-- the number at a place has a second digit
unfoldable pub two_digits : List ℕ → ℕ → Bool
two_digits line at = digit (byte_at line (at + 1))

-- the number of one digit or two at a place, and the place behind it
unfoldable pub number_at : List ℕ → ℕ → ℕ
number_at line at = cond (two_digits line at) (10 * (byte_at line at % 16) + byte_at line (at + 1) % 16) (byte_at line at % 16)

unfoldable pub behind : List ℕ → ℕ → ℕ
behind line at = cond (two_digits line at) (at + 2) (at + 1)

-- the intersection with head A.r and first part B.s, behind which it goes on at a place
unfoldable pub parts_from : List ℕ → ℕ → ℕ → ℕ → ℕ → ℕ → List ℕ
parts_from line A r B s at =
    let second = at + 4 in
    let name = behind line second + 2 in
    let end = behind line name in
    let third = end + 4 in
    let last = behind line third + 2 in
    cond (word_at line end ampersand)
    (4 ∷ A ∷ r ∷ 3 ∷ B ∷ s ∷ number_at line second ∷ number_at line name ∷ number_at line third ∷ number_at line last ∷ 0 ∷ 0 ∷ [])
    (4 ∷ A ∷ r ∷ 2 ∷ B ∷ s ∷ number_at line second ∷ number_at line name ∷ 0 ∷ 0 ∷ 0 ∷ 0 ∷ [])

-- the record with head A.r whose body has its first number at a place
unfoldable pub body_from : List ℕ → ℕ → ℕ → ℕ → List ℕ
body_from line A r at =
    let B = number_at line at in
    let dot = behind line at in
    let s = number_at line (dot + 2) in
    let end = behind line (dot + 2) in
    cond (eqb (byte_at line dot) 10) (1 ∷ A ∷ r ∷ B ∷ 0 ∷ 0 ∷ 0 ∷ 0 ∷ 0 ∷ 0 ∷ 0 ∷ 0 ∷ [])
    (cond (eqb (byte_at line end) 10) (2 ∷ A ∷ r ∷ B ∷ s ∷ 0 ∷ 0 ∷ 0 ∷ 0 ∷ 0 ∷ 0 ∷ 0 ∷ [])
    (cond (word_at line end ampersand) (parts_from line A r B s end)
    (3 ∷ A ∷ r ∷ s ∷ number_at line (end + 2) ∷ 0 ∷ 0 ∷ 0 ∷ 0 ∷ 0 ∷ 0 ∷ 0 ∷ [])))

-- of a line without an arrow behind its first role: no record
abbrev pub no_record : List ℕ
no_record = 0 ∷ 0 ∷ 0 ∷ 0 ∷ 0 ∷ 0 ∷ 0 ∷ 0 ∷ 0 ∷ 0 ∷ 0 ∷ 0 ∷ []

unfoldable pub candidate_of : List ℕ → List ℕ
candidate_of line =
    let name = behind line 1 + 2 in
    let end = behind line name in
    cond (word_at line end arrow) (body_from line (number_at line 1) (number_at line name) (end + 5)) no_record
