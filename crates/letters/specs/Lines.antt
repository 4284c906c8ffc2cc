-- A letter: the lines of a list of credentials one behind the other, and its records, twelve bytes each. And the lines that any bytes have:
-- each up to its newline, and what is left behind the last newline, if anything.
use Rattle.std.specs.Prelude.{ℕ, zero, suc, ◌+◌, ◌<◌, ◌≤◌, min, cond, List, [], ◌∷◌, ◌++◌, eqb, get_or, length}
use Rattle.rt0.specs.Credential.{Credential}
use Rattle.records.specs.Bytes.{credential_in, bytes_of}
use Rattle.content.specs.Content.{tabulate, listed, whole_records}
use Rattle.spelling.specs.Line.{line_of, most_bytes}
use Rattle.candidates.specs.Candidate.{candidate_of}

-- the text of credentials; that of none is no text
unfoldable pub text_of : List Credential → List ℕ
text_of [] = []
text_of (c ∷ cs) = line_of c ++ text_of cs

-- their records
unfoldable pub records_of : List Credential → List ℕ
records_of [] = []
records_of (c ∷ cs) = bytes_of c ++ records_of cs

-- the credentials of a list of records
abbrev pub credentials_in : List ℕ → List Credential
credentials_in list = tabulate (λ n. credential_in (listed list n)) (whole_records list)

-- one byte more at the front of the first line
abbrev pub in_front : ℕ → List (List ℕ) → List (List ℕ)
in_front b [] = (b ∷ []) ∷ []
in_front b (line ∷ lines) = (b ∷ line) ∷ lines

-- the lines of a text
unfoldable pub lines_of : List ℕ → List (List ℕ)
lines_of [] = []
lines_of (b ∷ text) = cond (eqb b 10) ((b ∷ []) ∷ lines_of text) (in_front b (lines_of text))

-- how many there are, and the line that has k before it
abbrev pub line_count : List ℕ → ℕ
line_count text = length (lines_of text)

abbrev pub line_at : List ℕ → ℕ → List ℕ
line_at text k = get_or (lines_of text) k []

-- the number of bytes of the first line
unfoldable pub first_length : List ℕ → ℕ
first_length [] = 0
first_length (b ∷ text) = cond (eqb b 10) 1 (suc (first_length text))

-- the candidates of lines, one behind the other
unfoldable pub candidates_of : List (List ℕ) → List ℕ
candidates_of [] = []
candidates_of (line ∷ lines) = candidate_of line ++ candidates_of lines

-- the number of bytes of the lines of the first n records of a list, each as far as it is counted
unfoldable pub counted_bytes : List ℕ → ℕ → ℕ
counted_bytes list zero = 0
counted_bytes list (suc n) = counted_bytes list n + min most_bytes (length (line_of (credential_in (listed list n))))

-- no line of the records of a list is longer than it is counted
abbrev pub ShortLines : List ℕ → Type 0
ShortLines list = (n : ℕ) → n < whole_records list → length (line_of (credential_in (listed list n))) ≤ most_bytes
