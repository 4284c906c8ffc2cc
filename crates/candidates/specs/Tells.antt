-- What the tests of a line tell: whether it is the line of a credential, and whether it is that of its own candidate. That a line is right exactly if
-- it is that of its candidate is a law (proofs/Compared).
use Rattle.std.specs.Prelude.{ℕ, ◌≤◌, ◌≡◌, Bool, true, false, ◌↔◌, List, length}
use Rattle.rt0.specs.Credential.{Credential}
use Rattle.records.specs.Mistake.{record_wrong}
use Rattle.records.specs.Bytes.{credential_in}
use Rattle.spelling.specs.Line.{line_of, most_bytes}
use Rattle.candidates.specs.Candidate.{candidate_of}

-- a line is that of its candidate, which has no mistake over E and R
abbrev pub OwnLine : ℕ → ℕ → List ℕ → Type 0
OwnLine E R line = (record_wrong E R (candidate_of line) ≡ false) × (line ≡ line_of (credential_in (candidate_of line)))

-- a test tells whether it is
abbrev pub TellsRight : ℕ → ℕ → List ℕ → Bool → Type 0
TellsRight E R line b = (b ≡ true) ↔ OwnLine E R line

-- a test tells whether a line is that of a credential, where this has not more bytes than there is room for
abbrev pub TellsLine : List ℕ → Credential → Bool → Type 0
TellsLine line c b = length (line_of c) ≤ most_bytes → (b ≡ true) ↔ (line ≡ line_of c)
