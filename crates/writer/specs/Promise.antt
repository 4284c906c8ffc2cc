-- What the writer promises at every input: the refusal that is due, and then no byte of the buffer is touched; or the length of the new
-- bundle, whose bytes then stand at the front of the buffer, and the bytes past it are as they were.
use Rattle.std.specs.Prelude.{ℕ, ◌≡◌, List, length, take, Result}
use Rattle.base.specs.declared.refusal.Refusal.{Refusal}
use Rattle.base.specs.Refused.{number_of, place_of}
use Rattle.base.specs.Refusals.{Row, Judged}
use Rattle.content.specs.Content.{Content, content_of, content_from, added}
use Rattle.content.specs.Encode.{size_of, written}
use Rattle.writer.specs.Rows.{length_of, write_rows, append_rows}

-- an answer by a table, and the buffer before and after: refused, it stays; else it has this content at its front
abbrev pub Leaves : List Row → Content → List ℕ → Result ℕ (Refusal ℕ) → List ℕ → Type 0
Leaves rows c before r after =
    Judged rows (number_of r) (place_of r) ((length_of r ≡ 0) × (after ≡ before)) ((length_of r ≡ size_of c) × (after ≡ written c before))

-- a new bundle
abbrev pub Writes : ℕ → ℕ → List ℕ → List ℕ → List ℕ → Result ℕ (Refusal ℕ) → List ℕ → Type 0
Writes E R marks list before r after =
    Leaves (write_rows E R marks list (length before)) (content_from E R marks list) before r after

-- the content of the bundle of this length at the front of a buffer with a record put last
abbrev pub longer : List ℕ → ℕ → List ℕ → Content
longer before n bytes = added (content_of (take n before)) bytes

-- one record more
abbrev pub Appends : List ℕ → ℕ → List ℕ → Result ℕ (Refusal ℕ) → List ℕ → Type 0
Appends before n bytes r after = Leaves (append_rows before n bytes) (longer before n bytes) before r after
