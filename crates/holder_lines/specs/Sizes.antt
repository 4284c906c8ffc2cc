-- How many bytes the text of all records can need, from the most records and the longest line; Room names the same for the code. That every
-- text fits is in proofs/Fits.antt.
use Rattle.std.specs.Prelude.{ℕ, ◌+◌, ◌*◌}
use Rattle.words.specs.Sizes.{most_entities}
use Rattle.lines.specs.Sizes.{end_line}

-- the most records of a bundle
abbrev pub most_records : ℕ
most_records = 240

-- a record's number, ` WELL`, a space and a number for each shelf, and a newline
abbrev pub record_line : ℕ
record_line = 3 + 5 + 3 * most_entities + 1

-- a line for each record, and the last one
abbrev pub holders_bytes : ℕ
holders_bytes = most_records * record_line + end_line
