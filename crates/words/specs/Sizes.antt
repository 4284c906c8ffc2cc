-- The sizes of the tables, each named once for definitions, contracts, laws and proofs; Table names them for the code. They are plain numerals, so that arithmetic sees them, and each says how it follows from those before it.
use Rattle.std.specs.Prelude.{ℕ}
use Rattle.bundle.specs.Edition.{most_names}

-- the most entities of a bundle: a word has a bit for each
abbrev pub most_entities : ℕ
most_entities = 32

-- the words that a table keeps for each entity, one for each role name
abbrev pub width : ℕ
width = most_names

-- the words of a table: width for each of most_entities
abbrev pub table_words : ℕ
table_words = 1024

-- the facts that a table can hold, one for each bit: most_entities for each of table_words
abbrev pub fact_count : ℕ
fact_count = 32768

-- the values that a part of a step can have: more than the number of words
abbrev pub step_part : ℕ
step_part = 4096
