-- How many bytes the text of a list can need, from the most entities, the words of a table and the longest line; Room names the same for the
-- code. That every text fits is in proofs/Fits.antt.
use Rattle.std.specs.Prelude.{ℕ, ◌+◌, ◌*◌}
use Rattle.words.specs.Sizes.{most_entities, table_words}

-- the digits of the greatest entity or role name
abbrev pub number_digits : ℕ
number_digits = 2

-- the digits of the greatest number of 16 bits, in which the lines are counted
abbrev pub count_digits : ℕ
count_digits = 5

-- the bytes of ` MAYBE` and a newline
abbrev pub mark_bytes : ℕ
mark_bytes = 7

-- a number, the mark
abbrev pub member_line : ℕ
member_line = number_digits + mark_bytes

-- two numbers with a space between them, the mark
abbrev pub role_line : ℕ
role_line = number_digits + 1 + number_digits + mark_bytes

-- `END`, two counts with a space before each, a newline
abbrev pub end_line : ℕ
end_line = 4 + count_digits + 1 + count_digits + 1

-- a line for each entity, and the last one
abbrev pub members_bytes : ℕ
members_bytes = most_entities * member_line + end_line

-- a line for each word of a table, and the last one
abbrev pub roles_bytes : ℕ
roles_bytes = table_words * role_line + end_line
