-- The theorems of RT0, a file for each idea. Those that answer a demand of the paper:
-- Least: membership is closed, and least. Tables: it is what the tables hold at the number of rounds, which is unique.
-- Possible: what completions can add, and the three words. Settle: the number of rounds exists and is bounded, and one word answers.
-- Slips: sound, lasting, complete and short. SlipBytes: a slip is read back from its bytes. Books: the book of a list.
-- Bounds: the paper's numbers.
-- House: the cases P1 to P10. Shown and Grown tie the words of Word to tables and to possible members; Decide computes the answer.
-- The others (Items, Lists, Heads, Says, Bits, BitsBelow, Words, Count, Rounding, Tests) hold what these need.
pub mod Least
pub mod Tables
pub mod Possible
pub mod Items
pub mod Lists
pub mod Heads
pub mod Says
pub mod Slips
pub mod SlipBytes
pub mod Books
pub mod Bits
pub mod BitsBelow
pub mod Words
pub mod Shown
pub mod Count
pub mod Rounding
pub mod Grown
pub mod Settle
pub mod Bounds
pub mod Tests
pub mod Decide
pub mod House
