-- The laws of what serves every crate. Flags: what a test tells where it is true or false. Lowest: what the lowest such number is, and how
-- a loop that goes upwards finds it. Ranges: how a chain over a range finds it. Refusals: what is due is unique, due exactly if some row
-- applies, and found by tests; one table behind another. Judging: an answer by a table with rows in front, or by one whose rows apply at
-- another place. Parts: a part of a list.
pub mod Flags
pub mod Lowest
pub mod Ranges
pub mod Refusals
pub mod Judging
pub mod Parts
pub mod Refused
