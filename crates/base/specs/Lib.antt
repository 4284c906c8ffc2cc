-- What serves every crate above. Byte: a byte that a list may not have. Range: a number not among 1 to most. Lowest: the lowest number
-- at which a test holds. Refusals: a table of refusals as a list of rows in the order in which they go first. Cause: the number of each cause.
-- Refused: what an answer comes to that may be a refusal.
pub mod Byte
pub mod Range
pub mod Lowest
pub mod Refusals
pub mod Cause
pub mod Refused
