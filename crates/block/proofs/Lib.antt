-- The laws of a block. Totals: the total of the running totals is the weighed sum. Padded: the first bytes, with 0 for those that are missing.
-- Weighed: one more byte of the check. Places: a record place is determined by its two parts.
pub mod Totals
pub mod Padded
pub mod Weighed
pub mod Places
