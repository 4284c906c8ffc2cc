-- The laws of the writer. The crates above cite Lasting (what stands in the buffer after a write or an append, and after any number of
-- appends), Refused (each refusal exactly when it is due), Places (how far a place can be) and Determined (any two answers are equal). Tables and Kept hold the tables of
-- refusals and what they promise; Bytes, Heads and Filling serve the functions' own proofs.
pub mod Bytes
pub mod Heads
pub mod Tables
pub mod Filling
pub mod Kept
pub mod Refused
pub mod Places
pub mod Determined
pub mod Lasting
