-- A slip while it is written. Ledger: its lines and the index of its facts. Writing: what is known while it is written, and what one more
-- line, the lines of a record or a round, and the whole slip leave.
pub mod Ledger
pub mod Writing
