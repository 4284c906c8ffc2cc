-- The laws of the bundle's definitions. The crates above cite Accepted (what an accepted bundle is), Refusals (what the reader's answer says,
-- and the laws of its table), Places (how large a place is) and Questions (a question within its range). Stages and Parts serve the functions'
-- own proofs, RecordRows and Each the rows of Refusals; Passed and FirstBlock hold what Accepted needs. Determined: any two answers of the
-- reader are equal.
pub mod Parts
pub mod Stages
pub mod RecordRows
pub mod Each
pub mod Refusals
pub mod Passed
pub mod FirstBlock
pub mod Places
pub mod Accepted
pub mod Questions
pub mod Determined
