-- The theorems about the checker. Accepts: a slip is accepted exactly when it shows what is asked; what is accepted is a membership, every
-- membership has a slip that is accepted, and what is accepted lasts. Refusals: what the tests give is what the table says; any two
-- answers are equal. Rules: the tests are RT0's rules. Answers and Lookups serve the functions' own proofs.
pub mod Lookups
pub mod Answers
pub mod Rules
pub mod Refusals
pub mod Accepts
