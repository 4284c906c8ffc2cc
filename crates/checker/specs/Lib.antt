-- The checker, defined: its table of refusals, and what an answer comes to. The theorems about these definitions stand in proofs/.
-- Rows: the table. Shown: when a slip is accepted, in RT0's own words. Premise: the test of a premise, and so of a line. Checking: the
-- answer as tests that compute. Claim: what the code's own values mean.
pub mod Premise
pub mod Claim
pub mod Rows
pub mod Checking
pub mod Shown
