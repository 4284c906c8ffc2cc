-- The laws that the functions of the tables cite, a file for each idea.
-- Comparing: two lists compared. Held: what an accepted bundle holds.
-- Tables. Starts: the table that the rounds start from. Opened: which roles are open. Rounds: one round, step after step. Settling: rounds
-- until nothing changes.
-- The promise. Promised: from the tables at rest to the promise. Told: what the promise tells by the answer. Determined: that it leaves
-- nothing open.
pub mod Comparing
pub mod Held
pub mod Starts
pub mod Opened
pub mod Rounds
pub mod Settling
pub mod Promised
pub mod Told
pub mod Determined
