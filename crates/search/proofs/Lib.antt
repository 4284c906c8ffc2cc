-- The laws that the search's functions cite, a file for each idea.
-- The slip. Finishing: the start and the end; what lies between is ledger's.
-- The answer. Concluding: from the tables to the word. Judging: the order of the refusals. Determined: what the promise leaves open, and
-- that it leaves open nothing else.
mod Finishing
mod Concluding
pub mod Judging
pub mod Determined
