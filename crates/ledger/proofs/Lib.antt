-- The laws of a slip while it is written, a file for each idea. Ledgers: a slip with its index. Following: a line follows from its premises.
-- Steps, Stating, Backing: more lines, one more line, and a record's use.
pub mod Ledgers
mod Following
pub mod Steps
pub mod Stating
pub mod Backing
