-- What the tables promise. Promise: the answer and every word of both tables, for every bundle and all lent words. The others stand between
-- the promise and the functions. Open: which roles are open, as one value. Rest: where the rounds lead.
pub mod Open
pub mod Rest
pub mod Promise
