-- What the promises come to. Refused: the search refuses exactly when a row of the table says so. Answered: the three words exactly as RT0
-- has them, and the slip that comes with YES; Sheeted: the three words with a sheet; Words is what both cite. Lasting: a slip that was
-- accepted stays so when records are appended; LastingOnce: when one is. Traced: where all records are structurally well typed, what leaving out those that issuers
-- need not trace does not change.
pub mod Refused
pub mod Words
pub mod Answered
pub mod Sheeted
pub mod Lasting
pub mod LastingOnce
pub mod Traced
