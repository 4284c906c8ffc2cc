-- RT0, defined: what a reader has to believe. The theorems about these definitions stand in proofs/.
-- Credential: the four forms. Membership: the least assignment closed under all credentials. Table: what n rounds give.
-- Completion: shelves, completions and the three words. Book: credentials by number. Holding: what a question is asked of.
-- Slip: what makes a slip right. Bytes: a slip as bytes. Word: tables as words, one bit for each member. Sizes: the paper's bounds. House: the small house.
pub mod Credential
pub mod Membership
pub mod Table
pub mod Completion
pub mod Book
pub mod Holding
pub mod Slip
pub mod Bytes
pub mod Word
pub mod Sizes
pub mod House
