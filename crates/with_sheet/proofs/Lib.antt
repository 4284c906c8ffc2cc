-- The laws of the tables and the search with a sheet. Within: other roles that are open make no difference unless one of them is a role of
-- the bundle. Loosened: the word of the names with code 1 or 2 opens what the sheet opens. Judging: the sheet's row between the others.
-- Stays: what is the same with and without a sheet. Determined: what is promised determines the answer.
pub mod Within
pub mod Loosened
pub mod Judging
pub mod Stays
pub mod Determined
