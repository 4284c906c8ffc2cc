-- The laws that the functions of the C interface cite, and what their results unpack to. Unpacking: the search, the tables and the check.
-- Written: the writer and letters. Holders: who must hold a record.
pub mod Unpacking
pub mod Written
pub mod Holders
