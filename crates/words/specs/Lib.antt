-- What the words of a table are and what a record gives from them. Sizes: the sizes of tables and slips. Give: the words of a table, and what
-- one use of a record gives, at every input. Step: a record as the rounds use it, one number.
pub mod Sizes
pub mod Give
pub mod Step
