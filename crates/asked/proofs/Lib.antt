-- The laws that the programs cite that ask, and those of `ask`. Input: the part of the input behind the question is the bundle, and a part
-- between. Answered: which line an answer has, by any table, and that it is one. Prints: which line an input has, and that it has only one.
pub mod Input
pub mod Answered
pub mod Prints
