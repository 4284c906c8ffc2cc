-- What the contracts of the program cite. Input: the bytes of its question. Prints: its table of refusals, and its line.
-- Longer: the law of an input that is longer than any question.
pub mod Input
pub mod Prints
pub mod Longer
