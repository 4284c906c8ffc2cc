-- The laws of the program. Gathered: the records of an accepted bundle are those of its credentials. Prints: which output an input has, and that
-- it has only one.
pub mod Gathered
pub mod Prints
