-- The laws of the program besides those of `asked` and `said`. Prints: which line an input has, and that it has only one. Answered: what the
-- search with a sheet answers is what may be printed.
pub mod Prints
pub mod Answered
