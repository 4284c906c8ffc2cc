-- The laws of the program besides those of `asked` and `said`. Answered: what the search answers is what may be printed.
pub mod Answered
