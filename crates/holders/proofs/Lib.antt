-- The laws of the program besides those of `asked` and `listed`. Prints: which text an input has, and that it has only one.
pub mod Prints
