-- The laws that the program's functions cite.
pub mod Prints
