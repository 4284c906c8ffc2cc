-- The laws of the program. Records: the records of valid credentials are right. Made: how the bundle of a text comes about. Split: the right
-- lines at the front of a text. Onward: a text that is longer than any right one. Prints: which output an input has, and that it has only one.
pub mod Records
pub mod Made
pub mod Split
pub mod Onward
pub mod Prints
