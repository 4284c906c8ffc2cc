-- What is asked on standard input, and what may be printed. Behind: a bundle behind the bytes of a question, for every program that asks.
-- Input: the bytes of a question of `ask`. Prints: its table of refusals, and its line.
pub mod Behind
pub mod Input
pub mod Prints
