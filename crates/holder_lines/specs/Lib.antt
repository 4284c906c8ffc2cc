-- What is said of every record, as text. Text: the lines and the last line. Sizes: how many bytes a text can need. Promise: the table of
-- refusals, and what an answer and the lent bytes come to. Passing: a text in the making.
pub mod Sizes
pub mod Text
pub mod Promise
pub mod Passing
