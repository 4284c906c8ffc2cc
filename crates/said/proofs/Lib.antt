-- The laws that the programs cite. Saying: how what is said of each kind of input is rightly said, and that it is two texts.
-- Line: the line of an input by a table of refusals, and that it is the only one.
pub mod Saying
pub mod Line
