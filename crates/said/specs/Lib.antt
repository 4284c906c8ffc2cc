-- What the contracts of the programs cite. Said: what is rightly said of a buffer that standard input was read into. Line: the line of an
-- input by a table of refusals.
pub mod Said
pub mod Line
