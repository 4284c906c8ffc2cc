-- The laws of the text of all records. Passes: how it is written, shelf by shelf and line by line. Fits: it never needs more bytes than are
-- asked for. Promised: the answer by the table of refusals, and that there is one.
pub mod Passes
pub mod Fits
pub mod Promised
