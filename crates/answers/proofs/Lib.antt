-- The laws of the definitions of specs/. Text: that what a text shows determines it, and that bytes written into an empty text are what it
-- shows. Packing: the parts of a packed outcome come back. Examples: the lines of some answers, byte by byte.
pub mod Text
pub mod Packing
pub mod Examples
