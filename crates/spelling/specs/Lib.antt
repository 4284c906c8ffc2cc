-- A credential as a line of text. Line: the one definition of the line, and when a line is right.
pub mod Line
