-- The laws of lines, a file for each idea. Facts: facts by number. Premises: the premises that are found are those that a line needs.
-- LineBytes: the bytes of a line.
pub mod Facts
pub mod Premises
pub mod LineBytes
