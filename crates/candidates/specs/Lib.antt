-- The reader of one line. Candidate: the only record that a line can be the line of. Tells: what the tests of a line tell.
pub mod Candidate
pub mod Tells
