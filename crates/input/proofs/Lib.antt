-- The laws that the functions of this crate and the programs cite. Pieces: bytes that come in pieces, one behind the other.
-- Answers: what a read answers, and what is said by it.
pub mod Answers
pub mod Pieces
