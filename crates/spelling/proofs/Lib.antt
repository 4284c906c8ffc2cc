-- The laws of the line of a credential. Examples: the five that partner houses were given. Lengths: a line has room. Texts: what is written of a
-- record's bytes.
pub mod Examples
pub mod Lengths
pub mod Texts
