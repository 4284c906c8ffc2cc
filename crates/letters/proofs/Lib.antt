-- The laws of letters. Cut: the lines of a text. Coming: what the iterators give. Texts: texts of credentials. Reading, Writing: a text and a list of records judged
-- stage by stage. Filling: what is stored, step by step. Clear: what it comes to that no row applies. Kept: from these to what is promised.
-- Refused: each refusal exactly when it is due. Determined: any two answers are equal. Listed: records of credentials. Back: reading what was written,
-- and writing what was read. Empty: no text and no records. Places: how far a place and a length can be.
pub mod Cut
pub mod Coming
pub mod Texts
pub mod Reading
pub mod Filling
pub mod Writing
pub mod Clear
pub mod Kept
pub mod Refused
pub mod Determined
pub mod Listed
pub mod Back
pub mod Empty
pub mod Places
