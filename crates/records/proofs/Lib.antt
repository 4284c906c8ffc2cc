-- The laws of a record. Ways: a byte that is wrong in one of the five ways, as the code finds it. Mistakes: the mistake of a record is the
-- one that is due, and there is only one. ValidRecord: a record without a mistake is a valid credential, and the record of it.
-- Heads: the head of a record. Encoded: the twelve bytes of a valid credential have no mistake, and are that credential again.
pub mod Ways
pub mod Mistakes
pub mod ValidRecord
pub mod Heads
pub mod Encoded
