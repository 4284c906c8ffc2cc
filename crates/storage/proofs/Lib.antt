-- The laws of what is said of records. Codes: the flags of a code are those of its type. Bits: the word of those who must store a credential
-- has exactly their bits. Said: what the functions compute is what the definitions say. Refusals: the answer by the table, and its
-- equality with any other that keeps the promise.
pub mod Codes
pub mod Bits
pub mod Said
pub mod Refusals
