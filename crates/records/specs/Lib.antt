-- A record of twelve bytes, defined. Kinds: which bytes are entities, role names, the number of parts or zero, and when a byte is wrong.
-- Mistake: what is wrong with a record, as a table of refusals. Form: the record by its form, and the credential of RT0 that it is.
-- Bytes: the twelve bytes of a credential.
pub mod Kinds
pub mod Mistake
pub mod Form
pub mod Bytes
