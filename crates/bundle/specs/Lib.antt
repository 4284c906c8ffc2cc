-- The bundle, defined: what its bytes say and which are refused. The theorems about these definitions stand in proofs/.
-- Edition: which edition a bundle has, and the most role names. Layout: block 0, what stands beside the records of a record block, and which blocks and records are wrong. Each: a place that says by its
-- bits where a test holds. Rows: the table of refusals, and what an answer of the reader comes to. Reading: the same answer as tests that
-- compute. Access: marks and records by number. Held: the credentials of a bundle and its open roles. Question: what is asked, and when that
-- is out of range.
pub mod Edition
pub mod Layout
pub mod Each
pub mod Rows
pub mod Reading
pub mod Access
pub mod Held
pub mod Question
