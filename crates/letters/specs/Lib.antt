-- Letters of credentials. Lines: the text of credentials, and the lines of any text. Rows: the tables of refusals of reading and writing.
-- Promise: the answer, and every byte of the buffer.
pub mod Lines
pub mod Rows
pub mod Promise
