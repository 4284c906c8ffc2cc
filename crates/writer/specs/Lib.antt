-- What the writer promises. Rows: its tables of refusals, one for each call. Promise: the answer, and every byte of the buffer.
-- Appended: any number of appends.
pub mod Rows
pub mod Promise
pub mod Appended
