-- What the contracts of the desk's programs cite. Answer: an answer of the writer or of letters as that of a list, and what it comes to by a
-- table of refusals.
pub mod Answer
