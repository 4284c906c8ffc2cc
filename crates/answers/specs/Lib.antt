-- What the service answers. Answer: the paper's number, place, verdict, rounds and lines for each case of an answer.
-- Line: the lines of the programs, and the text that holds one. Pack: an outcome as one number.
pub mod Answer
pub mod Line
pub mod Pack
