-- What the search promises. Promise: what the answer is, and what stands in lent memory, for every bundle, question and memory.
-- Written: the slip that comes with YES. Enough: memory with which 8 is never due. Agreement: what any two answers agree in. Concluded, between
-- the promise and the functions: a right question, and its word.
pub mod Written
pub mod Promise
pub mod Enough
pub mod Concluded
pub mod Agreement
