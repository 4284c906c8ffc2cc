-- The laws that the desk's programs cite, and one of their refusals. Given: an answer by a table is what may be printed. Refused: the line of a refusal is no bundle.
pub mod Given
pub mod Refused
