-- The laws of the reader of one line. Numbers: the number at a place. Unique: the candidate of a line is its record. Records: two records with
-- the same line are equal, and a right line has exactly one. Words, Found: what is found in a line, word by word and number by number.
-- Room: there is room for the line of a candidate. Compared: what comparing a line with its candidate's tells.
pub mod Numbers
pub mod Unique
pub mod Records
pub mod Words
pub mod Found
pub mod Room
pub mod Compared
