-- What the programs of lists say. Listing: a list in lent memory, or a line, and what of it is rightly said. Given: the text of the right list.
pub mod Listing
pub mod Given
