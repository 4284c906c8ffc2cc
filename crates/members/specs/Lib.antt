-- What the contracts of the program cite. Input: the bytes of its question. Prints: its table of refusals, and the text of the list.
pub mod Input
pub mod Prints
