-- What the contracts of the program cite. Input: the sheet and the bundle of its input. Prints: its table of refusals, and the text.
pub mod Input
pub mod Prints
