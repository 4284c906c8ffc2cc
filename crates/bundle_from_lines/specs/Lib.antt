-- What the contracts of the program cite. Input: the bytes that it reads. Prints: its table of refusals, and the bundle.
pub mod Input
pub mod Prints
