-- What the contracts of the program cite. Gathered: the records of a bundle one behind the other. Prints: what the program prints.
pub mod Gathered
pub mod Prints
