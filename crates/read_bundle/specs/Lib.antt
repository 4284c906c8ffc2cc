-- What the contracts of the program cite. Prints: what it prints for an input. Longer: the law of an input that is longer than any bundle.
pub mod Prints
pub mod Longer
