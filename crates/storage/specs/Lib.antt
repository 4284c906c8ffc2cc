-- What is said of a bundle's records by a sheet, defined. Shelves: a word of the shelves that must hold a credential. Promise: the table of
-- refusals, and what an answer comes to. Stored: the same answer as functions that compute.
pub mod Shelves
pub mod Promise
pub mod Stored
