-- A sheet of storage types, defined. Sheet: the code of a name, when a sheet is right over R names, and its row of the table of refusals.
-- Types: the type that a code stands for, and so the types by a sheet. Wrong: the same as tests that compute.
pub mod Sheet
pub mod Types
pub mod Wrong
