-- The laws of a sheet. Told: the tests tell whether a sheet is right. Codes: what each of the six codes stands for.
pub mod Told
pub mod Codes
