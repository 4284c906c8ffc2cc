-- What the contracts of the benchmark's functions cite.
pub mod Given
