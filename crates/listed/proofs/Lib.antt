-- The laws that the programs of lists cite. Given: what the lists promise is what may be printed, and there is one such text. Saying: how what
-- is said of each kind of input is rightly said.
pub mod Given
pub mod Saying
