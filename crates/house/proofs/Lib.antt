-- The results on the small house. Computed: what one computed equation over a list says of each item. Passes: the reader worked out in one
-- pass over each block. Cases: P1 to P12, and the case of a sheet, are right. Slips: so are the checker's answers to the slip for P1 and its variants.
pub mod Computed
pub mod Passes
pub mod Cases
pub mod Slips
