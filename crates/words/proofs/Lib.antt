-- The laws of words, a file for each idea. Filling: lists filled and copied. Wider: what is valid stays so over more. Given: what the
-- functions answer is RT0's own where a record is valid. Gained: a word worked out one entity at a time. Stepped: a step gives what its
-- record gives.
pub mod Filling
pub mod Wider
pub mod Given
pub mod Gained
pub mod Stepped
