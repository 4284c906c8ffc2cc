-- The small house on real bytes: what the paper says of it. Bundles: the bytes of its bundles, built from the paper's record lines.
-- Cases: RT0's list of cases, each with its bundle, and when that is right. Slips: the paper's slip for P1 and the three ways in which it breaks.
pub mod Bundles
pub mod Cases
pub mod Slips
