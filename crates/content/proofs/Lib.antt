-- The laws of a content and its bytes. The crates above cite Whole (reading back and one encoding), Appending (one record put last) and
-- Written (a buffer with a content's bytes at its front). Tabulated, Sealed, Marks, First and RecordBlock hold what Whole needs; Part, Listed
-- and Stores what the writer's functions leave. House: the checks of the small house.
pub mod Tabulated
pub mod Sealed
pub mod Marks
pub mod First
pub mod RecordBlock
pub mod Whole
pub mod Part
pub mod Written
pub mod Appending
pub mod Listed
pub mod Stores
pub mod House
