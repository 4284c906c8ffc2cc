-- The laws of lists and of their text, a file for each idea.
-- Right lists. Once: two right lists are equal. Numbering: a list worked out key by key is right.
-- Text. Growing: lines written one behind the other. Fits: no text needs more bytes than are asked for. Passes: one pass over the tables.
pub mod Once
pub mod Numbering
pub mod Growing
pub mod Fits
pub mod Passes
