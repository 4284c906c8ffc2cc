-- Lists of marked keys, and their text. Right: when a list is right, whatever its keys are. Text: a list as text, of persons and of roles.
-- Sizes: how many bytes a text can need. The others stand between these and the functions. Numbered: a list worked out key by key, and the two
-- lists so from the words of the tables. Passing: a text in the making.
pub mod Right
pub mod Text
pub mod Sizes
pub mod Numbered
pub mod Passing
