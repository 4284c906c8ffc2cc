-- The laws of the lists for the keepers, a file for each idea. Found: whoever is possible has a number among those that are passed, and the
-- orders of persons and of roles. Exists: there is exactly one right list. ReadOff: a list that is read off the tables is right. Promised:
-- from the tables to the promise. Determined: that it leaves nothing open.
pub mod Found
pub mod Exists
pub mod ReadOff
pub mod Promised
pub mod Determined
