-- The lists for the keepers, and what the functions promise. Asked: the two lists, of a role's members and of a person's roles, from RT0.
-- Promise: the answers and every lent byte. Shown: what the tables of a bundle show, between the promise and the functions.
pub mod Asked
pub mod Promise
pub mod Shown
