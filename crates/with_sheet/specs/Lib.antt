-- The search and the tables with a sheet, defined. Open: the roles that a sheet leaves open. Promise: the tables of refusals with the sheet's
-- row, and what is promised.
pub mod Open
pub mod Promise
