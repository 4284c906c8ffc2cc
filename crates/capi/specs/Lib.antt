-- What the contracts of the C interface cite. Packed: the results of the search and of the check. Written: those of the writer. Holders: that
-- of who must hold a record.
pub mod Packed
pub mod Written
pub mod Holders
