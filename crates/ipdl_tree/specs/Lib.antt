-- The definitions of this crate, in the order in which they stand on one another.
pub mod Trees
pub mod Spelling
pub mod Causes
pub mod Views
pub mod WellFormed
pub mod Faults
pub mod Characters
pub mod Reading
pub mod Refusals
pub mod Openings
pub mod ReaderViews
