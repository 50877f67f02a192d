-- The definitions of this crate.
pub mod Faults
pub mod Lists
pub mod Operators
pub mod Scopes
pub mod Counts
pub mod Expressions
pub mod Widths
pub mod Reactions
pub mod Protocols
pub mod Documents
pub mod Steps
pub mod Items
pub mod Lookups
pub mod Networks
pub mod Earlier
pub mod Limits
