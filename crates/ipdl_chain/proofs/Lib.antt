pub mod Counts
pub mod Links
pub mod Lines
pub mod Turns
pub mod Views
