pub mod Views
pub mod Hidden
pub mod Children
pub mod Boundaries
