pub mod Binders
pub mod Counts
pub mod Lists
pub mod Outcomes
