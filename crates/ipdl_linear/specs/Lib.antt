pub mod Entries
pub mod FormValues
pub mod Likeness
pub mod LinearForms
pub mod Numbers
pub mod Operations
pub mod Weights
pub mod Worked
