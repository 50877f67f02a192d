-- What the sample documents are.
pub mod Samples
