pub mod Lists
pub mod Counts
pub mod Outcomes
pub mod Weights
pub mod ReactionFaults
pub mod PathForms
pub mod Operands
pub mod ProtocolReading
