-- The statements of the type checker.
pub mod Checks
pub mod Signatures
pub mod Answers
pub mod Places
pub mod BinderWidths
pub mod Interfaces
pub mod Visible
