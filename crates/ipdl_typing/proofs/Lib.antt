-- The lemmas that the proofs of the calls cite.
pub mod First
pub mod Exactly
pub mod Ports
pub mod VisibleLaws
pub mod Index
pub mod PortScopes
pub mod ExpressionChecks
pub mod ReactionChecks
pub mod ProtocolLaws
pub mod ProtocolTyping
pub mod Typed
pub mod SameInterfaces
