pub mod Buffers
pub mod FaultLaws
