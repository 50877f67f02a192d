-- The statements on uses of protocols.
pub mod Sites
