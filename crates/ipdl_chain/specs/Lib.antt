pub mod Chains
pub mod Views
pub mod ChainTexts
pub mod Worked
