pub mod Earlier
pub mod Parts
pub mod Rules
pub mod Uses
