pub mod Lemmas
pub mod Uses
pub mod Usable
pub mod Adding
pub mod Meanings
pub mod Views
pub mod Answering
