pub mod Tidied
pub mod AtOnce
pub mod Room
pub mod Counted
pub mod Shaped
pub mod Repeated
pub mod Gathered
pub mod Worked
