pub mod Lookups
pub mod Lines
pub mod Running
pub mod Shapes
pub mod Views
pub mod Worked
