pub mod Closed
pub mod Refusals
pub mod Answers
pub mod Readings
pub mod Running
pub mod Views
pub mod Worked
