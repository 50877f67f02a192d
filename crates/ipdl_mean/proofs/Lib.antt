pub mod Names
pub mod Runs
pub mod Networks
pub mod Held
pub mod Rounds
pub mod Tables
pub mod Solved
