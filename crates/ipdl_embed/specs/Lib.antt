-- The statements on renamings.
pub mod Pairs
pub mod Completing
pub mod Captures
pub mod Fitting
pub mod Following
pub mod Instances
pub mod Tables
pub mod Worked
