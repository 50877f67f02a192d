pub mod ReadPlaces
pub mod Instances
pub mod Room
pub mod Matching
pub mod RightSides
pub mod Answers
pub mod Worked
pub mod Refutations
