-- The lemmas that are the laws.
pub mod Instances
pub mod Composed
pub mod Carried
pub mod WithinLaws
