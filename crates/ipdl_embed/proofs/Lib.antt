-- The lemmas that the proofs of the calls cite.
pub mod PairLaws
pub mod NameSets
pub mod Completions
pub mod SeenPorts
pub mod Captures
pub mod Followed
