-- The lemmas that the proofs of the calls cite.
pub mod Pieces
