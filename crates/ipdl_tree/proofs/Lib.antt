-- The lemmas of this crate.
-- Words about characters and names.
mod Beginnings
mod Characters
mod Names
mod Openings
mod Starts
-- The code against reading on lists.
mod LoopSteps
mod ReaderSteps
mod SourceSteps
mod TextSteps
mod TokenNames
mod TokenRanges
mod Writing
-- Reading on lists against the refusals and the spelling.
mod Completing
mod GoingOn
mod Passing
mod PassingTokens
mod PassingTrees
mod ReadBack
mod Rest
mod Sound
mod Soundness
pub mod Sources
-- The contracts of the public calls.
mod Outcomes
