pub mod BitsNumbers
pub mod BitsOperations
pub mod BitsRanges
pub mod BitsEquality
pub mod BitsRows
pub mod NameLemmas
