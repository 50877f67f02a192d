pub mod Blanks
pub mod Forms
pub mod PlainNames
pub mod PrintedDepth
pub mod PrintedOffsets
pub mod Words
