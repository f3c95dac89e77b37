pub mod SealedLine
pub mod Checks
pub mod Steps
pub mod Makes
