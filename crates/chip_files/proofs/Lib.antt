pub mod Lengths
pub mod Takings
pub mod Accepted
pub mod Judged
pub mod Verdicts
pub mod Paired
pub mod Pairs
