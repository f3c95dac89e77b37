pub mod Loading
pub mod StoredLines
pub mod Turns
pub mod Runs
pub mod Trails
pub mod Progress
pub mod Counting
pub mod Windows
