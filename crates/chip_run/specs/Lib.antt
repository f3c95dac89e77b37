pub mod ByInstruction
pub mod Report
pub mod Run
pub mod Running
pub mod Session
pub mod Pair
