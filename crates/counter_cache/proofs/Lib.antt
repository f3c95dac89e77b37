pub mod Blocks
pub mod Rising
pub mod BlockCopies
pub mod Havings
pub mod Hads
pub mod BlocksMade
pub mod BlocksHad
pub mod Counted
