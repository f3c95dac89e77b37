pub mod Both
pub mod Finds
pub mod Masks
pub mod Matches
pub mod Names
pub mod Signed
pub mod Words
