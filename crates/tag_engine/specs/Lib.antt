pub mod Tag
pub mod TagEngine
pub mod Invariant
pub mod LastPlace
