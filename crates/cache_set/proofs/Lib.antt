pub mod Ways
pub mod Sets
pub mod Listed
pub mod Calls
pub mod Bringing
