pub mod Fault
pub mod Format
pub mod Refusals
pub mod Program
pub mod Spelling
pub mod Measurement
