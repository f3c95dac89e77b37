pub mod Fields
pub mod Texts
pub mod Versions
pub mod Verdicts
