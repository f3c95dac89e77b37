pub mod Parts
pub mod StateBytes
pub mod Ciphers
pub mod Verdicts
