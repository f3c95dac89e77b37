pub mod Encrypted
pub mod SecureRam
pub mod Moving
pub mod LineCall
