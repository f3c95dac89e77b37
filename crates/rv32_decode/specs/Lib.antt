pub mod Decoding
pub mod Encoding
pub mod Fields
pub mod Search
pub mod Table
pub mod Target
pub mod Words
