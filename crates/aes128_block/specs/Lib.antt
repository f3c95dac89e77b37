pub mod Field
pub mod SBox
pub mod Word
pub mod Cipher
pub mod KeyExpansion
pub mod Tables
pub mod InverseCipher
