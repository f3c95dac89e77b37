pub mod Mnemonics
pub mod Registers
pub mod Style
pub mod Text
