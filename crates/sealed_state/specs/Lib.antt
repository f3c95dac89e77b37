pub mod ChipState
pub mod StateFault
pub mod StateFile
