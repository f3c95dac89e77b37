pub mod App
pub mod Fault
pub mod Request
pub mod Commands
pub mod Words
pub mod Defaults
pub mod Texts
