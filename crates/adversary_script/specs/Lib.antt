pub mod Fault
pub mod Words
pub mod Reading
pub mod Grammar
pub mod Script
pub mod Parts
