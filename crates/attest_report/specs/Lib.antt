pub mod ToldLayout
pub mod Report
pub mod ToldEnding
pub mod Text
pub mod Refusal
