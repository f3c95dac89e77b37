pub mod Stream
pub mod Process
