pub mod Counters
pub mod Having
pub mod HadCounters
