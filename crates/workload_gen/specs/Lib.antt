pub mod Text
pub mod Workload
pub mod EndsInWord
