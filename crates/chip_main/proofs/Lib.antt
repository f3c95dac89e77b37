pub mod Courses
pub mod RunStatuses
pub mod Outcomes
pub mod RunOutcomes
pub mod Requested
pub mod Faults
pub mod Wholes
pub mod Calls
