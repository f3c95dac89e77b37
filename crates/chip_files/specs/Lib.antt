pub mod Program
pub mod Verdict
pub mod Traces
pub mod Orders
pub mod Needs
pub mod Causes
pub mod Taken
pub mod Stop
