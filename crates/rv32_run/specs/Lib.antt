pub mod StoredLines
pub mod ExecutionView
pub mod Execution
pub mod Trail
pub mod Progress
