pub mod DeviceRuns
pub mod TraceRuns
