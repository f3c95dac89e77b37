pub mod PlainRun
