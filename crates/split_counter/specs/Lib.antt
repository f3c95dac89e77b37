pub mod Digits
pub mod CounterBlock
