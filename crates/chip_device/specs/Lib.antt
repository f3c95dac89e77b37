pub mod Device
pub mod Buses
pub mod Printed
pub mod Generated
pub mod Traced
pub mod Judged
pub mod Paired
