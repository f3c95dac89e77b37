pub mod Side
pub mod OrderError
pub mod TurnOrder
