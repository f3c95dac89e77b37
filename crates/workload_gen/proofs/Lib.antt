pub mod Assembly
pub mod TextProgram
