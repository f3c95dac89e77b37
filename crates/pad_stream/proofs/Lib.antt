mod Pieces
pub mod Enciphering
pub mod RisingCounters
pub mod BlocksApart
