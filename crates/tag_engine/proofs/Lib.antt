pub mod Marks
pub mod LastPlaces
pub mod Forgeries
pub mod Collisions
pub mod Upkeep
