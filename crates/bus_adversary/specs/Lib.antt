pub mod PlaceBytes
pub mod StoredPlaces
pub mod PlaceCounts
pub mod NextAccess
pub mod Adversary
pub mod ChangedPlaces
pub mod ScriptBus
