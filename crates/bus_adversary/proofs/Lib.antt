pub mod TwoParts
pub mod MaskedBytes
pub mod PlaceEnds
pub mod KeptPlaces
pub mod PlaceChanges
pub mod DueLines
pub mod ScriptTies
pub mod ScriptStates
