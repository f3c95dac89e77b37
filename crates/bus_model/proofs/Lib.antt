pub mod Steps
pub mod Accesses
pub mod LieSteps
pub mod HonestPlaces
pub mod HonestSteps
pub mod FlipSteps
