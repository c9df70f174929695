pub mod FaultySteps
pub mod LoggedPlaces
pub mod Openings
pub mod Runs
pub mod StayingKinds
