pub mod Calls
pub mod Arguments
pub mod NodeRequests
pub mod WitnessRequests
pub mod Answers
