pub mod Read
pub mod OfCalls
pub mod OfNodes
pub mod OfWitnesses
pub mod OfAnswers
