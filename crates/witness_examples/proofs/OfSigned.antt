-- Lemmas on histories of signed values. Serves: `signed`.
pub mod Signing
pub mod Auditing
pub mod Showing
pub mod Booking
pub mod Faulting
pub mod ZeroBlocks
pub mod FirstBytes
pub mod ServedTexts
pub mod Serving
pub mod BaseStates
pub mod Basing
pub mod BasedTexts
