-- Lemmas on what calls change and what they leave, one call and runs of calls. Serves: `frames`.
pub mod UnnamedFiles
pub mod BeforeAndAfter
pub mod KeptParts
pub mod Runs
pub mod CallEffects
pub mod LastName
