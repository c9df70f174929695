pub mod Lines
pub mod Members
pub mod Steps
pub mod BegunWords
pub mod SpentLaws
pub mod SpentText
pub mod SpentReading
pub mod RosterLaws
