pub mod Findings
pub mod GoodCases
