-- Lemmas on the checks of SETATTR, WRITE and what makes a file. Serves: `file_checks`.
pub mod Steps
pub mod Contents
pub mod FreeNames
pub mod Names
pub mod Granted
pub mod GrantedNames
