pub mod Pages
pub mod ReaddirCalls
