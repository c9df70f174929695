-- Lemmas on READDIR's pages, one after the other. Serves: `readdir`.
pub mod Pages
pub mod ReaddirCalls
