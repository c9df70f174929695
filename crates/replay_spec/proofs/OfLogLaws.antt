-- Lemmas on honest logs: their messages, counts and orders. Serves: the laws of `logs`.
pub mod Serving
pub mod Entries
pub mod Numbers
pub mod Received
pub mod Sends
pub mod Counts
