pub mod Stored
pub mod Entries
pub mod EntriesLemmas
pub mod Records
