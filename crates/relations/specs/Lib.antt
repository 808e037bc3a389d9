pub mod Entries
pub mod Relations
pub mod EntriesLemmas
