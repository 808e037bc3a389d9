pub mod Faults
pub mod Sheet
pub mod Questions
pub mod Calls
