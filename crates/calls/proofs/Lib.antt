pub mod Steps
pub mod OneCall
pub mod Spelling
