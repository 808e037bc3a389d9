pub mod Look
pub mod Coded
pub mod Codes
pub mod Pairs
