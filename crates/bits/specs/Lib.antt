pub mod Bit
pub mod Upto
