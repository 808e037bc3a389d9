pub mod Bitwise
pub mod Uptos
pub mod Counts
