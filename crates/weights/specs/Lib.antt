pub mod Semiring
pub mod Ranks
