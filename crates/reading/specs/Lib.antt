pub mod Faults
pub mod Places
pub mod Splice
pub mod Standing
