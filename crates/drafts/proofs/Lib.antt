pub mod Fits
pub mod Replays
