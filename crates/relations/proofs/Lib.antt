pub mod Pairs
mod Rows
