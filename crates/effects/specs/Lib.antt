pub mod Facts
pub mod Sets
