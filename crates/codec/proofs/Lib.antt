pub mod Leaves
pub mod Dues
