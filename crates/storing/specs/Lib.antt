pub mod Store
pub mod Left
