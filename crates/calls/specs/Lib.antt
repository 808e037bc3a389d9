pub mod Kinds
pub mod Spell
