pub mod Meaning
pub mod Held
