pub mod Meaning
pub mod Mixture
pub mod Intakes
