pub mod Openings
pub mod Placings
pub mod Settling
