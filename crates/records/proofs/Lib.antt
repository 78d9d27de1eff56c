pub mod Shaping
pub mod Places
