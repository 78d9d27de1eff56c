pub mod Low
pub mod Lows
