pub mod Bits
pub mod Filter
