pub mod Layout
pub mod Reading
pub mod Checking
pub mod Writing
