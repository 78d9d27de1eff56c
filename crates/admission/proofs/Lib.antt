pub mod Searching
pub mod Repeats
pub mod Soundness
