pub mod Log
pub mod Reading
pub mod Sizes
pub mod Meaning
pub mod Gathering
pub mod Holding
