pub mod Testing
pub mod NewRecords
pub mod Kept
pub mod Opened
pub mod Giving
pub mod Standing
pub mod Examined
