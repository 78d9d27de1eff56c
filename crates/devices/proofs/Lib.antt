pub mod Appends
pub mod Holding
pub mod Asking
pub mod Freeing
