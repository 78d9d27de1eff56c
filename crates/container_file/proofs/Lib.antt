pub mod Headers
pub mod Searching
pub mod Appending
pub mod Writes
pub mod Erasing
pub mod Laying
