pub mod States
pub mod Model
pub mod Refusing
pub mod Admitting
pub mod Putting
pub mod Keeping
pub mod Readings
