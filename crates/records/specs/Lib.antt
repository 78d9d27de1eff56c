pub mod Records
pub mod Limits
pub mod Shapes
pub mod Refusals
