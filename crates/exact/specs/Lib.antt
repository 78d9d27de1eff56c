pub mod Exact
pub mod Whole
