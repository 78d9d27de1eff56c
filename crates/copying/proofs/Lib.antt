pub mod Stacking
pub mod Fresh
