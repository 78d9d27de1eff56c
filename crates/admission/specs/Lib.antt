pub mod Causes
pub mod Admission
