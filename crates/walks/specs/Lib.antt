pub mod Descents
pub mod Findings
pub mod Sweeps
