pub mod Counts
pub mod Round
pub mod Rules
pub mod Outcomes
