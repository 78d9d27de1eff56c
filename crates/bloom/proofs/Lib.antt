pub mod Places
pub mod FilterSteps
