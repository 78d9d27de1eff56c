pub mod Questions
pub mod Changes
