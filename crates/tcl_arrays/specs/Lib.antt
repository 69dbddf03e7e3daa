pub mod Completes
pub mod Changes
