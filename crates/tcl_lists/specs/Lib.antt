pub mod Joined
pub mod Options
pub mod Patterns
pub mod Sorted
pub mod WordAt
