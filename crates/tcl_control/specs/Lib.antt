pub mod Arms
pub mod Choices
pub mod Clauses
pub mod Codes
pub mod Conditions
pub mod Returning
pub mod Subjects
pub mod Switching
