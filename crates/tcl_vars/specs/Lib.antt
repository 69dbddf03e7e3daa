pub mod Unsetting
pub mod Updating
pub mod Way
pub mod Quick
pub mod Given
pub mod Assigning
