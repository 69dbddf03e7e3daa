pub mod Building
pub mod Catching
pub mod Ends
pub mod Found
mod Fronts
pub mod Guarding
pub mod Holding
mod Joined
mod Keeping
pub mod Noting
pub mod Numbering
pub mod Place
pub mod Placing
pub mod RareLemmas
pub mod Reading
pub mod Settling
pub mod Shapes
pub mod Steps
pub mod Whatever
