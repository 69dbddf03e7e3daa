pub mod Shown
pub mod Works
pub mod Leaves
pub mod Leaving
pub mod Orders
