pub mod Answering
pub mod Calling
pub mod Landing
mod Hurrying
pub mod Leading
pub mod Owing
mod Readily
mod Quickly
pub mod Scoping
