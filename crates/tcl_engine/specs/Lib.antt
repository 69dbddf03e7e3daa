pub mod Answered
pub mod AtOnce
pub mod Hosts
pub mod Hurried
pub mod Kinds
pub mod Leaving
pub mod Undoing
pub mod Ready
