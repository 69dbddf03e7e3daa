pub mod Names
pub mod Quick
