pub mod Procedures
pub mod CommandShape
pub mod Noted
pub mod Coding
pub mod Rename
pub mod BuiltIns
pub mod Places
pub mod Frequent
