pub mod Glob
pub mod Seek
