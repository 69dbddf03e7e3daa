pub mod Indices
pub mod ListCalls
pub mod ListWords
pub mod OneCommand
pub mod ReturnOptions
pub mod SameBrace
