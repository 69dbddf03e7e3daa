pub mod BareWord
pub mod BracedWord
pub mod Indices
pub mod ListCalls
pub mod ListWords
pub mod NumberTexts
pub mod OneCommand
pub mod ReturnOptions
