pub mod Complete
pub mod QuickLemmas
pub mod Sentences
mod Subcommands
