pub mod DictWords
pub mod Updating
