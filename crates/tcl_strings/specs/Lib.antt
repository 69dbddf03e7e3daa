pub mod FieldArguments
pub mod FieldGrammar
pub mod FieldLaws
pub mod FormatText
pub mod Grouped
pub mod Shown
pub mod Taken
