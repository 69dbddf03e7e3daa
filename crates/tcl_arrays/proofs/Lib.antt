pub mod PageLemmas
pub mod Endings
pub mod SetLemmas
pub mod UnsetLemmas
pub mod ChangeEndings
pub mod Walks
pub mod EditForms
