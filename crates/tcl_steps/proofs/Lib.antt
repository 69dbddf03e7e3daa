pub mod AskLemmas
pub mod OptionLemmas
mod TopLemmas
pub mod Endings
pub mod FrameCounts
pub mod SetAll
pub mod VariableLemmas
pub mod WordLemmas
