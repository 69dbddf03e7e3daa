pub mod FirstFit
pub mod FirstPlace
pub mod SeekLemmas
pub mod Sets
pub mod Sought
