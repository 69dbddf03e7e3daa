pub mod ChannelLemmas
pub mod GetsLemmas
pub mod InputLemmas
pub mod LeavesLemmas
pub mod NameLemmas
pub mod ReadLemmas
pub mod TakeLemmas
pub mod WordLemmas
mod CountLemmas
