pub mod Channels
pub mod Host
pub mod Interp
pub mod Outcome
pub mod Pausing
pub mod Report
pub mod Slices
