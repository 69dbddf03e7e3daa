pub mod LoopLists
pub mod Turns
